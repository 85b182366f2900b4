pub mod Listing
pub mod Listed
pub mod Placed
