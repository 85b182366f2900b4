pub mod Ranging
pub mod Laws
pub mod Blank
pub mod Counting
pub mod Pairing
