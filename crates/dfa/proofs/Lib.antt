pub mod Placing
pub mod Growth
pub mod Rightly
pub mod Adding
pub mod Finishing
pub mod Following
