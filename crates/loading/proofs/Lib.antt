pub mod Celled
pub mod Formed
pub mod Growing
pub mod Entering
pub mod Finishing
pub mod Ranges
