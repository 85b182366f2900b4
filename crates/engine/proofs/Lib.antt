pub mod Steps
pub mod Counts
pub mod Follows
pub mod Lawfully
