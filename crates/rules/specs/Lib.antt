pub mod Steps
pub mod Distance
pub mod Pair
pub mod Kinds
