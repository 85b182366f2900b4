pub mod Parting
pub mod Lining
pub mod Reading
pub mod Writing
pub mod Folding
