pub mod Cells
pub mod Fields
pub mod Telling
pub mod Drawn
