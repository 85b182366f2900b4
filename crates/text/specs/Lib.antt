pub mod Parts
pub mod Lines
pub mod Left
pub mod Numbers
pub mod Output
