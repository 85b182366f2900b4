pub mod Rows
pub mod Known
pub mod Filled
pub mod Asked
pub mod Shelved
