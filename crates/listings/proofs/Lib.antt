pub mod Placing
pub mod Spelling
pub mod Soundly
pub mod Alone
