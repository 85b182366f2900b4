pub mod Words
pub mod Said
pub mod Conditions
pub mod Reading
pub mod Spells
pub mod Judged
