pub mod Places
pub mod Adding
pub mod Mapped
pub mod Naming
