pub mod Fields
pub mod Form
pub mod WellFormed
