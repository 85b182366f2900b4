pub mod Keys
pub mod Held
pub mod Seats
pub mod Names
pub mod Tables
pub mod NameKeyLemmas
pub mod CrossingTableKeyLemmas
