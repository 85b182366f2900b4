pub mod Verdicts
pub mod Automaton
pub mod Runs
pub mod Tables
pub mod Rows
pub mod Crossings
pub mod Pairs
pub mod Theorems
