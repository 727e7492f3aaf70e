pub mod Layout
pub mod Checks
pub mod Accepted
pub mod Names
