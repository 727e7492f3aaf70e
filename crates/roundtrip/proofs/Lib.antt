pub mod Parsing
pub mod Telling
pub mod Told
