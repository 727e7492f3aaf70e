pub mod Texts
pub mod Calling
pub mod Tables
