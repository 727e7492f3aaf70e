mod Write
mod Read
mod Heard
pub mod Spelled
