pub mod Bytes
pub mod Standing
pub mod Checking
pub mod Lying
pub mod Accepting
pub mod Laying
