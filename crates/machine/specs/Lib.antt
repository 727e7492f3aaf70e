pub mod Sound
pub mod Promises
