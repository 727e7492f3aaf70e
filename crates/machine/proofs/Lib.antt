pub mod Sounds
pub mod Steps
pub mod Walks
pub mod Faith
pub mod Booting
