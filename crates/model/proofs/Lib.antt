pub mod Calling
pub mod Booting
pub mod Rings
pub mod Asking
pub mod Outcomes
