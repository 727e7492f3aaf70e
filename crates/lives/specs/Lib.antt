pub mod Apart
pub mod Whole
