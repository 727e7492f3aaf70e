pub mod Told
pub mod Shut
