pub mod Meaning
pub mod Parts
pub mod Ours
pub mod Counting
pub mod Walking
pub mod Layers
