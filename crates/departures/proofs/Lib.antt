pub mod Counts
pub mod Ends
pub mod Placing
pub mod Parts
