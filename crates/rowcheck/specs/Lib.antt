pub mod Answer
pub mod Parts
pub mod Stations
pub mod Links
