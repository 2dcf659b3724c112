pub mod Leaving
pub mod Index
pub mod Counting
