pub mod Memory
pub mod Lists
pub mod Replaying
pub mod Underway
pub mod Kept
