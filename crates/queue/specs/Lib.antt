pub mod Meaning
pub mod Calls
pub mod Refusals
pub mod Drained
