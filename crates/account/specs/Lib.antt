pub mod Lines
pub mod Account
pub mod Enough
