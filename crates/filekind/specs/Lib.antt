pub mod Outside
pub mod Format
pub mod Named
