pub mod Code
pub mod First
pub mod Text
