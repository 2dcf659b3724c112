pub mod AllRows
pub mod Lines
pub mod Report
pub mod Enough
pub mod InTurn
