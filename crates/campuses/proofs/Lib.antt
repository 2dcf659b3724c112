pub mod RightSheets
pub mod Expected
pub mod Settled
pub mod Computed
pub mod Tables
