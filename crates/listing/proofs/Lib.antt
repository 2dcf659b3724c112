pub mod Ranges
pub mod WorkedRows
pub mod ListedPairs
pub mod Overlong
pub mod WorkedAgain
mod Turns
pub mod Memory
