pub mod Answering
pub mod FilledRows
pub mod Accepted
pub mod Capped
pub mod FormedCosts
pub mod Found
pub mod TableCells
