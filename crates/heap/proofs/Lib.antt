pub mod Moves
pub mod Sifts
pub mod Turns
pub mod Waiters
