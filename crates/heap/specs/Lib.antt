pub mod Heaped
pub mod Order
pub mod Paired
pub mod Seating
pub mod Sifting
pub mod Swapped
pub mod Waiting
pub mod Whole
