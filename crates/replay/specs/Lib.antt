pub mod Entries
pub mod Pool
pub mod Moment
pub mod Says
pub mod Due
pub mod Leaves
pub mod Replayed
pub mod Keeping
