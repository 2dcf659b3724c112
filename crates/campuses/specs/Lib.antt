pub mod Campuses
pub mod Asked
pub mod Sheets
pub mod Hazards
