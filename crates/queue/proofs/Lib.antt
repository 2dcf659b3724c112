pub mod DrainSteps
pub mod EachOnce
pub mod DrainedPlaces
