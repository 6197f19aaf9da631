pub mod Defects
pub mod RefusalPlaces
