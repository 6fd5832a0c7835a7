pub mod RunPlaces
pub mod RunReading
pub mod RunRowLaws
pub mod RunsAgain
pub mod RunsOfBits
