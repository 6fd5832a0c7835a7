pub mod RunMeaning
pub mod RunRoom
pub mod RunRows
pub mod RunWords
pub mod Runs
