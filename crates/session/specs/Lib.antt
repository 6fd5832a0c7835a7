pub mod Asks
pub mod Cursors
pub mod Histories
pub mod Keeps
pub mod Law
pub mod Outcomes
pub mod Rolls
pub mod Tables
