pub mod Derived
pub mod Faults
pub mod Search
pub mod Spans
pub mod Marks
