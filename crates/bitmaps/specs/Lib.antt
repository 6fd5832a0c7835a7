pub mod BitRows
pub mod Counts
pub mod PlainMeaning
pub mod PlainRoom
pub mod PlainRows
pub mod Stretches
