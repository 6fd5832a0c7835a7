pub mod FirstPlace
pub mod Packed
pub mod Ranges
pub mod Spare
pub mod SpareTold
pub mod SpareWords
pub mod StoredLaws
pub mod Words
