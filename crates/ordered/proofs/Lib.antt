pub mod Kept
pub mod Lists
pub mod Places
pub mod Sorted
