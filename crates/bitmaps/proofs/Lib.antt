pub mod Blocks
pub mod Following
pub mod Halving
pub mod Ones
pub mod PlainReading
pub mod PlainRowLaws
pub mod Stretches
pub mod Tested
