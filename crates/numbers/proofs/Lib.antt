pub mod Fields
pub mod NumberBits
pub mod PackedNumberLaws
pub mod PackedPlaces
pub mod PlainNumberLaws
pub mod Widths
