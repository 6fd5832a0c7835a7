pub mod NumberWords
pub mod NumbersIn
pub mod PackedMeaning
pub mod PackedNumberRows
pub mod PlainMeaning
pub mod PlainNumberRows
pub mod Rooms
