pub mod AnyRows
