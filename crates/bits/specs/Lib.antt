pub mod BareMeaning
pub mod StoredRows
pub mod Words
