pub mod Book
pub mod Entry
