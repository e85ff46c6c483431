pub mod Header
pub mod Face
pub mod Promise
