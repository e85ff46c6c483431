pub mod Stretches
pub mod Searches
pub mod TakenLines
pub mod Ready
pub mod Gathers
pub mod Takes
pub mod Eats
pub mod Turns
pub mod Order
pub mod Closes
pub mod Genuine
pub mod Cutting
pub mod Whole
pub mod Reaching
pub mod Callers
pub mod Contracted
mod Settled
pub mod Overlong
pub mod Counting
pub mod Streams
pub mod Alone
mod Specimen
