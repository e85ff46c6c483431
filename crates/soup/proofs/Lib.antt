pub mod Linefeed
pub mod Lines
pub mod Together
pub mod Types
pub mod Sorting
pub mod Fields
pub mod SpeltAnew
pub mod Exact
pub mod Spelling
pub mod Order
pub mod Specimen
pub mod Blank
pub mod Nameless
mod Settled
