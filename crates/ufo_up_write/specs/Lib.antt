pub mod WriteUp
