pub mod WriteDown
