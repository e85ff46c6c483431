pub mod Numbers
pub mod Down
