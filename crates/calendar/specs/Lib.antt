pub mod Week
pub mod Numbers
pub mod Meaning
pub mod Layers
pub mod Rows
pub mod Making
