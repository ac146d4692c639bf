pub mod Roads
pub mod Sums
pub mod Numbers
pub mod Paths
pub mod Taken
pub mod Floors
pub mod Owns
pub mod Held
