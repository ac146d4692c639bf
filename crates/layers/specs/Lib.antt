pub mod Below
pub mod Means
