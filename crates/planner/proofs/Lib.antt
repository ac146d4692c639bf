pub mod Found
pub mod Given
pub mod Lawful
pub mod Serving
pub mod Skips
pub mod Taking
