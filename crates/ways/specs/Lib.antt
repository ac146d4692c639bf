pub mod Hours
pub mod Right
pub mod Routes
pub mod Ways
pub mod Sought
