pub mod Steps
pub mod Law
pub mod Seen
pub mod Slots
pub mod Taking
