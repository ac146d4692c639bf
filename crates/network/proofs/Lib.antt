pub mod Agrees
mod Choosing
mod Crossings
pub mod Finds
mod Flagged
mod Picks
mod Rows
mod Steps
mod Tables
mod Values
mod Walks
