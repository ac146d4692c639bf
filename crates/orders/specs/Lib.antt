pub mod Numbers
pub mod Standing
pub mod Book
pub mod Runs
pub mod Calls
pub mod Lists
