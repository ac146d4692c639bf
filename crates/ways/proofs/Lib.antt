pub mod Asked
pub mod Noted
pub mod Totals
pub mod Fits
pub mod Routes
pub mod Rightly
pub mod Copied
pub mod Ranges
