-- No public clause reaches these: how a table is kept.
pub mod Codes
pub mod Kept
pub mod Lists
pub mod Parts
