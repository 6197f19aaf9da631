pub mod Requests
pub mod Counts
pub mod Lists
pub mod Places
pub mod Filtered
