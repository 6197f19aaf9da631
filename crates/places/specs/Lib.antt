pub mod Spans
pub mod Walks
pub mod Told
pub mod Names
pub mod Lengths
pub mod Places
pub mod Spots
pub mod OperationNames
