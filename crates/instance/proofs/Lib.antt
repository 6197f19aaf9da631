pub mod Fronts
pub mod SegmentsAreWritten
pub mod Initial
pub mod FreshStores
pub mod CallersByNumber
