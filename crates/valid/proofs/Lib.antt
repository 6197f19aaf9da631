pub mod Words
pub mod Items
pub mod Lands
pub mod RowsTold
pub mod Kept
pub mod SameTypes
