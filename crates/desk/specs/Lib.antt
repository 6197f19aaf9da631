pub mod Desk
pub mod Inner
pub mod Laws
pub mod Others
