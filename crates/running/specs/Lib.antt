pub mod Accepted
pub mod Arguments
pub mod Calling
pub mod Invoking
pub mod Scripting
pub mod Statuses
pub mod Working
