pub mod AfterOnce
pub mod Answers
pub mod AtDesk
pub mod HandedOut
pub mod Histories
pub mod Joint
pub mod Inner
