pub mod Crew
pub mod RequestsRise
pub mod Senders
