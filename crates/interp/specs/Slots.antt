-- How the slot machine stands for contexts: no part of what a run means.
pub mod CallsBegun
pub mod Holding
pub mod Hosted
pub mod Lying
pub mod Resuming
pub mod Simulating
