-- The slot machine and how it stands for contexts: no part of what a run means.
pub mod PlainSteps
pub mod ValuesRead
pub mod HostAsked
pub mod Laws
