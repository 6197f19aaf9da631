-- No public clause reaches these: the hosts of a run.
pub mod Serving
pub mod WorkHosting
pub mod Ready
pub mod Going
