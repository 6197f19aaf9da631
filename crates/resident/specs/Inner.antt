-- No public clause reaches these.
pub mod Going
