-- No public clause reaches these: how the rule of its requests is kept.
pub mod Law
pub mod Rule
