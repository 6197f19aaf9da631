-- No public clause reaches these: what a seat knows after a step.
pub mod Steps
