-- Beside what runs mean, for the proofs: plain steps, and runs by the places of their calls.
pub mod Plainly
