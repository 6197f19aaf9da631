-- No public clause reaches these: the room of a memory, and what of it is kept.
pub mod Room
