-- No public clause reaches these: what a thread has promised, what its seats are, and what it has done with them.
pub mod Alone
pub mod Ends
pub mod Moves
pub mod Places
pub mod Posts
pub mod Promises
pub mod Threads
pub mod Turns
