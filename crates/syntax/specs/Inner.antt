-- No public clause reaches these: operations as tokens, and how they, names, lists of types and initializers are kept.
pub mod Beside
pub mod See
pub mod Payloads
pub mod Tokens
pub mod Kept
pub mod Longs
pub mod Initializers
