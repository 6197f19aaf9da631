pub mod Calls
pub mod InvocationParts
pub mod NoRefusal
pub mod WordsSpell
