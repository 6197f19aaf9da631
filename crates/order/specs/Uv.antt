-- What a call of "uv" reads, writes and answers.
pub mod Bytes
pub mod Numbers
