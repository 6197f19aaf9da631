-- No public clause reaches this: how targets are kept.
pub mod Packing
