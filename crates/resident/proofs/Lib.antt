pub mod Words
mod AnyHost
mod NoHostNames
mod Numbered
mod Refused
mod SlicesAreOneCall
mod Through
mod Written
