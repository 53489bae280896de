pub mod Completed
pub mod Shown
pub mod SymbolsGiven
pub mod SoundSymbols
pub mod SoundFaults
