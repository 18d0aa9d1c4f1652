pub mod Faults
pub mod Fillings
pub mod Picks
pub mod Places
