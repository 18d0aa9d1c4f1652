mod Changed
pub mod Firsts
pub mod Reasons
