pub mod Marks
pub mod Rests
pub mod Inputs
pub mod Joins
pub mod Firsts
pub mod Tables
