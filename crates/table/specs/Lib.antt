pub mod Workloads
pub mod Common
pub mod Searches
pub mod Cycles
pub mod Allowances
pub mod Rungs
pub mod Admissions
pub mod Tables
