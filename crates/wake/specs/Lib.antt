pub mod Jobs
pub mod Machines
pub mod Plans
pub mod Edls
