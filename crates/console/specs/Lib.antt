pub mod Spans
pub mod Pages
