pub mod Looks
pub mod Answers
