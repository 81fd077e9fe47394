pub mod Rivals
