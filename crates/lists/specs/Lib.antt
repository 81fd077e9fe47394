pub mod Reflect
pub mod Search
pub mod Lists
