pub mod Arrangement
pub mod Numbering
pub mod Training
pub mod Promises
pub mod Numbers
pub mod Placing
pub mod Answers
