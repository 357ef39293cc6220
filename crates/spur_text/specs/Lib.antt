pub mod Digits
pub mod Words
pub mod Line
pub mod Written
