pub mod Program
pub mod Judged
pub mod Refused
pub mod Causes
pub mod Laws
pub mod Texts
