pub mod Requests
pub mod Commands
pub mod Options
pub mod Values
pub mod Words
pub mod Grammar
pub mod Laws
