pub mod Late
pub mod Fresh
pub mod Raised
pub mod Passing
