pub mod Requests
pub mod Apps
pub mod Texts
