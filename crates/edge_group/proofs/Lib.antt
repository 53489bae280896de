mod Grown
mod Searched
mod Closer
mod Paths
mod Relating
