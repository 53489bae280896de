pub mod InputLaws
pub mod Stops
mod FacesJoined
mod SeenJoined
