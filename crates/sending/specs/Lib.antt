-- How what a component's state gives is sent, and that it is what the solve's definition gives.
pub mod Sending
pub mod Laws
