-- What a type descriptor is, how it is read, and what is proved of that.
pub mod Read
pub mod Steps
pub mod Laws
pub mod Core
