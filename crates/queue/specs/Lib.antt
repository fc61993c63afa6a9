-- What the queue's functions do, and that they do to the list it shows what the solve's definition does.
pub mod Ring
pub mod Laws
