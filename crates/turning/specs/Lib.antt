-- What a turn gathers from its copy, and that it stands for the state of the solve's definition.
pub mod Gather
pub mod Turning
