-- What the contracts cite, that it is the incoming links of the solve's definition, and the steps of the code.
pub mod Linking
pub mod Laws
