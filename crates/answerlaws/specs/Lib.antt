-- That an answer of resolve_state is a legal type: slices and frames both cite it.
pub mod Legal
