-- What is proved of the exports.
pub mod Same
