pub mod Again
mod Asked
mod Traces
