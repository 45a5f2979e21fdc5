pub mod Looking
mod Waiting
mod NearOnes
