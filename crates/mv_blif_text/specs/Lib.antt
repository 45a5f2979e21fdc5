pub mod BlifText
