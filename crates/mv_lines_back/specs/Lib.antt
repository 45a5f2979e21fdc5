pub mod TextWords
