mod PlaneBytes
mod RowText
mod TableText
mod LatchText
mod Whole
