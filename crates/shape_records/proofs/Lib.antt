pub mod Boxes
pub mod Contents
pub mod Records
