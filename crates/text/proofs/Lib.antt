pub mod Decimal
pub mod Lines
pub mod Copy
pub mod Lengths
