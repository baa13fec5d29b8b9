pub mod Rolled
