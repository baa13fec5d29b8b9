pub mod Bulletin
