pub mod NameList
pub mod Partner
pub mod Place
