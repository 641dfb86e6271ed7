pub mod Truthful
