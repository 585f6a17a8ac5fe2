pub mod Healed
