pub mod Demonstrations
