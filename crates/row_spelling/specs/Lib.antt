pub mod Quoted
