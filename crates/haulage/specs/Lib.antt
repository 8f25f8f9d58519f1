pub mod Haulage
