pub mod PrintLaw
