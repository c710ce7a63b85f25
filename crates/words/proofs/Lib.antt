pub mod Words
mod Adding
