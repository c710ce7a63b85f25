pub mod Tiling
