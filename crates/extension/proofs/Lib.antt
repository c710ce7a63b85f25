mod Values
mod PairBlocks
mod Completing
