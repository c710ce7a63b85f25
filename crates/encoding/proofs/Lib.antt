mod Accepted
mod PowerBlocks
mod Joined
