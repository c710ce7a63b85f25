mod Vanishing
mod Targets
