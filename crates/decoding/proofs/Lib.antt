mod Accepted
mod ReadBack
