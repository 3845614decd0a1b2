mod Pairs
mod Speaking
