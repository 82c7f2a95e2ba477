mod Replayed
mod Steps
