mod DataWalk
mod Framing
mod Pads
mod Squeezes
mod Titled
mod Turns
mod Walks
mod Words
