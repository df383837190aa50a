mod Closing
mod Gathered
mod Least
mod Lowering
mod Moved
mod Passing
mod Rounds
mod Trails
