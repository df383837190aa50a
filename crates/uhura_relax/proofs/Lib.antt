mod Turning
mod TurnedWalk
mod Placed
mod LoosenedCase
mod Opposites
mod FromZero
mod LeastTimes
