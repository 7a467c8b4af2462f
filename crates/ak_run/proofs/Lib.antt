pub mod Sound
mod Watching
mod Serving
mod Same
mod Starting
mod Concerned
mod Marking
mod Moving
mod MarkedMoves
mod Bounds
mod Cuts
