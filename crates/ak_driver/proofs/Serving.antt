-- How a request is served: which move the rules give, that it is granted, and that there is a free frame.
pub mod Finding
pub mod Pigeons
pub mod MovesLeft
pub mod CyclesLeft
pub mod ServingSteps
pub mod StateViews
pub mod ServingRules
pub mod AnsweredRequest
pub mod RoomForPages
