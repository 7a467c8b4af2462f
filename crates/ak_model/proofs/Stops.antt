-- Lemmas of this room: the move to blame for a stop, and how a stop shows.
pub mod ToldFaultTurns
pub mod ToldFaultTrace
pub mod LeavingTurns
pub mod InWasMapped
pub mod StoppingMove
pub mod LastFault
pub mod LastFaultTrace
pub mod AskedSinceReturn
pub mod FaultIsLast
pub mod MovesAtPlaces
pub mod BlamedMove
pub mod ShownStops
