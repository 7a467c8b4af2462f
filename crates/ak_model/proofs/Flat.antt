-- Lemmas of this room: the program over memory never paged: encodings, instructions, and the flat run.
pub mod FewAccesses
pub mod MoreCallAnswers
pub mod Decoding
pub mod AgreeingBytes
pub mod OneRow
pub mod DecodedBothWays
pub mod ProgramPages
