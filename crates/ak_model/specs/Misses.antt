-- Which accesses were reached, may fault, and are kept; and the misses that a program forces.
pub mod Reached
pub mod FaultingAccess
pub mod Ideal
pub mod KeptTranslations
pub use Reached.*
pub use FaultingAccess.*
pub use Ideal.*
pub use KeptTranslations.*
