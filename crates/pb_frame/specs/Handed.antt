-- Definitions of `pb_calls`, handed on: who stands on frames need not name it.
pub use Rattle.pb_calls.specs.Given.{AreGiven, HasSides}
