-- Definitions of `pb_names`, handed on: who stands on resolving need not name it.
pub use Rattle.pb_names.specs.Transforms.{HasRefusal, IsRefused, IsResolved, program_of}
