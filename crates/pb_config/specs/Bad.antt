-- Where a line isn't of the form.
use Rattle.std.specs.Prelude.{◌≡◌, ℕ, Option, None}
use Rattle.pb_config.specs.declared.refusal.ConfigRefusal.{ConfigRefusal}
use Rattle.pb_config.specs.declared.refusal.ConfigRefusal.TheVariants.{BadLine, Memory}

-- nothing is read, and so the line is refused, or memory ran out
abbrev pub IsBad : {A : Type 0} → ℕ → Option A → ConfigRefusal → Type 0
IsBad line read Memory = Unit {0}
IsBad line read (BadLine at) = (at ≡ line) × (read ≡ None)
IsBad line read _ = ⊥
