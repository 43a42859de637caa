-- Kinds of traps as words.
use Rattle.std.specs.Prelude.{ℕ, zero, suc}
use Rattle.pb_values.specs.declared.outcome.Kind.{Kind}
use Rattle.pb_values.specs.declared.outcome.Kind.TheVariants as kind

-- the kind that a word stands for
abbrev pub kind_in : ℕ → Kind
kind_in zero = kind.Overflow
kind_in (suc zero) = kind.DivideByZero
kind_in (suc (suc zero)) = kind.OutOfView
kind_in (suc (suc (suc zero))) = kind.LoopLimit
kind_in (suc (suc (suc (suc zero)))) = kind.BadShape
kind_in (suc (suc (suc (suc (suc n))))) = kind.DepthEnded
