-- What a rule gives, where its outputs are left in a scratch.
use Rattle.std.specs.Prelude.{◌≡◌, ℕ, ◌≤◌, ℤ, pos, List, length, map, take, Option, Some, None, Result, Ok, Err}
use Rattle.pb_values.specs.declared.outcome.Kind.{Kind}
use Rattle.pb_values.specs.declared.outcome.Trap.{Trap}
use Rattle.pb_model.specs.Bodies.{Bindings, Store, outputs_from}
use Rattle.pb_linear.specs.Sizes.{sizes_of}
use Rattle.pb_linear.specs.declared.sizes.Sizes.{Sizes}
use Rattle.pb_values.specs.Cells.{Turn}
use Rattle.pb_values.specs.declared.view.View.{View}
use Rattle.pb_statements.specs.Shown.{grid_told}
use Rattle.pb_statements.specs.Stored.{numbers_of, outs_of}
use Rattle.pb_statements.specs.declared.scratch.Scratch.{Scratch}
use Rattle.pb_eval.specs.declared.run.Fault.{Fault}
use Rattle.pb_eval.specs.declared.run.Fault.TheVariants.{Body, Told}

-- so many numbers, which stand in the scratch
pub record AreLeft (n : ℕ) (s : Scratch) (these : List ℤ) : Type 0 where
  pub room : n ≤ outs_of s
  pub left : take n (numbers_of s) ≡ these

-- what a body leaves, whose outputs have these sides
abbrev pub Leaves : List (ℕ × ℕ) → Result Store Kind → Result ℕ Fault → Scratch → Type 0
Leaves sides (Ok st) (Ok n) s = AreLeft n s (outputs_from 0 st sides)
Leaves sides (Err k) (Err f) s = f ≡ Body k
Leaves sides _ _ s = ⊥

-- the first trap, or else what the body leaves
abbrev pub Runs : Option Trap → List (ℕ × ℕ) → Result Store Kind → Result ℕ Fault → Scratch → Type 0
Runs (Some t) sides body r s = r ≡ Err (Told t)
Runs None sides body r s = Leaves sides body r s

-- what the names of a body stand for, over views that are told
unfoldable pub names_of : Turn → Sizes → ℕ → ℕ → List View → List (ℕ × ℕ) → Bindings
names_of turn sizes x y views sides = record { sizes = sizes_of sizes; x = pos x; y = pos y; reads = map (grid_told turn) views; outs = sides }

-- an answer is what a rule gives: the trap, or so many numbers, which stand in the scratch
abbrev pub Gives : Result (List ℤ) Trap → Result ℕ Trap → Scratch → Type 0
Gives (Ok numbers) (Ok n) s = AreLeft n s numbers × (n ≡ length numbers)
Gives (Err t) (Err u) s = u ≡ t
Gives _ _ s = ⊥
