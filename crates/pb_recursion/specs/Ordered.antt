-- Plans that pass on what is there: each argument of a call is a read, or what an earlier call has made; and in the end each output is made.
use Rattle.std.specs.Prelude.{ℕ, ◌<◌, List, [], ◌∷◌, ◌++◌}
use Rattle.std.specs.List.{AllByRecursion, Contains}
use Rattle.pb_program.specs.declared.plan.Slot.{Slot}
use Rattle.pb_program.specs.declared.plan.Slot.TheVariants as slot
use Rattle.pb_program.specs.Plans.{PlanCallValue}

-- a read is given, and so is what is made
abbrev pub IsGiven : List Slot → Slot → Type 0
IsGiven made (slot.Read k) = Unit {0}
IsGiven made (slot.Out k) = Contains made (slot.Out k)
IsGiven made (slot.Local k) = Contains made (slot.Local k)

-- call by call, where these were targets before, of a rule with so many outputs
abbrev pub AreOrdered : ℕ → List Slot → List PlanCallValue → Type 0
AreOrdered outputs made [] = (k : ℕ) → k < outputs → Contains made (slot.Out k)
AreOrdered outputs made (c ∷ rest) = AllByRecursion (IsGiven made) c.arguments × AreOrdered outputs (c.targets ++ made) rest
