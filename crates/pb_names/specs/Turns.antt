-- Items of a text in turn, each seeing what those before it declare.
use Rattle.std.specs.Prelude.{List, [], ◌∷◌, ◌++◌}
use Rattle.pb_names.specs.declared.fault.Fault.{Fault}

module _ {S A : Type 0} (next : S → A → S) where
  -- what is seen after them
  abbrev pub after_turns : S → List A → S
  after_turns s [] = s
  after_turns s (x ∷ rest) = after_turns (next s x) rest

  -- what each is made to
  abbrev pub turns : {B : Type 0} → (S → A → B) → S → List A → List B
  turns made s [] = []
  turns made s (x ∷ rest) = made s x ∷ turns made (next s x) rest

  -- their faults, in the order of the text
  abbrev pub turn_faults : (S → A → List Fault) → S → List A → List Fault
  turn_faults faults s [] = []
  turn_faults faults s (x ∷ rest) = faults s x ++ turn_faults faults (next s x) rest
