-- What a call makes are numbers where each cell that its rules make is one.
use Rattle.std.proofs.Common.{◌≡◌, ap, subst, ℕ, ◌+◌, List, [], ◌∷◌, ◌++◌, length, map, drop}
use Rattle.std.specs.Prelude.{unwrap_or}
use Rattle.std.specs.List.{AllByRecursion, Contains}
use Rattle.std.proofs.lemmas.List.Elements.{Contains-append_left, Contains-append_right}
use Rattle.pb_base.proofs.ListLemmas.{in_head, in_tail}
use Rattle.pb_values.specs.declared.outcome.Outcome.{Outcome}
use Rattle.pb_program.specs.Configs.{ConfigValue}
use Rattle.pb_program.specs.Forms.{DeclValue}
use Rattle.pb_program.specs.Trees.{ProgTransform}
use Rattle.pb_model.specs.Calls.{Outcomes, Plans, call_of, cell_outcome, cells_from, made_cells, made_from, matrix_cells, no_outcome, outcome_in}
use Rattle.pb_model.specs.Cells.{Cell}
use Rattle.pb_model.proofs.CallLemmas.{here_is}
use Rattle.pb_demo_runs.proofs.Nines.{AllHold, IsNumber}

each_of : {A B : Type 0} (P : B → Type 0) (f : A → B) (xs : List A) → ((x : A) → Contains xs x → P (f x)) → AllByRecursion P (map f xs)
each_of P f [] each = tt
each_of P f (x ∷ xs) each = (each x (in_head x xs), each_of P f xs (λ y has. each y (in_tail x y xs has)))

module _ (config : ConfigValue) (plans : Plans) (number : ℕ) (t : ProgTransform) (sizes : List ℕ) (ins : List Outcomes) where
  abbrev own : Cell → Outcome
  own = cell_outcome config plans number t sizes ins

  from_numbers : (m : ℕ) (ds : List DeclValue) → ((c : Cell) → Contains (cells_from sizes m ds) c → IsNumber (own c)) → AllHold IsNumber (made_from config plans number t sizes ins m ds)
  from_numbers m [] each = tt
  from_numbers m (d ∷ ds) each = (
    each_of IsNumber own (matrix_cells sizes m d) (λ c has. each c (Contains-append_left (matrix_cells sizes m d) (cells_from sizes (m + 1) ds) c has)),
    from_numbers (m + 1) ds (λ c has. each c (Contains-append_right (matrix_cells sizes m d) (cells_from sizes (m + 1) ds) c has)),
  )

  pub made_numbers : length ins ≡ t.inputs → ((c : Cell) → Contains (made_cells t sizes) c → IsNumber (outcome_in (ins ++ call_of config plans number t sizes ins) c)) → AllHold IsNumber (call_of config plans number t sizes ins)
  unfolding call_of made_cells
  made_numbers room each =
      from_numbers t.inputs (drop t.inputs t.matrices)
      (λ c has. subst IsNumber (ap (λ o. unwrap_or o no_outcome) (here_is config plans number t sizes ins room c has)) (each c has))
