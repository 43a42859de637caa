-- What a formula makes of a cell.
use Rattle.std.proofs.Common.{◌≡◌, ◌∙◌, refl, sym, ap, ℕ, ◌<◌, ℤ, List, [], ◌∷◌, length, map, Option, Some, None, Ok, Err, Result}
use Rattle.std.specs.Prelude.{slice_index_or}
use Rattle.std.specs.List.{All}
use Rattle.std.proofs.lemmas.List.Elements.{All-head}
use Rattle.pb_linear.specs.Sizes.{sizes_of}
use Rattle.pb_linear.specs.declared.sizes.Sizes.{Sizes}
use Rattle.pb_values.specs.Cells.{Turn}
use Rattle.pb_values.specs.declared.outcome.Kind.{Kind}
use Rattle.pb_values.specs.declared.outcome.Outcome.{Outcome}
use Rattle.pb_values.specs.declared.outcome.Outcome.TheVariants.{Value, Trapped}
use Rattle.pb_values.specs.declared.outcome.Trap.{Trap}
use Rattle.pb_values.specs.declared.view.View.{View}
use Rattle.pb_program.specs.declared.expression.Expr.{Expr}
use Rattle.pb_program.specs.declared.rule.RuleKind.{RuleKind}
use Rattle.pb_program.specs.declared.rule.RuleKind.TheVariants as kind
use Rattle.pb_program.specs.declared.view.Read.{Read}
use Rattle.pb_program.specs.Exprs.{bare}
use Rattle.pb_program.specs.Forms.{DeclValue}
use Rattle.pb_program.specs.Stmts.{stmts}
use Rattle.pb_program.specs.Trees.{ProgRule}
use Rattle.pb_program.specs.WellFormed.{KindFits}
use Rattle.pb_model.specs.Bodies.{Bindings, after_all, assigned, at_first, if_ok, left_by, only_place, output, outputs_from, place_of, value, with_number}
use Rattle.pb_model.specs.Equations.{after_body, first_trap, own_number, own_outcome, rule_gives, trap_of, trap_place, unless_trapped}
use Rattle.pb_eval.specs.CanRun.{AreReads, at_variables, IsRunnable}
use Rattle.pb_eval.specs.Formulas.{IsFormula}
use Rattle.pb_statements.specs.Stored.{IsBlank, bound, store_of}
use Rattle.pb_statements.specs.Outputs.{free_sides}
use Rattle.pb_eval.specs.Running.{names_of}
use Rattle.pb_statements.specs.Shown.{around_of, seen_by}
use Rattle.pb_statements.specs.Working.{value_in}
use Rattle.pb_statements.specs.declared.scratch.Scratch.{Scratch}
use Rattle.pb_eval.proofs.GiveLemmas.{rule_is}
use Rattle.pb_statements.proofs.OutLemmas.{lone_cell}
use Rattle.pb_eval.proofs.RunLemmas.{bound_names}

-- ---- a rule with a formula
-- unless a trap is read, the value, or its trap
abbrev pub made_by : Option Trap → Result ℤ Kind → (Kind → Trap) → Outcome
made_by (Some t) v trap = Trapped t
made_by None (Ok n) trap = Value n
made_by None (Err k) trap = Trapped (trap k)

-- a trap at a cell
abbrev pub trap_at : ℕ → ℕ → ℕ → ℕ → Kind → Trap
trap_at x y t r k = record { kind = k; transform = t; rule = r; x = x; y = y }

cell_sides : (matrices : List DeclValue) (sizes : List ℕ) (k : RuleKind) (outs : List Read) → k ≡ kind.Cell → KindFits k outs → All (λ o. o.matrix < length matrices) outs → ◌≡◌ {A = List (ℕ × ℕ)} (map (free_sides matrices sizes) outs) ((1, 1) ∷ [])
cell_sides matrices sizes kind.Cell [] e h there = absurd h
cell_sides matrices sizes kind.Cell (o ∷ []) e h there = ap (λ s. s ∷ []) (lone_cell matrices sizes o h.cell (All-head (λ p. p.matrix < length matrices) o [] there))
cell_sides matrices sizes kind.Cell (o ∷ q ∷ outs) e h there = absurd h
cell_sides matrices sizes kind.Wide outs e h there = absurd (cc)
cell_sides matrices sizes kind.Plan outs e h there = absurd (cc)

module _ (matrices : List DeclValue) (sizes : List ℕ) (x y t r : ℕ) (rule : ProgRule) (cell : rule.kind ≡ kind.Cell) where
  at_cell : (k : Kind) → trap_of matrices sizes (at_variables x y) t r rule k ≡ trap_at x y t r k
  at_cell k = ap (λ q. record { kind = k; transform = t; rule = r; x = (trap_place matrices sizes (at_variables x y) q rule.outs).0; y = (trap_place matrices sizes (at_variables x y) q rule.outs).1 }) cell

  -- what is left where the value is this
  made : (b : Bindings) (q : Result ℤ Kind) → own_outcome matrices sizes (at_variables x y) rule
      (after_body (if_ok (if_ok q (assigned at_first (Some (output 0 0 0)))) (λ st. Ok st)) (λ st. outputs_from 0 st ((1, 1) ∷ [])) (trap_of matrices sizes (at_variables x y) t r rule)) ≡ made_by None q (trap_at x y t r)
  unfolding with_number
  made b (Ok n) = ap (λ k. Value (own_number matrices sizes (at_variables x y) k rule.outs (n ∷ []))) cell
  made b (Err k) = ap (λ u. Trapped u) (at_cell k)

  module _ (b : Bindings) (one : ◌≡◌ {A = List (ℕ × ℕ)} b.outs ((1, 1) ∷ [])) (e : Expr) (f : IsFormula rule e) where
    placed : place_of b f.target.what ≡ Some (output 0 0 0)
    placed = ap (place_of b) f.output ∙ ap (λ (l : List (ℕ × ℕ)). only_place 0 (slice_index_or l 0 (0, 0))) one

    left : left_by b (stmts rule.body) ≡ if_ok (if_ok (value b at_first (bare e)) (assigned at_first (Some (output 0 0 0)))) (λ st. Ok st)
    unfolding after_all
    left = ap (λ ss. left_by b (stmts ss)) f.body ∙ ap (λ p. if_ok (if_ok (value b at_first (bare e)) (assigned at_first p)) (λ st. Ok st)) placed

    pub by_formula : (o : Option Trap) → own_outcome matrices sizes (at_variables x y) rule (unless_trapped o (after_body (left_by b (stmts rule.body)) (λ st. outputs_from 0 st ((1, 1) ∷ [])) (trap_of matrices sizes (at_variables x y) t r rule)))
        ≡ made_by o (value b at_first (bare e)) (trap_at x y t r)
    by_formula (Some u) = refl
    by_formula None = ap (λ l. own_outcome matrices sizes (at_variables x y) rule (after_body l (λ st. outputs_from 0 st ((1, 1) ∷ [])) (trap_of matrices sizes (at_variables x y) t r rule))) left ∙ made b (value b at_first (bare e))

module _ (turn : Turn) (s : Sizes) (x y t r : ℕ) (views : List View) (e : Expr) where
  -- what a formula makes is what its rule gives
  pub formula_gives : (matrices : List DeclValue) (rule : ProgRule) → IsRunnable matrices rule → rule.kind ≡ kind.Cell → IsFormula rule e → AreReads matrices (sizes_of s) (at_variables x y) rule views turn
      → made_by (first_trap (seen_by turn views)) (value (names_of turn s x y views ((1, 1) ∷ [])) at_first (bare e)) (trap_at x y t r)
      ≡ own_outcome matrices (sizes_of s) (at_variables x y) rule (rule_gives matrices (sizes_of s) (at_variables x y) t r rule (seen_by turn views))
  unfolding names_of
  formula_gives matrices rule run cell f reads =
      let sides = cell_sides matrices (sizes_of s) rule.kind rule.outs cell run.fits run.there in
      sym (ap (own_outcome matrices (sizes_of s) (at_variables x y) rule) (rule_is turn matrices s x y t r rule views run reads)
      ∙ ap (λ (l : List (ℕ × ℕ)). own_outcome matrices (sizes_of s) (at_variables x y) rule (unless_trapped (first_trap (seen_by turn views)) (after_body (left_by (names_of turn s x y views l) (stmts rule.body)) (λ st. outputs_from 0 st l) (trap_of matrices (sizes_of s) (at_variables x y) t r rule)))) sides
      ∙ by_formula matrices (sizes_of s) x y t r rule cell (names_of turn s x y views ((1, 1) ∷ [])) refl e f (first_trap (seen_by turn views)))

  -- the value around a blank scratch
  pub value_is : (scratch : Scratch) → IsBlank scratch → value_in (bound (around_of turn s x y views) scratch) (store_of scratch) e ≡ value (names_of turn s x y views ((1, 1) ∷ [])) at_first (bare e)
  unfolding value_in
  value_is scratch blank = ap (λ st. value (bound (around_of turn s x y views) scratch) st (bare e)) blank.store ∙ ap (λ b. value b at_first (bare e)) (bound_names turn s x y views ((1, 1) ∷ []) scratch blank.sides)

  pub made_trap : (o : Option Trap) (u : Trap) (v : Result ℤ Kind) → Some u ≡ o → Trapped u ≡ made_by o v (trap_at x y t r)
  made_trap o u v h = ap (λ p. made_by p v (trap_at x y t r)) h

  pub made_value : (o : Option Trap) (n : ℤ) (v : Result ℤ Kind) → None ≡ o → v ≡ Ok n → Value n ≡ made_by o v (trap_at x y t r)
  made_value o n v h m = sym (ap (λ p. made_by p v (trap_at x y t r)) (sym h) ∙ ap (λ w. made_by None w (trap_at x y t r)) m)

  pub made_fault : (o : Option Trap) (k : Kind) (v : Result ℤ Kind) → None ≡ o → v ≡ Err k → Trapped (record { kind = k; transform = t; rule = r; x = x; y = y }) ≡ made_by o v (trap_at x y t r)
  made_fault o k v h m = sym (ap (λ p. made_by p v (trap_at x y t r)) (sym h) ∙ ap (λ w. made_by None w (trap_at x y t r)) m)
