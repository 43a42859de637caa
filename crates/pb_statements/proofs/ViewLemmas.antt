-- What readers tell of views.
use Rattle.std.proofs.Common.{◌≡◌, ◌∙◌, refl, sym, ap, subst, ⊎_elim, ℕ, ℤ, pos, ◌<◌, ◌≤◌, ◌^◌, List, [], ◌∷◌, length, map, get_or, Bool, true, false, IsTrue, Option, Some, None, arith}
use Rattle.std.specs.Prelude.{is_some, slice_index}
use Rattle.std.specs.List.{All, Contains, flat_map, range_with_len}
use Rattle.std.specs.Option.{option_map_or}
use Rattle.std.proofs.lemmas.Bool.{cases_lt}
use Rattle.std.proofs.lemmas.List.{get_or_past}
use Rattle.std.proofs.lemmas.List.Elements.{All-contains}
use Rattle.pb_linear.specs.declared.sizes.TheConstants.{SIZE_TOP}
use Rattle.pb_base.proofs.ListLemmas.{flat_in, in_cases, in_flat, in_head, in_map, in_none, in_range, in_tail, map_in, range_in}
use Rattle.pb_values.specs.Cells.{HasNoTrap, TellsTrap, Turn, is_number}
use Rattle.pb_values.specs.Views.{cell_of, row_cells, view_cells}
use Rattle.pb_values.specs.declared.outcome.Outcome.{Outcome}
use Rattle.pb_values.specs.declared.outcome.Outcome.TheVariants.{Trapped, Value}
use Rattle.pb_values.specs.declared.outcome.Trap.{Trap}
use Rattle.pb_values.specs.declared.view.View.{View}
use Rattle.pb_model.specs.Equations.{first_trap, number_in}
use Rattle.pb_statements.specs.Shown.{HasNumbers, IsTold, number_told, outcome_of, seen_by}
use Rattle.pb_statements.proofs.SceneLemmas.{get_or_any}

-- ---- of one cell
pub told_number : (turn t : Turn) (cell : ℕ) (n : ℤ) → t ≡ turn → t.outcomes cell ≡ Some (Value n) → number_told turn cell ≡ n
unfolding number_told outcome_of
told_number turn t cell n e f =
    ap (λ q. number_in (option_map_or (λ (p : Outcome). p) q (Value (pos 0)))) (ap (λ (u : Turn). u.outcomes cell) (sym e) ∙ f)

pub told_trap : (turn t : Turn) (cell : ℕ) (o : Option Trap) → t ≡ turn → TellsTrap (t.outcomes cell) o → TellsTrap (turn.outcomes cell) o
told_trap turn t cell o e told = subst (λ (u : Turn). TellsTrap (u.outcomes cell) o) e told

pub told_untrapped : (turn t : Turn) (b : Bool) → t ≡ turn → (IsTrue b → HasNoTrap t) → IsTrue b → HasNoTrap turn
told_untrapped turn t b e free h = subst HasNoTrap e (free h)

value_in : (o : Option Outcome) → IsTrue (is_number o) → (n : ℤ) × (option_map_or (λ p. p) o (Value (pos 0)) ≡ Value n)
value_in None h = absurd (let wrong : false ≡ true = h in cc)
value_in (Some (Value n)) h = (n, refl)
value_in (Some (Trapped t)) h = absurd (let wrong : false ≡ true = h in cc)

pub has_value : (turn : Turn) (cell : ℕ) → IsTrue (is_number (turn.outcomes cell)) → (n : ℤ) × (outcome_of turn cell ≡ Value n)
unfolding outcome_of
has_value turn cell h = value_in (turn.outcomes cell) h

pub has_trap : (turn : Turn) (cell : ℕ) (t : Trap) → turn.outcomes cell ≡ Some (Trapped t) → outcome_of turn cell ≡ Trapped t
unfolding outcome_of
has_trap turn cell t e = ap (λ q. option_map_or (λ (p : Outcome). p) q (Value (pos 0))) e

-- ---- of the cells of views
inside : (views : List View) (v : View) (x y : ℕ) → Contains views v → x < v.shape.w → y < v.shape.h → Contains (flat_map view_cells views) (cell_of v x y)
inside views v x y here across down =
    in_flat view_cells views v (cell_of v x y) here (in_flat (row_cells v) _ y (cell_of v x y) (in_range v.shape.h y down) (in_map (λ i. cell_of v i y) _ x (in_range v.shape.w x across)))

told_inside : (turn : Turn) (views : List View) → All (IsTold turn) views → (c : ℕ) → Contains (flat_map view_cells views) c → IsTrue (is_some (turn.outcomes c))
told_inside turn views told c h =
    let view = flat_in view_cells views c h in
    let row = flat_in (row_cells view.0) (range_with_len 0 view.0.shape.h) c view.2 in
    let place = map_in (λ i. cell_of view.0 i row.0) (range_with_len 0 view.0.shape.w) c row.2 in
    subst (λ d. IsTrue (is_some (turn.outcomes d))) place.2
    ((All-contains (IsTold turn) views view.0 told view.1).told place.0 row.0 (range_in view.0.shape.w place.0 place.1) (range_in view.0.shape.h row.0 row.1))

-- no trap among outcomes
first_number : (o : Outcome) (rest : List Outcome) → first_trap (o ∷ rest) ≡ None → IsTrue (is_number (Some o)) × (first_trap rest ≡ None)
unfolding first_trap
first_number (Value n) rest e = (refl, e)
first_number (Trapped t) rest e = absurd (let wrong : Some t ≡ None = e in cc)

is_told : (q : Option Outcome) → IsTrue (is_some q) → IsTrue (is_number (Some (option_map_or (λ p. p) q (Value (pos 0))))) → IsTrue (is_number q)
is_told None some number = absurd (let wrong : false ≡ true = some in cc)
is_told (Some o) some number = number

number_of_told : (turn : Turn) (c : ℕ) → IsTrue (is_some (turn.outcomes c)) → IsTrue (is_number (Some (outcome_of turn c))) → IsTrue (is_number (turn.outcomes c))
unfolding outcome_of
number_of_told turn c some number = is_told (turn.outcomes c) some number

numbers_in : (turn : Turn) (cells : List ℕ) → first_trap (map (outcome_of turn) cells) ≡ None → (c : ℕ) → Contains cells c → IsTrue (is_some (turn.outcomes c)) → IsTrue (is_number (turn.outcomes c))
numbers_in turn [] e c h some = absurd (in_none c h)
numbers_in turn (d ∷ ds) e c h some =
    let first = first_number (outcome_of turn d) (map (outcome_of turn) ds) e in
    ⊎_elim
    (λ (same : d ≡ c). number_of_told turn c some (subst (λ k. IsTrue (is_number (Some (outcome_of turn k)))) same first.0))
    (λ (later : Contains ds c). numbers_in turn ds first.1 c later some)
    (in_cases d c ds h)

none_in : (turn : Turn) (cells : List ℕ) → ((c : ℕ) → Contains cells c → IsTrue (is_number (turn.outcomes c))) → None ≡ first_trap (map (outcome_of turn) cells)
unfolding first_trap
none_in turn [] each = refl
none_in turn (d ∷ ds) each =
    let first = has_value turn d (each d (in_head d ds)) in
    none_in turn ds (λ c h. each c (in_tail d c ds h)) ∙ sym (ap (λ o. first_trap (o ∷ map (outcome_of turn) ds)) first.1)

-- views of which no cell is trapped have numbers
pub seen_numbers : (turn : Turn) (views : List View) → None ≡ first_trap (seen_by turn views) → All (IsTold turn) views → All (HasNumbers turn) views
seen_numbers turn views e told k d below =
    let v = get_or views k d in
    let here : Contains views v = (k, below, get_or_any views k v d below) in
    record {
      number = λ x y across down. numbers_in turn (flat_map view_cells views) (sym e) (cell_of v x y) (inside views v x y here across down) ((told k d below).told x y across down);
      wide = (told k d below).wide;
      tall = (told k d below).tall;
    }

-- where nothing that is told is a trap, none is seen
pub seen_none : (turn : Turn) (views : List View) → HasNoTrap turn → All (IsTold turn) views → None ≡ first_trap (seen_by turn views)
seen_none turn views free told = none_in turn (flat_map view_cells views) (λ c h. free c (told_inside turn views told c h))

-- ---- of sizes
pub small_sizes : (sizes : List ℕ) → All (λ size. size ≤ SIZE_TOP) sizes → (i : ℕ) → slice_index sizes i < 2 ^ 63
small_sizes sizes all i = ⊎_elim
    (λ (below : i < length sizes). omega (arith, all i 0 below))
    (λ (past : length sizes ≤ i). omega (arith, get_or_past sizes i 0 past))
    (cases_lt i (length sizes))
