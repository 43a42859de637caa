-- A rule for single cells gives one number.
use Rattle.std.proofs.Common.{◌≡◌, ◌∙◌, refl, sym, ap, subst, ℕ, ◌+◌, ◌*◌, ◌<◌, ◌≤◌, ℤ, pos, ◌+ℤ◌, ◌-ℤ◌, Bool, true, false, List, [], ◌∷◌, length, map, slice_get, Some, arith}
use Rattle.std.specs.Prelude.{◌==◌, Result, Ok, Err, slice_index_or}
use Rattle.std.specs.List.{Contains}
use Rattle.std.specs.Option.{option_map_or}
use Rattle.std.proofs.Math.Bool.{cond}
use Rattle.std.proofs.lemmas.Int.{ints}
use Rattle.std.proofs.lemmas.List.{length-map}
use Rattle.pb_values.specs.Cells.{Turn}
use Rattle.pb_values.specs.declared.outcome.Outcome.{Outcome}
use Rattle.pb_values.specs.declared.outcome.Outcome.TheVariants.{Value, Trapped}
use Rattle.pb_values.specs.declared.outcome.Trap.{Trap}
use Rattle.pb_base.proofs.ListLemmas.{in_head}
use Rattle.pb_program.specs.Areas.{area_by, area_of, from_start, one_place}
use Rattle.pb_program.specs.Forms.{DeclValue, coordinate_at}
use Rattle.pb_program.specs.Trees.{ProgRule, ProgTransform, bare_rule}
use Rattle.pb_program.specs.WellFormed.{KindFits}
use Rattle.pb_program.specs.declared.rule.RuleKind.{RuleKind}
use Rattle.pb_program.specs.declared.rule.RuleKind.TheVariants as kind
use Rattle.pb_program.specs.declared.view.Read.{Read}
use Rattle.pb_program.specs.declared.view.ReadView.{ReadView}
use Rattle.pb_program.specs.declared.view.ReadView.TheVariants as view
use Rattle.pb_model.specs.Cells.{Cell, natural, reads}
use Rattle.pb_model.specs.Equations.{extent, own_number, own_outcome, shown_area, sides_by, view_sides}
use Rattle.pb_jobs.specs.Rooms.{HasRoomIn}
use Rattle.pb_jobs.proofs.ListLemmas.{some_at, some_same}
use Rattle.pb_eval.specs.CanRun.{at_variables, outs_needed}
use Rattle.pb_statements.specs.Outputs.{numbers_in}
use Rattle.pb_eval.specs.Running.{Gives}
use Rattle.pb_statements.specs.Stored.{numbers_of, outs_of}
use Rattle.pb_statements.specs.declared.scratch.Scratch.{Scratch}
use Rattle.pb_jobs.specs.Instances.{CanRunRule, InstanceValue, IsReady, given_by, of_sizes, of_transform, told_of}
use Rattle.pb_jobs.proofs.OutLemmas.{gives_count, left_index, left_room}
use Rattle.pb_jobs.proofs.InstanceLemmas.{out_declared, rule_fits}

one_extent : (z : ℤ) → extent (one_place z) ≡ 1
one_extent z = let e : (z +ℤ pos 1) -ℤ z ≡ pos 1 = omega (arith, ints) in ap natural e

one_if : (b : Bool) (z w : ℤ) → extent (cond b (one_place z) (one_place w)) ≡ 1
one_if true z w = one_extent z
one_if false z w = one_extent w

one_side : (sizes : List ℕ) (x y : ℤ) (r : Read) (d : DeclValue) (v : ReadView) → v ≡ view.Cell → ◌≡◌ {A = ℕ × ℕ} (sides_by v (area_by sizes x y v r d)) (1, 1)
one_side sizes x y r d view.Cell e = let a = one_extent (coordinate_at r.x0 sizes x y) in let b = one_if (r.dims == 1) (pos 0) (coordinate_at r.y0 sizes x y) in λ i. (a i, b i)
one_side sizes x y r d view.Row e = absurd (cc)
one_side sizes x y r d view.Column e = absurd (cc)
one_side sizes x y r d view.Region e = absurd (cc)
one_side sizes x y r d view.Whole e = absurd (cc)

-- it has one output of one cell
module _ (v : InstanceValue) (is : IsReady v) (k x y : ℕ) (rule : ProgRule) (there : slice_get (of_transform v).rules k ≡ Some rule) (single : rule.kind ≡ kind.Cell) where
  abbrev matrices : List DeclValue
  matrices = (of_transform v).matrices

  abbrev at : List ℕ
  at = of_sizes v

  by_outs : (outs : List Read) → ((q : Read) → Contains outs q → (d : DeclValue) × (slice_get matrices q.matrix ≡ Some d)) → KindFits kind.Cell outs → numbers_in (map (view_sides matrices at (at_variables x y)) outs) ≡ 1
  by_outs [] declared h = absurd h
  by_outs (o ∷ p ∷ rest) declared h = absurd h
  by_outs (o ∷ []) declared h =
      let d = declared o (in_head o []) in
      let area : shown_area matrices at (at_variables x y) o ≡ area_of at (pos x) (pos y) o d.0 = ap (λ q. option_map_or (area_of at (pos x) (pos y) o) q (record { x = from_start (pos 0); y = from_start (pos 0) })) d.1 in
      let sides : ◌≡◌ {A = ℕ × ℕ} (view_sides matrices at (at_variables x y) o) (1, 1) = ap (sides_by o.view) area ∙ one_side at (pos x) (pos y) o d.0 o.view h.cell in
      ap (λ (s : ℕ × ℕ). s.1 * s.0 + 0) sides

  pub one_needed : outs_needed matrices at (at_variables x y) rule ≡ 1
  one_needed = by_outs rule.outs (out_declared v is k rule there) (subst (λ g. KindFits g rule.outs) single (rule_fits v is k rule there).kind)

-- so there is room for one
pub least_room : (v : InstanceValue) → IsReady v → (k : ℕ) → k < length v.transform.rules → ((r : ProgRule) → slice_get (of_transform v).rules k ≡ Some r → r.kind ≡ kind.Cell) → (z : Scratch) → HasRoomIn v k z → 1 ≤ outs_of z
least_room v is k below single z room =
    let r = some_at (of_transform v).rules k (omega (arith, below, length-map v.transform.rules bare_rule)) in
    omega (arith, one_needed v is k 0 0 r.0 r.1 (single r.0 r.1), (room (of_transform v) r.0 is.there r.1).1 0 0)

module _ (v : InstanceValue) (is : IsReady v) (k x y : ℕ) (turn : Turn) (can : CanRunRule v k x y turn) (single : (r : ProgRule) → slice_get (of_transform v).rules k ≡ Some r → r.kind ≡ kind.Cell) (z : Scratch) where
  abbrev t : ProgTransform
  t = of_transform v

  abbrev sizes : List ℕ
  sizes = of_sizes v

  abbrev rule : ProgRule
  rule = can.rule

  counted : (numbers : List ℤ) → given_by v k rule x y turn ≡ Ok numbers → length numbers ≡ 1
  counted numbers e = gives_count t.matrices sizes (at_variables x y) v.number k rule (told_of v turn (reads t.matrices sizes (at_variables x y) rule)) numbers e ∙ one_needed v is k x y rule can.there (single rule can.there)

  pub one_room : (n : ℕ) → Gives (given_by v k rule x y turn) (Ok n) z → 0 < outs_of z
  one_room n h = by (given_by v k rule x y turn) refl h
    where
      by : (g : Result (List ℤ) Trap) → given_by v k rule x y turn ≡ g → Gives g (Ok n) z → 0 < outs_of z
      by (Ok numbers) e h = left_room n z numbers 0 h.0 (omega (arith, h.1, counted numbers e))
      by (Err u) e h = absurd h

  own_cell : (g : RuleKind) → g ≡ kind.Cell → (c : Cell) (outs : List Read) (numbers : List ℤ) → own_number t.matrices sizes c g outs numbers ≡ slice_index_or numbers 0 (pos 0)
  own_cell kind.Cell e c outs numbers = refl
  own_cell kind.Wide e c outs numbers = absurd (cc)
  own_cell kind.Plan e c outs numbers = absurd (cc)

  of_this : (r : ProgRule) → slice_get t.rules k ≡ Some r → (o : Outcome) → o ≡ own_outcome t.matrices sizes (at_variables x y) rule (given_by v k rule x y turn) → o ≡ own_outcome t.matrices sizes (at_variables x y) r (given_by v k r x y turn)
  of_this r at o h = h ∙ ap (λ u. own_outcome t.matrices sizes (at_variables x y) u (given_by v k u x y turn)) (some_same rule r (sym can.there ∙ at))

  pub one_number : (n : ℕ) (m : ℤ) → Gives (given_by v k rule x y turn) (Ok n) z → m ≡ slice_index_or (numbers_of z) 0 (pos 0) → (r : ProgRule) → slice_get t.rules k ≡ Some r → Value m ≡ own_outcome t.matrices sizes (at_variables x y) r (given_by v k r x y turn)
  one_number n m h is_m r at = of_this r at (Value m) (by (given_by v k rule x y turn) refl h)
    where
      by : (g : Result (List ℤ) Trap) → given_by v k rule x y turn ≡ g → Gives g (Ok n) z → Value m ≡ own_outcome t.matrices sizes (at_variables x y) rule g
      by (Ok numbers) e h =
          ap (λ u. Value u) (is_m ∙ left_index n z numbers 0 h.0 (omega (arith, h.1, counted numbers e)) ∙ sym (own_cell rule.kind (single rule can.there) (at_variables x y) rule.outs numbers))
      by (Err u) e h = absurd h

  pub one_trap : (u : Trap) → Gives (given_by v k rule x y turn) (Err u) z → (r : ProgRule) → slice_get t.rules k ≡ Some r → Trapped u ≡ own_outcome t.matrices sizes (at_variables x y) r (given_by v k r x y turn)
  one_trap u h r at = of_this r at (Trapped u) (by (given_by v k rule x y turn) h)
    where
      by : (g : Result (List ℤ) Trap) → Gives g (Err u) z → Trapped u ≡ own_outcome t.matrices sizes (at_variables x y) rule g
      by (Ok numbers) h = absurd h
      by (Err w) h = ap (λ q. Trapped q) h
