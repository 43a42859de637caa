-- Rules that aren't for single cells have no rule variables: they show and apply the same at all of their values.
use Rattle.std.proofs.Common.{◌≡◌, refl, sym, ap, subst, ℕ, ℤ, pos, ◌*ℤ◌, true, List, [], ◌∷◌, length, slice_get, Some, arith}
use Rattle.std.specs.Prelude.{◌==◌, if◌then◌else◌}
use Rattle.std.specs.List.{AllByRecursion, Contains}
use Rattle.std.proofs.Math.IntN.{zero-*ℤ}
use Rattle.std.proofs.lemmas.Int.{ints}
use Rattle.pb_linear.specs.Numbers.{exact_value}
use Rattle.pb_program.specs.declared.rule.RuleKind.{RuleKind}
use Rattle.pb_program.specs.declared.rule.RuleKind.TheVariants as kind
use Rattle.pb_program.specs.declared.view.Read.{Read}
use Rattle.pb_program.specs.declared.view.ReadView.{ReadView}
use Rattle.pb_program.specs.declared.view.ReadView.TheVariants as view
use Rattle.pb_program.specs.Areas.{Span, area_by, area_of, by_dims, from_start, one_place}
use Rattle.pb_program.specs.Conditions.{Applies, Holds, conditions}
use Rattle.pb_program.specs.Forms.{CoordinateValue, DeclValue, coordinate_at}
use Rattle.pb_program.specs.Trees.{ProgRule, ProgTransform}
use Rattle.pb_program.specs.WellFormed.{IsCoordinate, IsFree, IsRule, IsTransform, IsView, IsWellFormed, KindFits, variables}
use Rattle.pb_region.specs.Boxes.{is_wide}
use Rattle.pb_region.proofs.FreeLemmas.{all_guards}
use Rattle.pb_region.proofs.SmallLemmas.{at_place}
use Rattle.pb_types.specs.Types.{PlanIsSound}
use Rattle.pb_types.proofs.SoundLemmas.{plans_sound}
use Rattle.pb_base.proofs.ListLemmas.{at_in}
use Rattle.pb_check.specs.Phases.{IsSound}
use Rattle.pb_frame.proofs.Handed.{guards_anywhere}

-- ---- coordinates without rule variables
no_variables : (outs : List Read) → AllByRecursion IsFree outs → variables outs ≡ 0
no_variables [] h = refl
no_variables (r ∷ []) h = rw h.0.0 refl
no_variables (r ∷ s ∷ rest) h = refl

module _ (sizes : List ℕ) (x y u v : ℤ) where
  same_at : (count : ℕ) (c : CoordinateValue) → IsCoordinate count 0 c → coordinate_at c sizes x y ≡ coordinate_at c sizes u v
  same_at count c h =
      let no_x : c.x ≡ pos 0 = h.none refl in
      let no_y : c.y ≡ pos 0 = h.one (omega arith) in
      omega (arith, ints, ap (λ k. k *ℤ x) no_x, ap (λ k. k *ℤ y) no_y, ap (λ k. k *ℤ u) no_x, ap (λ k. k *ℤ v) no_y, zero-*ℤ x, zero-*ℤ y, zero-*ℤ u, zero-*ℤ v)

  module _ (count matrices : ℕ) (r : Read) (h : IsView count 0 matrices r) (d : DeclValue) where
    dims_same : (s q : Span) → s ≡ q → by_dims sizes x y r s ≡ by_dims sizes u v r q
    dims_same s q e = ap (λ t. if r.dims == 1 then one_place (pos 0) else t) e

    area_same : (by : ReadView) → area_by sizes x y by r d ≡ area_by sizes u v by r d
    area_same view.Cell = let ex = same_at count r.x0 h.x0 in let ey = dims_same _ _ (ap one_place (same_at count r.y0 h.y0)) in λ i. record { x = one_place (ex i); y = ey i }
    area_same view.Row = let ey = same_at count r.y0 h.y0 in λ i. record { x = from_start (exact_value d.w sizes); y = one_place (ey i) }
    area_same view.Column = let ex = same_at count r.x0 h.x0 in λ i. record { x = one_place (ex i); y = from_start (exact_value d.h sizes) }
    area_same view.Region =
        let e0 = same_at count r.x0 h.x0 in
        let e1 = same_at count r.x1 h.x1 in
        let f0 = same_at count r.y0 h.y0 in
        let f1 = same_at count r.y1 h.y1 in
        let ey = dims_same (record { low = coordinate_at r.y0 sizes x y; high = coordinate_at r.y1 sizes x y }) (record { low = coordinate_at r.y0 sizes u v; high = coordinate_at r.y1 sizes u v }) (λ i. record { low = f0 i; high = f1 i }) in
        λ i. record { x = record { low = e0 i; high = e1 i }; y = ey i }
    area_same view.Whole = refl

module _ (p : List ProgTransform) (number : ℕ) (t : ProgTransform) (well : IsWellFormed p) (sound : IsSound p) (at : slice_get p number ≡ Some t) (k : ℕ) (r : ProgRule) (there : slice_get t.rules k ≡ Some r) (wide : is_wide r.kind ≡ true) where
  fits : IsTransform (length p) t
  fits = at_place (IsTransform (length p)) p number t well.transforms at

  rule_fits : IsRule (length t.sizes) t.inputs (length t.matrices) (length p) r
  rule_fits = at_place (IsRule (length t.sizes) t.inputs (length t.matrices) (length p)) t.rules k r fits.rules there

  free : AllByRecursion IsFree r.outs
  free = by r.kind refl wide rule_fits.kind
    where
      sounds : r.kind ≡ kind.Plan → PlanIsSound r
      sounds = at_place (λ (y : ProgRule). y.kind ≡ kind.Plan → PlanIsSound y) t.rules k r (at_place (λ (x : ProgTransform). AllByRecursion (λ (y : ProgRule). y.kind ≡ kind.Plan → PlanIsSound y) x.rules) p number t (plans_sound p well sound.typed) at) there

      by : (q : RuleKind) → r.kind ≡ q → is_wide q ≡ true → KindFits q r.outs → AllByRecursion IsFree r.outs
      by kind.Cell e h f = absurd (cc)
      by kind.Wide e h f = f
      by kind.Plan e h f = (sounds e).free

  pub shown_same : (q : Read) (d : DeclValue) → Contains r.reads q → (sizes : List ℕ) (x y u v : ℤ) → area_of sizes x y q d ≡ area_of sizes u v q d
  shown_same q d declared sizes x y u v =
      let j = at_in r.reads q declared in
      let view = at_place (IsView (length t.sizes) (variables r.outs) (length t.matrices)) r.reads j.0 q rule_fits.reads j.1 in
      area_same sizes x y u v (length t.sizes) (length t.matrices) q (subst (λ n. IsView (length t.sizes) n (length t.matrices) q) (no_variables r.outs free) view) d q.view

  pub applies_same : (sizes : List ℕ) (x y u v : ℤ) → Applies t.matrices r sizes x y → Applies t.matrices r sizes u v
  applies_same sizes x y u v h =
      let e = all_guards (length t.sizes) t.inputs (length t.matrices) (length p) t.matrices r rule_fits free in
      subst (AllByRecursion (Holds sizes u v)) e (guards_anywhere (conditions t.matrices r) sizes x y u v (subst (AllByRecursion (Holds sizes x y)) (sym e) h))
