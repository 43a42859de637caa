-- The ends of a view are those of the area that it shows.
use Rattle.std.proofs.Common.{◌≡◌, ◌∙◌, ap, sym, refl, subst, ◌↔◌, ℕ, List, [], ◌∷◌, Bool, true, false, Some, slice_get, ℤ, pos, ◌+ℤ◌, ◌*ℤ◌, arith}
use Rattle.std.specs.Prelude.{◌==◌, if◌then◌else◌}
use Rattle.std.proofs.lemmas.Int.{ints}
use Rattle.std.proofs.Math.IntN.{zero-*ℤ}
use Rattle.pb_linear.specs.Numbers.{Numbers, exact_value}
use Rattle.pb_linear.proofs.Values.{exact_value-multiple}
use Rattle.pb_program.specs.declared.rule.RuleKind.{RuleKind}
use Rattle.pb_program.specs.declared.rule.RuleKind.TheVariants as kind
use Rattle.pb_program.specs.declared.view.Read.{Read}
use Rattle.pb_program.specs.declared.view.ReadView.{ReadView}
use Rattle.pb_program.specs.declared.view.ReadView.TheVariants as view
use Rattle.pb_program.specs.Areas.{Area, IsIn, Span, area_by, area_of}
use Rattle.pb_program.specs.Areas as area
use Rattle.pb_program.specs.Forms.{CoordinateValue, DeclValue, constant_numbers, coordinate_at, nothing, over_sizes}
use Rattle.pb_region.specs.Boxes.{Limits, limits_of}
use Rattle.pb_region.specs.Ends.{Ends, Interval, area_at, between, ends_by, ends_of, from_start, next, one_place}
use Rattle.pb_region.specs.Inside.{IsInside}
use Rattle.pb_region.proofs.FormLemmas.{raised_value}
use Rattle.pb_region.proofs.OverlapLemmas.{at_start}

module _ (sizes : List ℕ) (x y : ℤ) where
  abbrev pub span : Interval → Span
  span i = record { low = coordinate_at i.low sizes x y; high = coordinate_at i.high sizes x y }

  next_value : (c : CoordinateValue) → coordinate_at (next c) sizes x y ≡ coordinate_at c sizes x y +ℤ pos 1
  next_value c = omega (arith, ints, raised_value (pos 1) c.rest sizes)

  span_one : (c : CoordinateValue) → span (one_place c) ≡ area.one_place (coordinate_at c sizes x y)
  span_one c = λ i. record { low = coordinate_at c sizes x y; high = next_value c i }

  pub over_value : (n : Numbers) → coordinate_at (over_sizes n) sizes x y ≡ exact_value n sizes
  over_value n = omega (arith, ints, zero-*ℤ x, zero-*ℤ y)

  pub nothing_value : coordinate_at nothing sizes x y ≡ pos 0
  nothing_value =
      let n = constant_numbers (pos 0) in
      let none : exact_value n sizes ≡ pos 0 *ℤ exact_value n sizes = exact_value-multiple (pos 0) n sizes in
      omega (arith, ints, none, zero-*ℤ (exact_value n sizes), zero-*ℤ x, zero-*ℤ y)

  span_start : (n : Numbers) → span (from_start n) ≡ area.from_start (exact_value n sizes)
  span_start n = λ i. record { low = nothing_value i; high = over_value n i }

  span_if : (flat : Bool) (i : Interval) (s : Span) → span i ≡ s → span (if flat then one_place nothing else i) ≡ (if flat then area.one_place (pos 0) else s)
  span_if true i s e = span_one nothing ∙ ap area.one_place nothing_value
  span_if false i s e = e

  pub ends_by_area : (v : ReadView) (r : Read) (d : DeclValue) → area_at (ends_by v r d) sizes x y ≡ area_by sizes x y v r d
  ends_by_area view.Cell r d = λ i. record { x = span_one r.x0 i; y = span_if (r.dims == 1) (one_place r.y0) _ (span_one r.y0) i }
  ends_by_area view.Row r d = λ i. record { x = span_start d.w i; y = span_one r.y0 i }
  ends_by_area view.Column r d = λ i. record { x = span_one r.x0 i; y = span_start d.h i }
  ends_by_area view.Region r d = λ i. record { x = span (between r.x0 r.x1); y = span_if (r.dims == 1) (between r.y0 r.y1) _ refl i }
  ends_by_area view.Whole r d = λ i. record { x = span_start d.w i; y = span_start d.h i }

  pub ends_area : (ms : List DeclValue) (r : Read) (d : DeclValue) → slice_get ms r.matrix ≡ Some d → area_at (ends_of ms r) sizes x y ≡ area_of sizes x y r d
  unfolding ends_of
  ends_area ms r d there = rw there (ends_by_area r.view r d)

-- the bounds of a rule that isn't for single cells are the ends of its output's area
abbrev end_limits : Ends → Limits
end_limits e = record { lower_x = e.x.low.rest ∷ []; upper_x = e.x.high.rest ∷ []; lower_y = e.y.low.rest ∷ []; upper_y = e.y.high.rest ∷ [] }

wide_limits : (k : RuleKind) → (k ≡ kind.Cell → ⊥) → (gs : List CoordinateValue) (e : Ends) → limits_of k gs e ≡ end_limits e
wide_limits kind.Cell wide gs e = absurd (wide refl)
wide_limits kind.Wide wide gs e = refl
wide_limits kind.Plan wide gs e = refl

in_ends : (e : Ends) (sizes : List ℕ) (x y : ℤ) →
    IsInside (end_limits e) sizes x y ↔ IsIn (area_at e sizes (pos 0) (pos 0)) x y
in_ends e sizes x y = (
  λ h. record {
    left = omega (arith, ints, h.left.0, at_start e.x.low sizes);
    right = omega (arith, ints, h.right.0, at_start e.x.high sizes);
    low = omega (arith, ints, h.low.0, at_start e.y.low sizes);
    high = omega (arith, ints, h.high.0, at_start e.y.high sizes);
  },
  λ h. record {
    left = (omega (arith, ints, h.left, at_start e.x.low sizes), tt);
    right = (omega (arith, ints, h.right, at_start e.x.high sizes), tt);
    low = (omega (arith, ints, h.low, at_start e.y.low sizes), tt);
    high = (omega (arith, ints, h.high, at_start e.y.high sizes), tt);
  },
)

pub wide_inside : (k : RuleKind) → (k ≡ kind.Cell → ⊥) → (gs : List CoordinateValue) (ms : List DeclValue) (r : Read) (d : DeclValue) → slice_get ms r.matrix ≡ Some d → (sizes : List ℕ) (x y : ℤ) →
    IsInside (limits_of k gs (ends_of ms r)) sizes x y ↔ IsIn (area_of sizes (pos 0) (pos 0) r d) x y
wide_inside k wide gs ms r d there sizes x y =
    subst (λ l. IsInside l sizes x y ↔ IsIn (area_of sizes (pos 0) (pos 0) r d) x y) (sym (wide_limits k wide gs (ends_of ms r)))
    (subst (λ a. IsInside (end_limits (ends_of ms r)) sizes x y ↔ IsIn a x y) (ends_area sizes (pos 0) (pos 0) ms r d there) (in_ends (ends_of ms r) sizes x y))
