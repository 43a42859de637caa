-- Ends that are compared by their difference, and pairs of outputs.
use Rattle.std.proofs.Common.{◌≡◌, ap, refl, ℕ, ◌<◌, ◌≤◌, nat_lt, List, length, get_or, slice_get, false, Option, Some, None, pos, arith}
use Rattle.std.proofs.Math.IntN.{*ℤ-zero}
use Rattle.std.proofs.lemmas.Int.{ints}
use Rattle.std.proofs.lemmas.Bool.{le-ltb, lt-ltb}
use Rattle.std.proofs.lemmas.Option.{slice_get-get_or, slice_get_past}
use Rattle.std.proofs.Math.Bool.{and-false}
use Rattle.pb_linear.specs.Form.{numbers, value}
use Rattle.pb_linear.specs.Numbers.{difference, exact_value}
use Rattle.pb_linear.specs.Sizes.{le_everywhere}
use Rattle.pb_linear.specs.declared.form.Form.{Form}
use Rattle.pb_linear.proofs.SizesLemmas.{le_everywhere-difference}
use Rattle.pb_program.specs.Forms.{CoordinateValue, DeclValue, coordinate_at}
use Rattle.pb_program.specs.declared.view.Read.{Read}
use Rattle.pb_region.specs.Overlaps.{both_overlap, is_before, overlap, overlap_at}
use Rattle.pb_region.proofs.FormLemmas.{difference_value}

-- without rule variables a coordinate is its form over the sizes
pub at_start : (c : CoordinateValue) (sizes : List ℕ) → coordinate_at c sizes (pos 0) (pos 0) ≡ exact_value c.rest sizes
at_start c sizes = omega (arith, ints, *ℤ-zero c.x, *ℤ-zero c.y)

pub before_by_difference : (leasts : List ℕ) (a b : CoordinateValue) (f : Form) → numbers f ≡ difference a.rest b.rest →
    le_everywhere leasts (value f) (λ _. pos 0) ≡ is_before leasts a b
unfolding is_before
before_by_difference leasts a b f e = le_everywhere-difference leasts (λ s. coordinate_at a s (pos 0) (pos 0)) (λ s. coordinate_at b s (pos 0) (pos 0)) (value f) (λ s.
    omega (arith, ints, ap (λ n. exact_value n s) e, difference_value a.rest b.rest s, at_start a s, at_start b s))

module _ (leasts : List ℕ) (matrices : List DeclValue) (outs : List Read) where
  -- two outputs that are there
  pub at_outputs : (i j : ℕ) (d e : Read) → i < j → j < length outs → overlap_at leasts matrices outs i j ≡ overlap leasts matrices (get_or outs i d) (get_or outs j e)
  unfolding overlap_at
  at_outputs i j d e order there =
      rw (lt-ltb i j order, slice_get-get_or outs i d (omega arith), slice_get-get_or outs j e there) refl

  pub not_in_order : (i j : ℕ) → j ≤ i → overlap_at leasts matrices outs i j ≡ false
  unfolding overlap_at
  not_in_order i j h = rw (le-ltb i j h) refl

  neither : (a : Option Read) → both_overlap leasts matrices a None ≡ false
  neither None = refl
  neither (Some a) = refl

  pub not_there : (i j : ℕ) → length outs ≤ j → overlap_at leasts matrices outs i j ≡ false
  unfolding overlap_at
  not_there i j h = rw (slice_get_past outs j h, neither (slice_get outs i)) (and-false (nat_lt i j))
