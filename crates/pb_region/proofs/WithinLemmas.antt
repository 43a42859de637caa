-- Where a rule applies, what it reads of a matrix lies within the matrix.
use Rattle.std.proofs.Common.{◌≡◌, ◌∙◌, ap, sym, refl, ℕ, zero, suc, List, [], ◌∷◌, ◌++◌, Bool, true, false, Some, None, slice_get, ℤ, pos, ◌≤ℤ◌, arith}
use Rattle.std.specs.Prelude.{◌==◌, if◌then◌else◌}
use Rattle.std.specs.List.{AllByRecursion, flat_map}
use Rattle.std.proofs.lemmas.Bool.{eqb-true}
use Rattle.std.proofs.lemmas.Int.{ints}
use Rattle.pb_linear.specs.Numbers.{Numbers, exact_value}
use Rattle.pb_linear.specs.Sizes.{InRange, leasts_of}
use Rattle.pb_program.specs.declared.view.Read.{Read}
use Rattle.pb_program.specs.declared.view.ReadView.{ReadView}
use Rattle.pb_program.specs.declared.view.ReadView.TheVariants as view
use Rattle.pb_program.specs.Areas.{Span, area_by, area_of, one_place, from_start}
use Rattle.pb_program.specs.Conditions.{Applies, Condition, Holds, by_view, cell_conditions, region_conditions, view_conditions, written}
use Rattle.pb_program.specs.Forms.{CoordinateValue, DeclValue, constant_numbers, coordinate_at}
use Rattle.pb_program.specs.Trees.{ProgRule, ProgTransform}
use Rattle.pb_program.specs.WellFormed.{IsDecl}
use Rattle.pb_region.specs.Dims.{AreSides, HasNoNegative, IsNeverNegative, sides}
use Rattle.pb_region.specs.Within.{IsAlong, IsWithin}
use Rattle.pb_region.proofs.AreaLemmas.{nothing_value, over_value}
use Rattle.pb_region.proofs.FormLemmas.{raised_value}
use Rattle.pb_region.proofs.NegativeLemmas.{all_at}

all_parts : {A : Type 0} (P : A → Type 0) (xs ys : List A) → AllByRecursion P (xs ++ ys) → AllByRecursion P xs × AllByRecursion P ys
all_parts P [] ys h = (tt, h)
all_parts P (x ∷ xs) ys h = let rest = all_parts P xs ys h.1 in ((h.0, rest.0), rest.1)

-- what holds of all pieces holds of one
all_piece : {A B : Type 0} (P : B → Type 0) (f : A → List B) (xs : List A) (k : ℕ) (x : A) → AllByRecursion P (flat_map f xs) → slice_get xs k ≡ Some x → AllByRecursion P (f x)
all_piece P f [] k x h at = let none : None ≡ Some x = at in absurd (cc)
all_piece P f (y ∷ ys) zero x h at = let some : Some y ≡ Some x = at in let same : y ≡ x = cc in rw (← same) (all_parts P (f y) (flat_map f ys) h).0
all_piece P f (y ∷ ys) (suc k) x h at = all_piece P f ys k x (all_parts P (f y) (flat_map f ys) h).1 at

one_is : (sizes : List ℕ) → exact_value (constant_numbers (pos 1)) sizes ≡ pos 1
one_is sizes = omega (arith, ints, raised_value (pos 1) (constant_numbers (pos 0)) sizes, nothing_value sizes (pos 0) (pos 0))

module _ (sizes : List ℕ) (x y : ℤ) where
  abbrev AllHold : List Condition → Type 0
  AllHold cs = AllByRecursion (Holds sizes x y) cs

  abbrev at : CoordinateValue → ℤ
  at c = coordinate_at c sizes x y

  along_cell : (e : CoordinateValue) (side : Numbers) → AllHold (cell_conditions e side) → IsAlong (one_place (at e)) (exact_value side sizes)
  along_cell e side h = record {
    start = omega (arith, ints, h.0, nothing_value sizes x y);
    order = omega (arith, ints);
    end = omega (arith, ints, h.1.0, over_value sizes x y side);
  }

  along_region : (a b : CoordinateValue) (side : Numbers) → AllHold (region_conditions a b side) → IsAlong (record { low = at a; high = at b }) (exact_value side sizes)
  along_region a b side h = record {
    start = omega (arith, ints, h.0, nothing_value sizes x y);
    order = omega (arith, ints, h.1.0);
    end = omega (arith, ints, h.1.1.0, over_value sizes x y side);
  }

  along_start : (side : Numbers) → pos 0 ≤ℤ exact_value side sizes → IsAlong (from_start (exact_value side sizes)) (exact_value side sizes)
  along_start side h = record { start = omega (arith, ints); order = h; end = omega (arith, ints) }

  along_if : (flat : Bool) (s : Span) (cs : List Condition) (side : ℤ) → (flat ≡ true → side ≡ pos 1) → (AllHold cs → IsAlong s side) → AllHold (if flat then [] else cs) → IsAlong (if flat then one_place (pos 0) else s) side
  along_if true s cs side one h k = record { start = omega (arith, ints); order = omega (arith, ints); end = omega (arith, ints, one refl) }
  along_if false s cs side one h k = h k

  within_view : (v : ReadView) (r : Read) (d : DeclValue) → ((r.dims == 1) ≡ true → exact_value d.h sizes ≡ pos 1) → pos 0 ≤ℤ exact_value d.w sizes → pos 0 ≤ℤ exact_value d.h sizes → AllHold (by_view v r d)
      → IsWithin (area_by sizes x y v r d) (exact_value d.w sizes) (exact_value d.h sizes)
  within_view view.Cell r d one w h k =
      let parts = all_parts (Holds sizes x y) (cell_conditions r.x0 d.w) (if r.dims == 1 then [] else cell_conditions r.y0 d.h) k in
      record { x = along_cell r.x0 d.w parts.0; y = along_if (r.dims == 1) (one_place (at r.y0)) (cell_conditions r.y0 d.h) (exact_value d.h sizes) one (along_cell r.y0 d.h) parts.1 }
  within_view view.Row r d one w h k = record { x = along_start d.w w; y = along_cell r.y0 d.h k }
  within_view view.Column r d one w h k = record { x = along_cell r.x0 d.w k; y = along_start d.h h }
  within_view view.Region r d one w h k =
      let parts = all_parts (Holds sizes x y) (region_conditions r.x0 r.x1 d.w) (if r.dims == 1 then [] else region_conditions r.y0 r.y1 d.h) k in
      record {
        x = along_region r.x0 r.x1 d.w parts.0;
        y = along_if (r.dims == 1) (record { low = at r.y0; high = at r.y1 }) (region_conditions r.y0 r.y1 d.h) (exact_value d.h sizes) one (along_region r.y0 r.y1 d.h) parts.1;
      }
  within_view view.Whole r d one w h k = record { x = along_start d.w w; y = along_start d.h h }

flat_height : (n : ℕ) (d : DeclValue) (sizes : List ℕ) → IsDecl n d → d.dims ≡ 1 → exact_value d.h sizes ≡ pos 1
flat_height n d sizes h flat = ap (λ k. exact_value k sizes) (h.flat flat) ∙ one_is sizes

tall : (n : ℕ) (d : DeclValue) (leasts sizes : List ℕ) (flat : Bool) → (d.dims == 1) ≡ flat → IsDecl n d → HasNoNegative leasts d → InRange leasts sizes → pos 0 ≤ℤ exact_value d.h sizes
tall n d leasts sizes true e h none r = omega (arith, ints, flat_height n d sizes h (eqb-true d.dims 1 e))
tall n d leasts sizes false e h none r = let there : slice_get (sides d) 1 ≡ Some d.h = rw e refl in all_at (IsNeverNegative leasts) (sides d) 1 d.h none.sides there sizes r

pub reads_within : (t : ProgTransform) (r : ProgRule) (k n : ℕ) (read : Read) (d : DeclValue) → AreSides t → IsDecl n d → slice_get r.reads k ≡ Some read → slice_get t.matrices read.matrix ≡ Some d → read.dims ≡ d.dims
    → (sizes : List ℕ) → InRange (leasts_of t.ranges) sizes → (x y : ℤ) → Applies t.matrices r sizes x y → IsWithin (area_of sizes x y read d) (exact_value d.w sizes) (exact_value d.h sizes)
reads_within t r k n read d sides_are decl at_read there dims sizes range x y applies =
    let leasts = leasts_of t.ranges in
    let views = view_conditions t.matrices in
    let none = all_at (HasNoNegative leasts) t.matrices read.matrix d sides_are.each there in
    let parts = all_parts (Holds sizes x y) (flat_map views r.outs ++ flat_map views r.reads) (flat_map written r.conds) applies in
    let of_reads = (all_parts (Holds sizes x y) (flat_map views r.outs) (flat_map views r.reads) parts.0).1 in
    let of_read = all_piece (Holds sizes x y) views r.reads k read of_reads at_read in
    let of_view : AllByRecursion (Holds sizes x y) (by_view read.view read d) = rw there at of_read in
    within_view sizes x y read.view read d (λ flat. flat_height n d sizes decl (sym dims ∙ eqb-true read.dims 1 flat))
    (all_at (IsNeverNegative leasts) (sides d) 0 d.w none.sides refl sizes range) (tall n d leasts sizes (d.dims == 1) refl decl none range) of_view
