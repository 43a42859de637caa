-- Gaps of conditions, and lists of them.
use Rattle.std.proofs.Common.{◌≡◌, ◌+◌, ◌*◌, ◌^◌, ◌<◌, ◌≤◌, ℕ, List, [], ◌∷◌, ◌++◌, map, take, length, get_or, slice_get, Bool, true, false, Option, Some, None, ℤ, arith, pos, ◌-ℤ◌, refl, ◌||◌}
use Rattle.std.specs.Prelude.{◌==◌, if◌then◌else◌}
use Rattle.std.specs.List.{flat_map}
use Rattle.std.proofs.lemmas.List.{append-nil, length-append, length-map, map-append, take_more}
use Rattle.std.proofs.lemmas.Grind.{flat_map-append}
use Rattle.std.proofs.lemmas.Option.{slice_get_past}
use Rattle.pb_linear.specs.Numbers.{Numbers, difference}
use Rattle.pb_program.specs.Conditions.{Condition, by_relation, by_view, cell_conditions, in_matrix, region_conditions, view_conditions, written}
use Rattle.pb_program.specs.Forms.{CoordinateValue, DeclValue}
use Rattle.pb_syntax.specs.declared.tree.expression.Relation.{Relation}
use Rattle.pb_syntax.specs.declared.tree.expression.Relation.TheVariants as relation
use Rattle.pb_program.specs.declared.view.Read.{Read}
use Rattle.pb_program.specs.declared.view.ReadView.{ReadView}
use Rattle.pb_program.specs.declared.view.ReadView.TheVariants as view
use Rattle.pb_program.specs.Trees.{ProgRule}
use Rattle.pb_region.specs.Boxes.{gaps_of}
use Rattle.pb_region.specs.Gaps.{gap, raised}
use Rattle.pb_region.specs.Small.{IsSmallRule}

module _ (c : Condition) (x y : ℤ) (rest : Numbers) (quotient : Bool) where
  pub same_gap : x ≡ c.left.x -ℤ c.right.x → y ≡ c.left.y -ℤ c.right.y → rest ≡ raised (pos c.more) (difference c.left.rest c.right.rest) → quotient ≡ (c.left.quotient || c.right.quotient) →
      record { x = x; y = y; rest = rest; quotient = quotient } ≡ gap c
  unfolding gap
  same_gap ex ey er eq = λ i. record { x = ex i; y = ey i; rest = er i; quotient = eq i }

-- one more item: what it gives is added at the end
pub more_pieces : {A B C : Type 0} (g : B → C) (f : A → List B) (xs : List A) (i : ℕ) (d : A) → i < length xs →
    map g (flat_map f (take (i + 1) xs)) ≡ map g (flat_map f (take i xs)) ++ map g (f (get_or xs i d))
more_pieces g f xs i d h =
    rw (take_more xs i d h, flat_map-append f (take i xs) (get_or xs i d ∷ []), map-append, append-nil) refl

pub no_pieces : (ms : List DeclValue) (r : Read) (xs : List CoordinateValue) → length ms ≤ r.matrix → xs ≡ xs ++ map gap (view_conditions ms r)
no_pieces ms r xs h = rw (slice_get_past ms r.matrix h, append-nil) refl

-- one more item of a list that is mapped
pub map_more : {A B : Type 0} (f : A → B) (xs : List A) (i : ℕ) (d : A) → i < length xs → map f (take (i + 1) xs) ≡ map f (take i xs) ++ f (get_or xs i d) ∷ []
map_more f xs i d h = rw (take_more xs i d h, map-append) refl

-- ---- how many conditions there are
few_of : {A B : Type 0} (f : A → List B) (k : ℕ) → ((x : A) → length (f x) ≤ k) → (xs : List A) → length (flat_map f xs) ≤ k * length xs
few_of f k h [] = omega arith
few_of f k h (x ∷ xs) = omega (arith, h x, few_of f k h xs, length-append (f x) (flat_map f xs))

unless_flat : {A : Type 0} (b : Bool) (xs : List A) → length xs ≤ 3 → length (if b then [] else xs) ≤ 3
unless_flat true xs h = omega arith
unless_flat false xs h = h

few_by_view : (v : ReadView) (r : Read) (d : DeclValue) → length (by_view v r d) ≤ 6
few_by_view view.Cell r d = let more = unless_flat (r.dims == 1) (cell_conditions r.y0 d.h) (omega arith) in omega (arith, length-append (cell_conditions r.x0 d.w) (if r.dims == 1 then [] else cell_conditions r.y0 d.h))
few_by_view view.Row r d = omega arith
few_by_view view.Column r d = omega arith
few_by_view view.Region r d = let more = unless_flat (r.dims == 1) (region_conditions r.y0 r.y1 d.h) (omega arith) in omega (arith, length-append (region_conditions r.x0 r.x1 d.w) (if r.dims == 1 then [] else region_conditions r.y0 r.y1 d.h))
few_by_view view.Whole r d = omega arith

few_in_matrix : (r : Read) (d : Option DeclValue) → length (in_matrix r d) ≤ 6
few_in_matrix r None = omega arith
few_in_matrix r (Some d) = few_by_view r.view r d

few_by_relation : (k : Relation) (a b : CoordinateValue) → length (by_relation k a b) ≤ 2
few_by_relation relation.Less a b = omega arith
few_by_relation relation.LessOrEqual a b = omega arith
few_by_relation relation.Greater a b = omega arith
few_by_relation relation.GreaterOrEqual a b = omega arith
few_by_relation relation.Equal a b = omega arith
few_by_relation relation.Unequal a b = omega arith

pub few_gaps : (ms : List DeclValue) (r : ProgRule) → IsSmallRule r → length (gaps_of ms r) < 2 ^ 32
few_gaps ms r h =
    let outs = flat_map (view_conditions ms) r.outs in
    let reads = flat_map (view_conditions ms) r.reads in
    let view = few_of (view_conditions ms) 6 (λ v. few_in_matrix v (slice_get ms v.matrix)) in
    rw length-map (omega (arith, h.few_outs, h.few_reads, h.few_conds, view r.outs, view r.reads, few_of written 2 (λ c. few_by_relation c.relation c.left c.right) r.conds, length-append outs reads, length-append (outs ++ reads) (flat_map written r.conds)))
