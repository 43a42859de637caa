-- The segment that holds a cell, found by its ends.
use Rattle.std.proofs.Common.{◌≡◌, ◌∙◌, refl, sym, ap, subst, inl, inr, ◌↔◌, ℕ, ◌+◌, ◌<◌, ◌≤◌, Bool, List, length, get_or, slice_get, Option, Some, None, ℤ, pos, ◌≤ℤ◌, ◌<ℤ◌, arith}
use Rattle.std.specs.Prelude.{IfNone, IfSome, IsSomeAnd, IsTrue}
use Rattle.std.specs.Option.{IsSome}
use Rattle.std.specs.List.{All}
use Rattle.std.proofs.lemmas.Bool.{cases_lt}
use Rattle.std.proofs.lemmas.Option.{slice_get_within}
use Rattle.pb_linear.specs.Form.{value}
use Rattle.pb_linear.specs.Sizes.{leasts_of, sizes_of}
use Rattle.pb_linear.specs.declared.sizes.Sizes.{Sizes}
use Rattle.pb_linear.specs.declared.sizes.TheConstants.{SIZE_TOP}
use Rattle.pb_linear.proofs.SizesLemmas.{in_range_top}
use Rattle.pb_linear.specs.VForm.{InArea}
use Rattle.pb_linear.specs.declared.vform.SymBox.{SymBox}
use Rattle.pb_graph.specs.Nodes.{NodeValue}
use Rattle.pb_program.specs.Trees.{ProgTransform}
use Rattle.pb_model.specs.Cells.{Cell}
use Rattle.pb_check.specs.Ranked.{IsIn, IsMadeCell}
use Rattle.pb_check.proofs.FirstLemmas.{some_same}
use Rattle.pb_check.proofs.OrderLemmas.{at_item}

-- between the ends on both axes
pub in_area : (area : SymBox) (sizes : List ℕ) (x y : ℤ) (q : Bool) → (value area.x0 sizes ≤ℤ x) × (x <ℤ value area.x1 sizes) → IsTrue q ↔ ((value area.y0 sizes ≤ℤ y) × (y <ℤ value area.y1 sizes)) → IsTrue q ↔ InArea area sizes x y
in_area area sizes x y q on_x on_y = (λ h. let py = on_y.0 h in record { from_x = on_x.0; before_x = on_x.1; from_y = py.0; before_y = py.1 }, λ h. on_y.1 (h.from_y, h.before_y))

-- sizes in range are at most the top
pub sizes_top : (p : List ProgTransform) (t : ℕ) (s : Sizes) (c : Cell) → IsSomeAnd (slice_get p t) (λ transform. IsMadeCell transform (sizes_of s) c) → All (λ size. size ≤ SIZE_TOP) s.of
sizes_top p t s c h = of_some (slice_get p t) h where
  of_some : (o : Option ProgTransform) → IsSomeAnd o (λ transform. IsMadeCell transform (sizes_of s) c) → All (λ size. size ≤ SIZE_TOP) s.of
  of_some None h = absurd h
  of_some (Some transform) h = in_range_top (leasts_of transform.ranges) s h.cell.in_range

module _ (nodes : List NodeValue) (sizes : List ℕ) (c : Cell) where
  -- none of the first segments holds the cell
  abbrev pub IsHeldLater : ℕ → Type 0
  IsHeldLater k = (u : ℕ) → u < k → IsIn nodes sizes c u → ⊥

  pub held_here : (k : ℕ) (node : NodeValue) → k < length nodes → node ≡ get_or nodes k node → (node.matrix ≡ c.matrix) × InArea node.area sizes (pos c.x) (pos c.y) → IsIn nodes sizes c k
  held_here k node below is h = record { node = node; there = at_item nodes k node below is; matrix = h.0; inside = h.1 }

  pub held_first : IsHeldLater 0
  held_first u below h = absurd (omega (arith, below))

  pub held_more : (k : ℕ) (node : NodeValue) → IsHeldLater k → k < length nodes → node ≡ get_or nodes k node → ((node.matrix ≡ c.matrix) × InArea node.area sizes (pos c.x) (pos c.y) → ⊥) → IsHeldLater (k + 1)
  held_more k node before below is other u within h = elim (cases_lt u k) [
    | inl earlier ↦ before u earlier h
    | inr later ↦
        let e : u ≡ k = omega (arith, within, later) in
        let same : h.node ≡ node = some_same h.node node (sym h.there ∙ ap (slice_get nodes) e ∙ at_item nodes k node below is) in
        other (subst (λ (n : NodeValue). (n.matrix ≡ c.matrix) × InArea n.area sizes (pos c.x) (pos c.y)) same (h.matrix, h.inside))
  ]

  pub held_nowhere : (k : ℕ) → IsHeldLater k → length nodes ≤ k → (u : ℕ) → IsIn nodes sizes c u → ⊥
  held_nowhere k before end u h = before u (omega (arith, slice_get_within nodes u h.node h.there, end)) h

-- a segment that is somewhere is found
pub found_some : (o : Option ℕ) (nodes : List NodeValue) (sizes : List ℕ) (c : Cell) (held : List NodeValue) → held ≡ nodes → IfNone o ((u : ℕ) → IsIn held sizes c u → ⊥) → (((u : ℕ) → IsIn nodes sizes c u → ⊥) → ⊥) → IsSome o
found_some None nodes sizes c held e none some = absurd (some (λ u h. none u (subst (λ ns. IsIn ns sizes c u) (sym e) h)))
found_some (Some u) nodes sizes c held e none some = refl

pub some_found : {A : Type 0} (P : A → Type 0) (o : Option A) (u : A) → o ≡ Some u → IfSome o P → P u
some_found P o u e h = subst (λ z. IfSome z P) e h

pub held_in : (o : Option ℕ) (u : ℕ) (held nodes : List NodeValue) (sizes : List ℕ) (c : Cell) → o ≡ Some u → held ≡ nodes → IfSome o (IsIn held sizes c) → IsIn nodes sizes c u
held_in o u held nodes sizes c is e h = subst (λ ns. IsIn ns sizes c u) e (some_found (IsIn held sizes c) o u is h)
