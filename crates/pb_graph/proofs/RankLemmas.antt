-- What is read for a cell has a smaller rank.
use Rattle.std.proofs.Common.{◌≡◌, ◌⊎◌, refl, sym, ap, subst, inl, inr, ⊎_elim, ℕ, ℤ, ◌≤ℤ◌, ◌<ℤ◌, Bool, true, false, List, [], ◌∷◌, slice_index, arith}
use Rattle.std.specs.Prelude.{◌==◌, if◌then◌else◌}
use Rattle.std.proofs.lemmas.Int.{by_lt_z, ints}
use Rattle.std.proofs.lemmas.Option.{get_or_from_slice_get}
use Rattle.pb_linear.specs.Sizes.{InRange}
use Rattle.pb_linear.specs.VForm.{InArea}
use Rattle.pb_linear.specs.declared.boxes.ReadBox.{ReadBox}
use Rattle.pb_linear.specs.declared.boxes.Sign.{Sign}
use Rattle.pb_linear.specs.declared.boxes.Sign.TheVariants.{Plus, Minus}
use Rattle.pb_linear.specs.declared.boxes.Step.{Step}
use Rattle.pb_linear.specs.declared.vform.SymBox.{SymBox}
use Rattle.pb_graph.specs.Edges.{Choices, Span}
use Rattle.pb_graph.specs.Expressions.{of_vform, value_of}
use Rattle.pb_graph.specs.Layerings.{IsLayering, LayerValue, LayeringValue, steps_at}
use Rattle.pb_graph.specs.Nodes.{NodeValue}
use Rattle.pb_graph.specs.Ranks.{ApartOn, AtOrBeforeBy, BeforeBy, Fits, IsBelow, IsHandled, IsRead, IsReadOf, along, coordinate, high_at, low_at, rank_by, rank_in, signed}
use Rattle.pb_graph.proofs.HandledLemmas.{handled}

rank_layer : (layer : ℕ) (list : List Step) (x y : ℤ) → (rank_by layer list x y).layer ≡ layer
rank_layer layer [] x y = refl
rank_layer layer (s ∷ []) x y = refl
rank_layer layer (s ∷ t ∷ more) x y = refl

abbrev span_if : ReadBox → Bool → Span
span_if r t = if t then record { low = of_vform r.x0; high = of_vform r.x1 } else record { low = of_vform r.y0; high = of_vform r.y1 }

module _ (r : ReadBox) (sizes : List ℕ) (x y a b : ℤ) (read : IsRead r sizes x y a b) where
  -- on each axis the place is among what is read
  within : (axis : ℕ) → (low_at r sizes x y axis ≤ℤ coordinate axis a b) × (coordinate axis a b <ℤ high_at r sizes x y axis)
  within axis = by_test (axis == 0)
    where
      by_test : (t : Bool) → (value_of (span_if r t).low sizes x y ≤ℤ (if t then a else b)) × ((if t then a else b) <ℤ value_of (span_if r t).high sizes x y)
      by_test true = (read.from_x, read.before_x)
      by_test false = (read.from_y, read.before_y)

  step_before : (step : Step) → BeforeBy r sizes x y step.axis step.sign → along step a b <ℤ along step x y
  step_before step h = by_sign step.sign h
    where
      by_sign : (sign : Sign) → BeforeBy r sizes x y step.axis sign → signed sign (coordinate step.axis a b) <ℤ signed sign (coordinate step.axis x y)
      by_sign Plus h = omega (arith, ints, (within step.axis).1)
      by_sign Minus h = omega (arith, ints, (within step.axis).0)

  step_at : (step : Step) → AtOrBeforeBy r sizes x y step.axis step.sign → along step a b ≤ℤ along step x y
  step_at step h = by_sign step.sign h
    where
      by_sign : (sign : Sign) → AtOrBeforeBy r sizes x y step.axis sign → signed sign (coordinate step.axis a b) ≤ℤ signed sign (coordinate step.axis x y)
      by_sign Plus h = omega (arith, ints, (within step.axis).1)
      by_sign Minus h = omega (arith, ints, (within step.axis).0)

  below_by : (layer : ℕ) (list : List Step) → Fits r sizes x y list → IsBelow (rank_by layer list a b) (rank_by layer list x y)
  below_by layer [] h = absurd h
  below_by layer (s ∷ []) h = inr (refl, inl (step_before s h))
  below_by layer (s ∷ t ∷ more) h = ⊎_elim
      (λ first. inr (refl, inl (step_before s first)))
      (λ both. let first = step_at s both.0 in by_lt_z (along s a b) (along s x y)
      (λ less. inr (refl, inl less))
      (λ not_less. inr (refl, inr (omega (arith, ints), step_before t both.1))))
      h

  not_apart : (area source : SymBox) → InArea area sizes x y → InArea source sizes a b → ApartOn area r sizes source 0 ⊎ ApartOn area r sizes source 1 → ⊥
  not_apart area source cell place (inl (inl k)) = omega (arith, ints, k x y cell)
  not_apart area source cell place (inl (inr k)) = omega (arith, ints, k x y cell)
  not_apart area source cell place (inr (inl k)) = omega (arith, ints, k x y cell)
  not_apart area source cell place (inr (inr k)) = omega (arith, ints, k x y cell)

  handled_below : (l : LayeringValue) (u v : ℕ) (reader source : NodeValue) → InArea reader.area sizes x y → InArea source.area sizes a b → IsHandled l sizes u v reader source r → IsBelow (rank_in l v a b) (rank_in l u x y)
  handled_below l u v reader source cell place (inl apart) = absurd (not_apart reader.area source.area cell place apart)
  handled_below l u v reader source cell place (inr (inl lower)) =
      inl (omega (arith, rank_layer (slice_index l.layer v) (steps_at l.layers (slice_index l.layer v)) a b, rank_layer (slice_index l.layer u) (steps_at l.layers (slice_index l.layer u)) x y))
  handled_below l u v reader source cell place (inr (inr (layer, same, has, served))) =
      let steps : steps_at l.layers (slice_index l.layer u) ≡ layer.steps = ap (λ (k : LayerValue). k.steps) (get_or_from_slice_get l.layers (slice_index l.layer u) layer _ has) in
      subst (λ k. IsBelow (rank_by k (steps_at l.layers k) a b) (rank_in l u x y)) (sym same)
      (below_by (slice_index l.layer u) (steps_at l.layers (slice_index l.layer u)) (subst (λ list. Fits r sizes x y list) (sym steps) (served.fits x y cell)))

pub falls : (c : Choices) (l : LayeringValue) (sizes : List ℕ) → IsLayering c l → InRange c.leasts sizes
    → (u v : ℕ) (reader source : NodeValue) (r : ReadBox) → IsReadOf c u v reader source r
    → (x y : ℤ) → InArea reader.area sizes x y → (a b : ℤ) → IsRead r sizes x y a b → InArea source.area sizes a b
    → IsBelow (rank_in l v a b) (rank_in l u x y)
falls c l sizes is range u v reader source r of x y cell a b read place =
    handled_below r sizes x y a b read l u v reader source cell place (handled c l sizes is range u v reader source r of)
