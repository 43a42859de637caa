-- What is found of a transform of an accepted program, and the segments and ranks of its cells.
use Rattle.std.proofs.Common.{◌≡◌, ◌∙◌, refl, sym, ap, subst, ℕ, zero, suc, ◌+◌, ◌*◌, ◌/◌, ◌^◌, ◌<◌, ◌≤◌, true, List, [], ◌∷◌, length, get_or, Option, Some, None, slice_get, ℤ, pos, ◌+ℤ◌, unsigned_abs, arith}
use Rattle.std.specs.Prelude.{IsSomeAnd, slice_index}
use Rattle.std.specs.List.{enumerate_from, list_all}
use Rattle.std.proofs.lemmas.Bool.{and_parts, leb-true}
use Rattle.std.proofs.lemmas.Int.{ints}
use Rattle.std.proofs.lemmas.List.{length-map}
use Rattle.std.proofs.lemmas.Option.{slice_get_within}
use Rattle.pb_linear.specs.Form.{numbers, value}
use Rattle.pb_linear.specs.Limits.{is_number}
use Rattle.pb_linear.specs.Numbers.{coefficient, part_of, value_before}
use Rattle.pb_linear.specs.Sizes.{InRange}
use Rattle.pb_linear.specs.declared.form.Form.{Form}
use Rattle.pb_linear.specs.declared.sizes.TheConstants.{SIZE_TOP}
use Rattle.pb_linear.proofs.Products.{near_quotient}
use Rattle.pb_linear.proofs.Values.{value_before-more, value_before-zero}
use Rattle.pb_graph.specs.Layerings.{LayeringValue, layer_of}
use Rattle.pb_graph.specs.Ranks.{Rank, rank_in}
use Rattle.pb_program.specs.Trees.{ProgTransform, bare_prog}
use Rattle.pb_program.specs.WellFormed.{IsTransform}
use Rattle.pb_region.proofs.SmallLemmas.{at_place, small_transform}
use Rattle.pb_model.specs.Cells.{Cell}
use Rattle.pb_check.specs.Accepting.{AcceptedValue, IsAccepted}
use Rattle.pb_check.specs.Cuts.{AreNodes}
use Rattle.pb_check.specs.Orders.{AnalysisValue, AreFound, IsAnalysis}
use Rattle.pb_check.specs.Ranked.{HasCell, IsCovered, IsIn, IsMadeCell, IsRanked, OfTransform}
use Rattle.pb_check.proofs.EndLemmas.{few_nodes}
use Rattle.pb_check.proofs.OrderLemmas.{found_length}
use Rattle.pb_check.proofs.RankedLemmas.{covered_is, ranked_is, segment_there}

-- ---- how great the value of a form is
coefficient_near : (row : List ℤ) (i : ℕ) → list_all is_number row ≡ true → unsigned_abs (coefficient row i) ≤ 2 ^ 26
coefficient_near [] i h = omega (arith, ints)
coefficient_near (z ∷ row) zero h = leb-true _ _ (and_parts (is_number z) (list_all is_number row) h).0
coefficient_near (z ∷ row) (suc i) h = coefficient_near row i (and_parts (is_number z) (list_all is_number row) h).1

module _ (f : Form) where
  part_near : (i size : ℕ) → size ≤ SIZE_TOP → unsigned_abs (part_of (numbers f) i size) ≤ 2 ^ 48
  part_near i size small =
      let half : size / 2 ≤ 2 ^ 20 = omega (arith, small) in
      let third : size / 3 ≤ 2 ^ 20 = omega (arith, small) in
      let quarter : size / 4 ≤ 2 ^ 20 = omega (arith, small) in
      omega (
        arith,
        ints,
        near_quotient (coefficient f.whole i) size (coefficient_near f.whole i f.small_whole) (omega (arith, small)),
        near_quotient (coefficient f.half i) (size / 2) (coefficient_near f.half i f.small_half) half,
        near_quotient (coefficient f.third i) (size / 3) (coefficient_near f.third i f.small_third) third,
        near_quotient (coefficient f.quarter i) (size / 4) (coefficient_near f.quarter i f.small_quarter) quarter,
      )

  before_near : (sizes : List ℕ) → ((i : ℕ) → get_or sizes i 0 ≤ SIZE_TOP) → (i : ℕ) → unsigned_abs (value_before i (numbers f) sizes) ≤ 2 ^ 26 + i * 2 ^ 48
  before_near sizes small zero = omega (arith, ints, value_before-zero (numbers f) sizes, leb-true _ _ f.small_constant)
  before_near sizes small (suc i) =
      let e : value_before (suc i) (numbers f) sizes ≡ value_before i (numbers f) sizes +ℤ part_of (numbers f) i (get_or sizes i 0) = subst (λ n. value_before n (numbers f) sizes ≡ value_before i (numbers f) sizes +ℤ part_of (numbers f) i (get_or sizes i 0)) (omega arith) (value_before-more i (numbers f) sizes) in
      omega (arith, ints, e, before_near sizes small i, part_near i (get_or sizes i 0) (small i))

  pub value_near : (sizes : List ℕ) → ((i : ℕ) → get_or sizes i 0 ≤ SIZE_TOP) → unsigned_abs (value f sizes) ≤ 2 ^ 52
  value_near sizes small = omega (arith, before_near sizes small 8)

in_range_each : (leasts sizes : List ℕ) → InRange leasts sizes → (i : ℕ) → get_or sizes i 0 ≤ SIZE_TOP
in_range_each [] [] h i = omega arith
in_range_each [] (size ∷ sizes) h i = absurd h
in_range_each (least ∷ leasts) [] h i = absurd h
in_range_each (least ∷ leasts) (size ∷ sizes) h zero = h.1
in_range_each (least ∷ leasts) (size ∷ sizes) h (suc i) = in_range_each leasts sizes h.2 i

-- ---- what is found of a transform
some_and : {A : Type 0} (P : A → Type 0) (o : Option A) → IsSomeAnd o P → (x : A) × (o ≡ Some x) × P x
some_and P None h = absurd h
some_and P (Some x) h = (x, refl, h)

and_some : {A : Type 0} (P : A → Type 0) (o : Option A) (x : A) → o ≡ Some x → P x → IsSomeAnd o P
and_some P o x e h = subst (λ z. IsSomeAnd z P) (sym e) h

pub has_transform : (v : AcceptedValue) (t : ℕ) (sizes : List ℕ) (c : Cell) → HasCell v t sizes c → t < length (bare_prog v.program)
has_transform v t sizes c h = let x = some_and (λ transform. IsMadeCell transform sizes c) (slice_get (bare_prog v.program) t) h in slice_get_within (bare_prog v.program) t x.0 x.1

found_at : (p : List ProgTransform) (found : List AnalysisValue) → AreFound p found → (t : ℕ) (x : ProgTransform) (a : AnalysisValue) → slice_get p t ≡ Some x → slice_get found t ≡ Some a → IsAnalysis x a
found_at [] found h t x a there is = absurd (let e : None ≡ Some x = there in cc)
found_at (y ∷ p) [] h t x a there is = absurd h
found_at (y ∷ p) (b ∷ found) h zero x a there is =
    let one : Some y ≡ Some x = there in
    let other : Some b ≡ Some a = is in
    let same : y ≡ x = cc in
    let equal : b ≡ a = cc in
    subst (IsAnalysis x) equal (subst (λ z. IsAnalysis z b) same h.0)
found_at (y ∷ p) (b ∷ found) h (suc t) x a there is = found_at p found h.1 t x a there is

length-numbered : {A : Type 0} (n : ℕ) (xs : List A) → length (enumerate_from n xs) ≡ length xs
length-numbered n [] = refl
length-numbered n (x ∷ xs) = ap suc (length-numbered (n + 1) xs)

module _ (v : AcceptedValue) (accepted : IsAccepted v) (t : ℕ) (a : AnalysisValue) (there : slice_get v.found t ≡ Some a) where
  abbrev p : List ProgTransform
  p = bare_prog v.program

  -- what is said of the transform and of what is found of it
  of_transform : (P : ProgTransform → AnalysisValue → Type 0) (x : ProgTransform) → slice_get p t ≡ Some x → P x a → OfTransform v t P
  of_transform P x at h = and_some (λ transform. IsSomeAnd (slice_get v.found t) (P transform)) (slice_get p t) x at (and_some (P x) (slice_get v.found t) a there h)

  some_at : (k : ℕ) (q : List ProgTransform) → k < length q → (x : ProgTransform) × (slice_get q k ≡ Some x)
  some_at k [] below = absurd (omega (arith, below))
  some_at zero (x ∷ q) below = (x, refl)
  some_at (suc k) (x ∷ q) below = some_at k q (omega (arith, below))

  pub of_any : (P : AnalysisValue → Type 0) → P a → OfTransform v t (λ transform. P)
  of_any P h =
      let below : t < length p = omega (arith, slice_get_within v.found t a there, found_length p v.found accepted.found) in
      let x = some_at t p below in
      of_transform (λ transform. P) x.0 x.1 h

  module _ (sizes : List ℕ) (c : Cell) (has : HasCell v t sizes c) where
    abbrev here : (x : ProgTransform) × (slice_get p t ≡ Some x) × IsMadeCell x sizes c
    here = some_and (λ transform. IsMadeCell transform sizes c) (slice_get p t) has

    is : IsAnalysis here.0 a
    is = found_at p v.found accepted.found t here.0 a here.1 there

    pub few : length a.nodes < 2 ^ 32
    few =
        let x = here.0 in
        let fits = at_place (IsTransform (length p)) p t x accepted.well_formed.transforms here.1 in
        few_nodes (length p) x fits (small_transform p accepted.well_formed t x here.1).ranges a.nodes (subst (AreNodes x) (sym is.nodes) is.are.nodes)

    pub some_segment : ((u : ℕ) → IsIn a.nodes sizes c u → ⊥) → ⊥
    some_segment none = let u = segment_there p t here.0 sizes accepted.well_formed accepted.sound here.1 a is c here.2 in none u.0 u.1

    module _ (u : ℕ) (h : IsIn a.nodes sizes c u) where
      pub covered : OfTransform v t (λ transform b. IsCovered transform b sizes c u)
      covered = of_transform (λ transform b. IsCovered transform b sizes c u) here.0 here.1 (covered_is p t here.0 sizes accepted.well_formed accepted.sound here.1 a is c here.2 u h)

      pub ranked : (rank : Rank) → rank ≡ rank_in a.order u (pos c.x) (pos c.y) → OfTransform v t (λ transform b. IsRanked transform b sizes c rank)
      ranked rank e =
          of_transform (λ transform b. IsRanked transform b sizes c rank) here.0 here.1 (subst (IsRanked here.0 a sizes c) (sym e) (ranked_is p t here.0 sizes accepted.well_formed accepted.sound here.1 a is c here.2 u h))

      pub ranked_by : (l : LayeringValue) → l ≡ a.order → (rank : Rank) → rank ≡ rank_in l u (pos c.x) (pos c.y) → OfTransform v t (λ transform b. IsRanked transform b sizes c rank)
      ranked_by l e rank told = ranked rank (told ∙ ap (λ k. rank_in k u (pos c.x) (pos c.y)) e)

      inside : u < length is.choices.nodes
      inside = omega (arith, slice_get_within a.nodes u h.node h.there, ap length is.nodes)

      pub segment_inside : u < length a.order.layer
      segment_inside = omega (arith, inside, ap length is.layering.layer, is.layering.is_used.room)

      pub layer_inside : slice_index a.order.layer u < length a.order.layers
      layer_inside =
          let l = is.layering in
          let long : length a.order.layers ≡ length l.used.layers = ap length l.layers ∙ length-map (enumerate_from 0 l.used.layers) (layer_of is.choices l.used.layer) ∙ length-numbered 0 l.used.layers in
          omega (arith, long, ap (λ ks. slice_index ks u) l.layer, l.is_used.numbered u inside)

      pub near_x : c.x < 2 ^ 62
      near_x = omega (arith, ints, h.inside.before_x, value_near h.node.area.x1 sizes (in_range_each _ sizes here.2.cell.in_range))

      pub near_y : c.y < 2 ^ 62
      near_y = omega (arith, ints, h.inside.before_y, value_near h.node.area.y1 sizes (in_range_each _ sizes here.2.cell.in_range))
