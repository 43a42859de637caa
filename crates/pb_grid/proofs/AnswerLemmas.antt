-- A matrix has a grid or a refusal, and one of them alone.
use Rattle.std.proofs.Common.{◌≡◌, ◌∙◌, refl, sym, ap, subst, inl, inr, ◌⊎◌, ◌≤◌, ℕ, Bool, true, false, List, length, map, Option, Some, None, ℤ, negsuc, ◌-ℤ◌, arith}
use Rattle.std.specs.List.{find}
use Rattle.std.proofs.lemmas.Int.{ints}
use Rattle.pb_linear.specs.Form.{numbers, value}
use Rattle.pb_linear.specs.Held.{AreHeld}
use Rattle.pb_linear.specs.Most.{Most}
use Rattle.pb_linear.specs.Numbers.{difference, exact_value, multiple}
use Rattle.pb_linear.specs.RuleBox.{Bounds}
use Rattle.pb_linear.specs.Sizes.{IsRanges, leasts_of, sizes_of}
use Rattle.pb_linear.specs.declared.form.Form.{Form}
use Rattle.pb_linear.specs.declared.sizes.Ranges.{Ranges}
use Rattle.pb_linear.specs.declared.sizes.Sizes.{Sizes}
use Rattle.pb_linear.specs.declared.vform.SymBox.{SymBox}
use Rattle.pb_linear.proofs.Held.{few_leasts, held_same, hold, hold_held, hold_is, least_low, same_most, some_most}
use Rattle.pb_linear.proofs.SizesLemmas.{InRange-length}
use Rattle.pb_linear.proofs.Values.{exact_value-multiple, exact_value-sum}
use Rattle.pb_grid.specs.declared.refusal.GridRefusal.{GridRefusal}
use Rattle.pb_grid.specs.declared.refusal.GridRefusal.TheVariants.{Crossing, TooManySegments, Uncovered, Memory}
use Rattle.pb_grid.specs.Crossings.{IsCrossing, IsFarthest, crossing}
use Rattle.pb_grid.specs.Grids.{AreCuts, AreStraight, HasGrid, HasRefusal, IsCutRefused, IsGrid, IsRefused, Matrix, are_too_many, areas_of, cuts_x, cuts_y, matrix_of}
use Rattle.pb_grid.specs.Segments.{SegmentValue, is_uncovered, segment_of}

-- ---- the sizes of a crossing
exact_difference : (a b : Form) (sizes : List ℕ) → exact_value (difference (numbers a) (numbers b)) sizes ≡ value a sizes -ℤ value b sizes
exact_difference a b sizes = omega (arith, ints, exact_value-sum (numbers a) (multiple (negsuc 0) (numbers b)) sizes, exact_value-multiple (negsuc 0) (numbers b) sizes)

some_farthest : (r : Ranges) → IsRanges r → (a b : Form) → (s : Sizes) × IsFarthest (leasts_of r) a b s
some_farthest r ok a b =
    let n = difference (numbers a) (numbers b) in
    let found = some_most n (leasts_of r) (few_leasts r ok) (least_low r ok) in
    let long = InRange-length (leasts_of r) found.0 found.1.in_range in
    let small : length found.0 ≤ 8 = omega (arith, few_leasts r ok) in
    let most = subst (λ (v : List ℕ → ℤ). Most v (leasts_of r) (exact_value n found.0) found.0) (λ i t. exact_difference a b t i) found.1 in (
      hold found.0 small,
      record {
        held = subst (λ k. AreHeld k (hold found.0 small)) long (hold_held found.0 small);
        most = exact_value n found.0;
        greatest = subst (Most (λ s. value a s -ℤ value b s) (leasts_of r) (exact_value n found.0)) (sym (hold_is found.0 small)) most;
      },
    )

one_farthest : (leasts : List ℕ) (a b : Form) (s u : Sizes) → IsFarthest leasts a b s → IsFarthest leasts a b u → s ≡ u
one_farthest leasts a b s u h k =
    held_same (length leasts) s u h.held k.held (same_most leasts (λ t. value a t -ℤ value b t) h.most k.most (sizes_of s) (sizes_of u) h.greatest k.greatest)

some_same : {A : Type 0} (x y : A) → Some x ≡ Some y → x ≡ y
some_same x y e = cc

clash : {A : Type 0} (o : Option A) (x : A) → o ≡ None → o ≡ Some x → ⊥
clash o x h k = let e : None ≡ Some x = sym h ∙ k in cc

same_told : (a b : ℕ) (f g s t : Form) (o p u v : Sizes) → a ≡ b → f ≡ g → s ≡ t → o ≡ p → u ≡ v → Crossing a f s o u ≡ Crossing b g t p v
same_told a b f g s t o p u v ha hf hs ho hu = cc

one_crossing : (leasts : List ℕ) (cuts : List Form) (a b : ℕ) (f g s t : Form) (o p u v : Sizes) → a ≡ b → IsCrossing leasts cuts f s o u → IsCrossing leasts cuts g t p v → Crossing a f s o u ≡ Crossing b g t p v
one_crossing leasts cuts a b f g s t o p u v e h k =
    let pair : (f, s) ≡ (g, t) = some_same (f, s) (g, t) (sym h.first_two ∙ k.first_two) in
    let first : f ≡ g = ap (λ (z : Form × Form). z.0) pair in
    let second : s ≡ t = ap (λ (z : Form × Form). z.1) pair in
    let over = one_farthest leasts g t o p (subst (λ y. IsFarthest leasts g y o) second (subst (λ y. IsFarthest leasts y s o) first h.above)) k.above in
    let under = one_farthest leasts t g u v (subst (λ y. IsFarthest leasts y g u) second (subst (λ y. IsFarthest leasts s y u) first h.below)) k.below in
    same_told a b f g s t o p u v e first second over under

module _ (leasts : List ℕ) (xs ys : List Form) where
  crossings_same : (a b : ℕ) (f g s t : Form) (o p u v : Sizes) → IsCutRefused leasts xs ys (Crossing a f s o u) → IsCutRefused leasts xs ys (Crossing b g t p v) → Crossing a f s o u ≡ Crossing b g t p v
  crossings_same a b f g s t o p u v (inl h) (inl k) = one_crossing leasts xs a b f g s t o p u v (h.0 ∙ sym k.0) h.1 k.1
  crossings_same a b f g s t o p u v (inl h) (inr k) = absurd (clash _ _ k.1 h.1.first_two)
  crossings_same a b f g s t o p u v (inr h) (inl k) = absurd (clash _ _ h.1 k.1.first_two)
  crossings_same a b f g s t o p u v (inr h) (inr k) = one_crossing leasts ys a b f g s t o p u v (h.0 ∙ sym k.0) h.2 k.2

  straight_or_crossing : (a : ℕ) (f s : Form) (o u : Sizes) → AreStraight leasts xs ys → IsCutRefused leasts xs ys (Crossing a f s o u) → ⊥
  straight_or_crossing a f s o u straight (inl h) = clash _ _ straight.on_x h.1.first_two
  straight_or_crossing a f s o u straight (inr h) = clash _ _ straight.on_y h.2.first_two

few_or_many : (b : Bool) → b ≡ false → b ≡ true → ⊥
few_or_many b h k = let e : false ≡ true = sym h ∙ k in cc

module _ (m : Matrix) where
  pub not_refused : (ss : List SegmentValue) (e : GridRefusal) → IsGrid m ss → IsRefused m e → ⊥
  not_refused ss (Crossing a f s o u) grid h = straight_or_crossing m.leasts (cuts_x m) (cuts_y m) a f s o u grid.cut.straight h
  not_refused ss TooManySegments grid h = few_or_many _ grid.cut.few h.1
  not_refused ss (Uncovered area) grid h = clash _ _ grid.covered h.1
  not_refused ss Memory grid h = h

  pub one_refusal : (e f : GridRefusal) → IsRefused m e → IsRefused m f → e ≡ f
  one_refusal (Crossing a f s o u) (Crossing b g t p v) h k = crossings_same m.leasts (cuts_x m) (cuts_y m) a b f g s t o p u v h k
  one_refusal (Crossing a f s o u) TooManySegments h k = absurd (straight_or_crossing m.leasts (cuts_x m) (cuts_y m) a f s o u k.0 h)
  one_refusal (Crossing a f s o u) (Uncovered area) h k = absurd (straight_or_crossing m.leasts (cuts_x m) (cuts_y m) a f s o u k.0.straight h)
  one_refusal TooManySegments (Crossing b g t p v) h k = absurd (straight_or_crossing m.leasts (cuts_x m) (cuts_y m) b g t p v h.0 k)
  one_refusal TooManySegments TooManySegments h k = refl
  one_refusal TooManySegments (Uncovered area) h k = absurd (few_or_many _ k.0.few h.1)
  one_refusal (Uncovered area) (Crossing b g t p v) h k = absurd (straight_or_crossing m.leasts (cuts_x m) (cuts_y m) b g t p v h.0.straight k)
  one_refusal (Uncovered area) TooManySegments h k = absurd (few_or_many _ h.0.few k.1)
  one_refusal (Uncovered area) (Uncovered other) h k = ap Uncovered (some_same area other (sym h.1 ∙ k.1))
  one_refusal Memory f h k = absurd h
  one_refusal (Crossing a f s o u) Memory h k = absurd k
  one_refusal TooManySegments Memory h k = absurd k
  one_refusal (Uncovered area) Memory h k = absurd k

  by_cover : AreCuts m.leasts (cuts_x m) (cuts_y m) → (c : Option SymBox) → find (is_uncovered m.leasts m.boxes) (areas_of m) ≡ c → HasGrid m ⊎ HasRefusal m
  by_cover cut None e = inl (record { segments = map (segment_of m.leasts m.boxes) (areas_of m); is = record { cut = cut; covered = e; segments = refl } })
  by_cover cut (Some area) e = inr (record { why = Uncovered area; told = (cut, e) })

  by_count : AreStraight m.leasts (cuts_x m) (cuts_y m) → (b : Bool) → are_too_many (length (cuts_x m)) (length (cuts_y m)) ≡ b → HasGrid m ⊎ HasRefusal m
  by_count straight false e = by_cover (record { straight = straight; few = e }) _ refl
  by_count straight true e = inr (record { why = TooManySegments; told = (straight, e) })

module _ (r : Ranges) (ok : IsRanges r) (boxes : List Bounds) (width height : Form) where
  abbrev m : Matrix
  m = matrix_of r boxes width height

  crosses_by : (cuts : List Form) (p : Form × Form) → crossing (leasts_of r) cuts ≡ Some p → IsCrossing (leasts_of r) cuts p.0 p.1 (some_farthest r ok p.0 p.1).0 (some_farthest r ok p.1 p.0).0
  crosses_by cuts p e = record { first_two = e; above = (some_farthest r ok p.0 p.1).1; below = (some_farthest r ok p.1 p.0).1 }

  by_y : crossing (leasts_of r) (cuts_x m) ≡ None → (c : Option (Form × Form)) → crossing (leasts_of r) (cuts_y m) ≡ c → HasGrid m ⊎ HasRefusal m
  by_y none None e = by_count m (record { on_x = none; on_y = e }) _ refl
  by_y none (Some p) e = inr (record { why = Crossing 1 p.0 p.1 (some_farthest r ok p.0 p.1).0 (some_farthest r ok p.1 p.0).0; told = inr (refl, none, crosses_by (cuts_y m) p e) })

  by_x : (c : Option (Form × Form)) → crossing (leasts_of r) (cuts_x m) ≡ c → HasGrid m ⊎ HasRefusal m
  by_x None e = by_y e _ refl
  by_x (Some p) e = inr (record { why = Crossing 0 p.0 p.1 (some_farthest r ok p.0 p.1).0 (some_farthest r ok p.1 p.0).0; told = inl (refl, crosses_by (cuts_x m) p e) })

  pub some_answer : HasGrid m ⊎ HasRefusal m
  some_answer = by_x _ refl
