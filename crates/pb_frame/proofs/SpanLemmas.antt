-- The blocks of an axis and of a layer: they reach all places before the ends, and each stands before the later ones.
use Rattle.std.proofs.Common.{◌≡◌, refl, subst, inl, inr, ◌⊎◌, ⊎_elim, ℕ, zero, suc, ◌+◌, ◌-◌, ◌*◌, ◌/◌, ◌≤◌, ◌<◌, Bool, true, false, List, [], ◌∷◌, ◌++◌, map, length, min, slice_get, Option, Some, None, arith}
use Rattle.std.specs.Prelude.{filter}
use Rattle.std.specs.Int.{div_ceil}
use Rattle.std.specs.List.{Contains, flat_map, range_with_len}
use Rattle.std.proofs.Math.Bool.{cond}
use Rattle.std.proofs.Math.Nat.{div-mul-le_self, lt-div-mul-add, mul-le-mul_right}
use Rattle.std.proofs.lemmas.Bool.{cases_lt}
use Rattle.std.proofs.lemmas.Grind.{div_ceil_times}
use Rattle.std.proofs.lemmas.List.Elements.{Contains-append_cases}
use Rattle.std.proofs.lemmas.List.FromFn.{get_or-range_with_len, length-map-range_with_len, length-range_with_len}
use Rattle.pb_linear.specs.declared.boxes.Sign.{Sign}
use Rattle.pb_linear.specs.declared.boxes.Sign.TheVariants.{Plus, Minus}
use Rattle.pb_values.specs.Views.{HasPlace}
use Rattle.pb_values.specs.declared.rect.Rect.{Rect}
use Rattle.pb_base.proofs.ListLemmas.{filter_in, flat_in, in_at, in_cases, in_flat, in_head, in_map, in_none, in_range, in_tail, map_in}
use Rattle.pb_graph.specs.Layerings.{LayerValue}
use Rattle.pb_frame.specs.declared.part.FramePart.{FramePart}
use Rattle.pb_frame.specs.Frames.{block_at, block_side, cut_spans, greatest, number_by, spans, square, squares}

-- ---- lists whose elements are related to the later ones
module _ {A : Type 0} (R : A → A → Type 0) where
  abbrev pub Ordered : List A → Type 0
  Ordered [] = Unit {0}
  Ordered (x ∷ xs) = ((y : A) → Contains xs y → R x y) × Ordered xs

  pub ordered_filter : (p : A → Bool) (xs : List A) → Ordered xs → Ordered (filter p xs)
  ordered_filter p [] h = tt
  ordered_filter p (x ∷ xs) h = by (p x) (ordered_filter p xs h.1)
    where
      by : (b : Bool) → Ordered (filter p xs) → Ordered (cond b (x ∷ filter p xs) (filter p xs))
      by true rest = (λ y c. h.0 y (filter_in p xs y c).0, rest)
      by false rest = rest

  pub ordered_at : (xs : List A) → Ordered xs → (i j : ℕ) (x y : A) → slice_get xs i ≡ Some x → slice_get xs j ≡ Some y → i < j → R x y
  ordered_at [] h i j x y e f less = absurd (cc)
  ordered_at (z ∷ xs) h i zero x y e f less = absurd (omega (arith, less))
  ordered_at (z ∷ xs) h zero (suc j) x y e f less = subst (λ w. R w y) (some_is z x e) (h.0 y (in_at xs j y f))
    where
      some_is : (a b : A) → Some a ≡ Some b → a ≡ b
      some_is a b h = cc
  ordered_at (z ∷ xs) h (suc i) (suc j) x y e f less = ordered_at xs h.1 i j x y e f (omega (arith, less))

  ordered_append : (xs ys : List A) → Ordered xs → Ordered ys → ((x y : A) → Contains xs x → Contains ys y → R x y) → Ordered (xs ++ ys)
  ordered_append [] ys h g all = g
  ordered_append (x ∷ xs) ys h g all = (
    λ y c. ⊎_elim (λ left. h.0 y left) (λ right. all x y (in_head x xs) right) (Contains-append_cases xs ys y c),
    ordered_append xs ys h.1 g (λ a b ha hb. all a b (in_tail x a xs ha) hb),
  )

-- ---- the order of an axis
-- a block of an axis stands before another
abbrev pub Ahead : Option Sign → ℕ × ℕ → ℕ × ℕ → Type 0
Ahead (Some Plus) s r = s.1 ≤ r.0
Ahead (Some Minus) s r = r.1 ≤ s.0
Ahead None s r = ⊥

-- of numbers that rise
by_range : {A : Type 0} (R : A → A → Type 0) (f : ℕ → A) (s n : ℕ) → ((i j : ℕ) → i < j → j < s + n → R (f i) (f j)) → Ordered R (map f (range_with_len s n))
by_range R f s zero h = tt
by_range {A} R f s (suc n) h = (first, by_range R f (s + 1) n (λ i j less below. h i j less (omega (arith, below))))
  where
    first : (y : A) → Contains (map f (range_with_len (s + 1) n)) y → R (f s) y
    first y c =
        let m = map_in f (range_with_len (s + 1) n) y c in
        let k = m.1 in
        let below : k.0 < n = omega (arith, k.1, length-range_with_len (s + 1) n) in
        let at : s + 1 + k.0 ≡ m.0 = omega (arith, below, k.2, get_or-range_with_len (s + 1) n k.0 m.0 below) in
        subst (R (f s)) m.2 (h s m.0 (omega (arith, at)) (omega (arith, at, below)))

module _ (side top : ℕ) where
  abbrev block : ℕ → ℕ × ℕ
  block k = block_at side top k

  block_step : (i j : ℕ) → i < j → (block i).1 ≤ (block j).0
  block_step i j less = let step : (i + 1) * side ≤ j * side = mul-le-mul_right side (omega (arith, less)) in omega (arith, step, next i)
    where
      next : (k : ℕ) → (k + 1) * side ≡ k * side + side
      next k = omega arith

  abbrev count : ℕ
  count = div_ceil top side

  cut_ordered : (sign : Sign) → Ordered (Ahead (Some sign)) (cut_spans sign side top)
  cut_ordered Plus = by_range (Ahead (Some Plus)) (λ place. block place) 0 count (λ i j less below. block_step i j less)
  cut_ordered Minus = by_range (Ahead (Some Minus)) (λ place. block (count - 1 - place)) 0 count (λ i j less below. block_step (count - 1 - j) (count - 1 - i) (omega (arith, less, below)))

  number_back : (sign : Sign) (k : ℕ) → k < count → (place : ℕ) × (place < count) × (number_by sign count place ≡ k)
  number_back Plus k below = (k, below, refl)
  number_back Minus k below = (count - 1 - k, omega (arith, below), omega (arith, below))

  cut_reach : 0 < side → (sign : Sign) (x : ℕ) → x < top → (s : ℕ × ℕ) × Contains (cut_spans sign side top) s × (s.0 ≤ x) × (x < s.1)
  cut_reach some sign x inside =
      let k = x / side in
      let start : k * side ≤ x = div-mul-le_self x side in
      let end : x < k * side + side = lt-div-mul-add some in
      let below = fewer k start in
      let p = number_back sign k below in (
        block k,
        subst (λ n. Contains (cut_spans sign side top) (block n)) p.2 (in_map (λ place. block (number_by sign count place)) (range_with_len 0 count) p.0 (in_range count p.0 p.1)),
        start,
        omega (arith, end, inside),
      )
    where
      fewer : (k : ℕ) → k * side ≤ x → k < count
      fewer k start = ⊎_elim (λ h. h) (λ h. absurd (let all : count * side ≤ k * side = mul-le-mul_right side h in omega (arith, all, start, inside, (div_ceil_times top side some).0))) (cases_lt k count)

some_side : (grain top : ℕ) → 0 < block_side grain top
some_side grain top = omega arith

pub side_serves : (grain top : ℕ) → (grain ≤ block_side grain top) × (top ≤ 16 * block_side grain top)
side_serves grain top = let all = (div_ceil_times top 16 (omega arith)).0 in (omega arith, omega (arith, all))

pub side_least : (grain top side : ℕ) → 1 ≤ side → grain ≤ side → top ≤ 16 * side → block_side grain top ≤ side
side_least grain top side some grains enough = omega (arith, some, grains, enough, (div_ceil_times top 16 (omega arith)).1)

pub spans_few : (cut : Option Sign) (grain top : ℕ) → length (spans cut grain top) ≤ 16
unfolding spans
spans_few None grain top = omega arith
spans_few (Some sign) grain top = omega (arith, length-map-range_with_len (λ place. block_at side top (number_by sign count place)) 0 count, few)
  where
    side : ℕ
    side = block_side grain top

    count : ℕ
    count = div_ceil top side

    few : count ≤ 16
    few = ⊎_elim (λ more. absurd (let all : 17 * side ≤ count * side = mul-le-mul_right side more in omega (arith, all, (side_serves grain top).1, (div_ceil_times top side (some_side grain top)).1))) (λ h. omega (arith, h)) (cases_lt 16 count)

pub spans_sized : (sign : Sign) (grain top : ℕ) (s : ℕ × ℕ) → Contains (spans (Some sign) grain top) s
    → (s.1 ≡ min (s.0 + block_side grain top) top) × ((k : ℕ) × (s.0 ≡ k * block_side grain top))
unfolding spans
spans_sized sign grain top s here =
    let side = block_side grain top in
    let m = map_in (λ place. block_at side top (number_by sign (div_ceil top side) place)) (range_with_len 0 (div_ceil top side)) s here in
    subst (λ (r : ℕ × ℕ). (r.1 ≡ min (r.0 + side) top) × ((k : ℕ) × (r.0 ≡ k * side))) m.2 (refl, (number_by sign (div_ceil top side) m.0, refl))

pub spans_whole : (grain top : ℕ) → spans None grain top ≡ (0, top) ∷ []
unfolding spans
spans_whole grain top = refl

pub spans_ordered : (cut : Option Sign) (grain top : ℕ) → Ordered (Ahead cut) (spans cut grain top)
unfolding spans
spans_ordered None grain top = (λ y c. in_none y c, tt)
spans_ordered (Some sign) grain top = cut_ordered (block_side grain top) top sign

pub spans_reach : (cut : Option Sign) (grain top x : ℕ) → x < top → (s : ℕ × ℕ) × Contains (spans cut grain top) s × (s.0 ≤ x) × (x < s.1)
unfolding spans
spans_reach None grain top x inside = ((0, top), in_head (0, top) [], omega arith, inside)
spans_reach (Some sign) grain top x inside = cut_reach (block_side grain top) top (some_side grain top) sign x inside

-- ---- the order of a layer's blocks
-- a block of a layer stands before another on an axis
abbrev pub Precedes : Option Sign → Option Sign → Rect → Rect → Type 0
Precedes cx cy a b = Ahead cx (a.x0, a.x1) (b.x0, b.x1) ⊎ Ahead cy (a.y0, a.y1) (b.y0, b.y1)

column_ordered : (cx cy : Option Sign) (x : ℕ × ℕ) (ys : List (ℕ × ℕ)) → Ordered (Ahead cy) ys → Ordered (Precedes cx cy) (map (square x) ys)
column_ordered cx cy x [] h = tt
column_ordered cx cy x (y ∷ ys) h = (
  λ b c. let m = map_in (square x) ys b c in subst (Precedes cx cy (square x y)) m.2 (inr (h.0 m.0 m.1)),
  column_ordered cx cy x ys h.1,
)

all_ordered : (cx cy : Option Sign) (xs ys : List (ℕ × ℕ)) → Ordered (Ahead cx) xs → Ordered (Ahead cy) ys → Ordered (Precedes cx cy) (flat_map (λ x. map (square x) ys) xs)
all_ordered cx cy [] ys h g = tt
all_ordered cx cy (x ∷ xs) ys h g = ordered_append (Precedes cx cy) (map (square x) ys) (flat_map (λ z. map (square z) ys) xs) (column_ordered cx cy x ys g) (all_ordered cx cy xs ys h.1 g)
    (λ a b ca cb.
    let m = map_in (square x) ys a ca in
    let f = flat_in (λ z. map (square z) ys) xs b cb in
    let n = map_in (square f.0) ys b f.2 in
    subst (λ r. Precedes cx cy r b) m.2 (subst (Precedes cx cy (square x m.0)) n.2 (inl (h.0 f.0 f.1))))

pub squares_ordered : (layer : LayerValue) (grain : ℕ) (parts : List FramePart) → Ordered (Precedes layer.cut_x layer.cut_y) (squares layer grain parts)
squares_ordered layer grain parts =
    let wide = greatest (map (λ (part : FramePart). part.rect.x1) parts) in
    let tall = greatest (map (λ (part : FramePart). part.rect.y1) parts) in
    all_ordered layer.cut_x layer.cut_y (spans layer.cut_x grain wide) (spans layer.cut_y grain tall) (spans_ordered layer.cut_x grain wide) (spans_ordered layer.cut_y grain tall)

greatest_has : (xs : List ℕ) (x : ℕ) → Contains xs x → x ≤ greatest xs
greatest_has [] x h = absurd (in_none x h)
greatest_has (y ∷ xs) x h = elim (in_cases y x xs h) [
  | inl here ↦ omega (arith, here)
  | inr later ↦ omega (arith, greatest_has xs x later)
]

-- each place of a part is in a block
pub squares_reach : (layer : LayerValue) (grain : ℕ) (parts : List FramePart) (part : FramePart) → Contains parts part → (x y : ℕ) → HasPlace part.rect x y → (r : Rect) × Contains (squares layer grain parts) r × HasPlace r x y
squares_reach layer grain parts part h x y place =
    let width = λ (q : FramePart). q.rect.x1 in
    let height = λ (q : FramePart). q.rect.y1 in
    let wide = greatest (map width parts) in
    let tall = greatest (map height parts) in
    let in_x : x < wide = omega (arith, place.right, greatest_has (map width parts) part.rect.x1 (in_map width parts part h)) in
    let in_y : y < tall = omega (arith, place.high, greatest_has (map height parts) part.rect.y1 (in_map height parts part h)) in
    let s = spans_reach layer.cut_x grain wide x in_x in
    let r = spans_reach layer.cut_y grain tall y in_y in (
      square s.0 r.0,
      in_flat (λ z. map (square z) (spans layer.cut_y grain tall)) (spans layer.cut_x grain wide) s.0 (square s.0 r.0) s.1 (in_map (square s.0) (spans layer.cut_y grain tall) r.0 r.1),
      record { left = s.2; right = s.3; low = r.2; high = r.3 },
    )

-- two blocks that both have a place on each axis don't precede one another
pub none_ahead : (cut : Option Sign) (s r : ℕ × ℕ) (x : ℕ) → s.0 ≤ x → x < s.1 → r.0 ≤ x → x < r.1 → Ahead cut s r → ⊥
none_ahead (Some Plus) s r x a b c d h = omega (arith, a, b, c, d, h)
none_ahead (Some Minus) s r x a b c d h = omega (arith, a, b, c, d, h)
none_ahead None s r x a b c d h = h
