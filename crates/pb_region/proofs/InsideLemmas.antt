-- The bounds of conditions hold at a place exactly where the conditions with a rule variable do.
use Rattle.std.proofs.Common.{◌≡◌, ap, sym, refl, ◌⊎◌, inl, inr, ◌↔◌, ℕ, ◌<◌, ◌≤◌, zero, suc, length, get_or, List, [], ◌∷◌, map, Bool, true, false, not, ◌&&◌, ◌||◌, Option, Some, None, ℤ, pos, negsuc, ◌+ℤ◌, ◌-ℤ◌, ◌*ℤ◌, ◌≤ℤ◌, ◌<ℤ◌, arith}
use Rattle.std.specs.Prelude.{filter, int_le, IfSome, nat_lt, position}
use Rattle.std.specs.List.{AllByRecursion, cons_option, position_or_len}
use Rattle.std.proofs.lemmas.Int.{ints}
use Rattle.std.proofs.lemmas.Bool.{and_parts, ltb-false, or_cases}
use Rattle.std.proofs.lemmas.List.Sums.{fails_before_first}
use Rattle.std.proofs.lemmas.Bool.Decides.{Decides-int_eq}
use Rattle.pb_linear.specs.Numbers.{Numbers, difference, exact_value, multiple}
use Rattle.pb_linear.proofs.Integers.{add-mul}
use Rattle.pb_linear.proofs.Values.{exact_value-multiple}
use Rattle.pb_program.specs.Conditions.{Condition, Holds}
use Rattle.pb_program.specs.Forms.{CoordinateValue, coordinate_at}
use Rattle.pb_region.specs.declared.bounds.Axis.TheVariants as axis
use Rattle.pb_region.specs.declared.bounds.Side.TheVariants as side
use Rattle.pb_region.specs.Boxes.{Limits, bound, bounds, from_one, is_box, is_free, is_unit, is_zero}
use Rattle.pb_region.specs.Gaps.{gap}
use Rattle.pb_region.specs.Inside.{IsInside, is_guarding}
use Rattle.pb_region.proofs.FormLemmas.{difference_value, raised_value}

sub-mul : (a b x : ℤ) → (a -ℤ b) *ℤ x ≡ a *ℤ x -ℤ b *ℤ x
sub-mul a b x = let same : (a -ℤ b) +ℤ b ≡ a = omega (arith, ints) in omega (arith, ints, add-mul (a -ℤ b) b x, ap (λ z. z *ℤ x) same)

-- ---- a condition holds where its gap is at most 0
pub gap_value : (c : Condition) (sizes : List ℕ) (x y : ℤ) →
    coordinate_at (gap c) sizes x y ≡ (coordinate_at c.left sizes x y +ℤ pos c.more) -ℤ coordinate_at c.right sizes x y
unfolding gap
gap_value c sizes x y =
    let d = difference c.left.rest c.right.rest in
    omega (arith, ints, raised_value (pos c.more) d sizes, difference_value c.left.rest c.right.rest sizes, sub-mul c.left.x c.right.x x, sub-mul c.left.y c.right.y y)

pub gap_holds : (c : Condition) (sizes : List ℕ) (x y : ℤ) → Holds sizes x y c ↔ (coordinate_at (gap c) sizes x y ≤ℤ pos 0)
gap_holds c sizes x y = (λ h. omega (arith, ints, gap_value c sizes x y), λ h. omega (arith, ints, gap_value c sizes x y))

-- ---- lists
module _ {A : Type 0} (P : A → Type 0) where
  all_cons : (o : Option A) (xs : List A) → AllByRecursion P (cons_option o xs) ↔ (IfSome o P × AllByRecursion P xs)
  all_cons None xs = (λ h. (tt, h), λ h. h.1)
  all_cons (Some x) xs = (λ h. (h.0, h.1), λ h. (h.0, h.1))

  pub all_filter : (p : A → Bool) (b : Bool) (x : A) (xs : List A) → p x ≡ b → AllByRecursion P (filter p (x ∷ xs)) ↔ ((p x ≡ true → P x) × AllByRecursion P (filter p xs))
  all_filter p true x xs e = rw e (λ h. (λ _. h.0, h.1), λ h. (h.0 refl, h.1))
  all_filter p false x xs e = rw e (λ h. (λ t. (cc), h), λ h. h.1)

-- ---- which coefficients make a box
le_of : (a b : ℤ) → int_le a b ≡ true → a ≤ℤ b
le_of a b h = grind (arith, ints)

pub unit_bounds : (k : ℤ) → is_unit k ≡ true → (negsuc 0 ≤ℤ k) × (k ≤ℤ pos 1)
unit_bounds k h = let parts = and_parts (int_le (negsuc 0) k) (int_le k (pos 1)) h in (le_of (negsuc 0) k parts.0, le_of k (pos 1) parts.1)

unit_cases : (k : ℤ) → is_unit k ≡ true → (k ≡ negsuc 0) ⊎ ((k ≡ pos 0) ⊎ (k ≡ pos 1))
unit_cases (pos zero) h = inr (inl refl)
unit_cases (pos (suc zero)) h = inr (inr refl)
unit_cases (pos (suc (suc n))) h = absurd (omega (arith, ints, unit_bounds (pos (suc (suc n))) h))
unit_cases (negsuc zero) h = inl refl
unit_cases (negsuc (suc n)) h = absurd (omega (arith, ints, unit_bounds (negsuc (suc n)) h))

pub zero_is : (k : ℤ) → is_zero k ≡ true → k ≡ pos 0
zero_is k h = (Decides-int_eq k (pos 0)).0 h

-- ---- bounds
module _ (sizes : List ℕ) (x y : ℤ) where
  abbrev value : Numbers → ℤ
  value n = exact_value n sizes

  -- the four bounds that one condition may give
  record Each (g : CoordinateValue) : Type 0 where
    left : IfSome (bound side.Lower axis.X g) (λ n. value n ≤ℤ x)
    right : IfSome (bound side.Upper axis.X g) (λ n. x <ℤ value n)
    low : IfSome (bound side.Lower axis.Y g) (λ n. value n ≤ℤ y)
    high : IfSome (bound side.Upper axis.Y g) (λ n. y <ℤ value n)

  from_one_value : (n : Numbers) → value (from_one n) ≡ pos 1 -ℤ value n
  from_one_value n = omega (arith, ints, raised_value (pos 1) (multiple (negsuc 0) n) sizes, exact_value-multiple (negsuc 0) n sizes)

  -- a condition by its coefficients, where each case is one of the five that make a box
  abbrev shaped : ℤ → ℤ → Numbers → Bool → CoordinateValue
  shaped a b rest q = record { x = a; y = b; rest = rest; quotient = q }

  module _ (rest : Numbers) (q : Bool) where
    free_case : Each (shaped (pos 0) (pos 0) rest q)
    free_case = record { left = tt; right = tt; low = tt; high = tt }

    left_case : Each (shaped (negsuc 0) (pos 0) rest q) ↔ (coordinate_at (shaped (negsuc 0) (pos 0) rest q) sizes x y ≤ℤ pos 0)
    left_case = (λ h. omega (arith, ints, h.left), λ h. record { left = omega (arith, ints); right = tt; low = tt; high = tt })

    right_case : Each (shaped (pos 1) (pos 0) rest q) ↔ (coordinate_at (shaped (pos 1) (pos 0) rest q) sizes x y ≤ℤ pos 0)
    right_case = (λ h. omega (arith, ints, h.right, from_one_value rest), λ h. record { left = tt; right = omega (arith, ints, from_one_value rest); low = tt; high = tt })

    low_case : Each (shaped (pos 0) (negsuc 0) rest q) ↔ (coordinate_at (shaped (pos 0) (negsuc 0) rest q) sizes x y ≤ℤ pos 0)
    low_case = (λ h. omega (arith, ints, h.low), λ h. record { left = tt; right = tt; low = omega (arith, ints); high = tt })

    high_case : Each (shaped (pos 0) (pos 1) rest q) ↔ (coordinate_at (shaped (pos 0) (pos 1) rest q) sizes x y ≤ℤ pos 0)
    high_case = (λ h. omega (arith, ints, h.high, from_one_value rest), λ h. record { left = tt; right = tt; low = tt; high = omega (arith, ints, from_one_value rest) })

  -- what a condition that makes a box says, by its bounds and by itself
  abbrev Says : CoordinateValue → Type 0
  Says g = Each g ↔ (not (is_free g) ≡ true → coordinate_at g sizes x y ≤ℤ pos 0)

  module _ (a b : ℤ) (rest : Numbers) (q : Bool) where
    says_x : is_unit a ≡ true → b ≡ pos 0 → Says (shaped a b rest q)
    says_x h eb = elim (unit_cases a h) [
      | inl ea ↦ rw (ea, eb) (λ e _. (left_case rest q).0 e, λ f. (left_case rest q).1 (f refl))
      | inr more ↦ elim more [
        | inl ea ↦ rw (ea, eb) (λ e t. absurd (cc), λ f. free_case rest q)
        | inr ea ↦ rw (ea, eb) (λ e _. (right_case rest q).0 e, λ f. (right_case rest q).1 (f refl))
      ]
    ]

    says_y : a ≡ pos 0 → is_unit b ≡ true → Says (shaped a b rest q)
    says_y ea h = elim (unit_cases b h) [
      | inl eb ↦ rw (ea, eb) (λ e _. (low_case rest q).0 e, λ f. (low_case rest q).1 (f refl))
      | inr more ↦ elim more [
        | inl eb ↦ rw (ea, eb) (λ e t. absurd (cc), λ f. free_case rest q)
        | inr eb ↦ rw (ea, eb) (λ e _. (high_case rest q).0 e, λ f. (high_case rest q).1 (f refl))
      ]
    ]

    says_box : is_box (shaped a b rest q) ≡ true → Says (shaped a b rest q)
    says_box h =
        let shape = (and_parts (not q) ((is_unit a && is_zero b) || (is_zero a && is_unit b)) h).1 in
        elim (or_cases (is_unit a && is_zero b) (is_zero a && is_unit b) shape) [
          | inl on_x ↦ let parts = and_parts (is_unit a) (is_zero b) on_x in says_x parts.0 (zero_is b parts.1)
          | inr on_y ↦ let parts = and_parts (is_zero a) (is_unit b) on_y in says_y (zero_is a parts.0) parts.1
        ]

  -- ---- all conditions of a rule
  -- the bounds that conditions give
  abbrev pub cell_limits : List CoordinateValue → Limits
  cell_limits gs = record { lower_x = bounds side.Lower axis.X gs; upper_x = bounds side.Upper axis.X gs; lower_y = bounds side.Lower axis.Y gs; upper_y = bounds side.Upper axis.Y gs }

  inside_none : IsInside (cell_limits []) sizes x y
  unfolding bounds
  inside_none = record { left = tt; right = tt; low = tt; high = tt }

  inside_cons : (g : CoordinateValue) (gs : List CoordinateValue) → IsInside (cell_limits (g ∷ gs)) sizes x y ↔ (Each g × IsInside (cell_limits gs) sizes x y)
  unfolding bounds
  inside_cons g gs =
      let left = all_cons (λ n. value n ≤ℤ x) (bound side.Lower axis.X g) (bounds side.Lower axis.X gs) in
      let right = all_cons (λ n. x <ℤ value n) (bound side.Upper axis.X g) (bounds side.Upper axis.X gs) in
      let low = all_cons (λ n. value n ≤ℤ y) (bound side.Lower axis.Y g) (bounds side.Lower axis.Y gs) in
      let high = all_cons (λ n. y <ℤ value n) (bound side.Upper axis.Y g) (bounds side.Upper axis.Y gs) in (
        λ h. (
          record { left = (left.0 h.left).0; right = (right.0 h.right).0; low = (low.0 h.low).0; high = (high.0 h.high).0 },
          record { left = (left.0 h.left).1; right = (right.0 h.right).1; low = (low.0 h.low).1; high = (high.0 h.high).1 },
        ),
        λ h. record {
          left = left.1 (h.0.left, h.1.left);
          right = right.1 (h.0.right, h.1.right);
          low = low.1 (h.0.low, h.1.low);
          high = high.1 (h.0.high, h.1.high);
        },
      )

  pub inside_is : (cs : List Condition) → AllByRecursion (λ c. is_box (gap c) ≡ true) cs →
      IsInside (cell_limits (map gap cs)) sizes x y ↔ AllByRecursion (Holds sizes x y) (filter (λ c. not (is_guarding c)) cs)
  inside_is [] boxes = (λ h. tt, λ h. inside_none)
  inside_is (c ∷ cs) boxes =
      let g = gap c in
      let one = says_box g.x g.y g.rest g.quotient boxes.0 in
      let holds = gap_holds c sizes x y in
      let rest = inside_is cs boxes.1 in
      let more = inside_cons g (map gap cs) in
      let kept = all_filter (Holds sizes x y) (λ d. not (is_guarding d)) (not (is_guarding c)) c cs refl in (
        λ h. kept.1 (λ t. holds.1 (one.0 (more.0 h).0 t), rest.0 (more.0 h).1),
        λ h. more.1 (one.1 (λ t. holds.0 ((kept.0 h).0 t)), rest.1 (kept.0 h).1),
      )

either : {A : Type 0} (b : Bool) (P : A → Type 0) (x : A) → (not b ≡ true → P x) → (b ≡ true → P x) → P x
either true P x no_way way = way refl
either false P x way no_way = way refl

-- a list by the elements that pass a test and the others
pub all_split : {A : Type 0} (P : A → Type 0) (p : A → Bool) (xs : List A) → AllByRecursion P xs ↔ (AllByRecursion P (filter (λ x. not (p x)) xs) × AllByRecursion P (filter p xs))
all_split P p [] = (λ h. (tt, tt), λ h. tt)
all_split P p (x ∷ xs) =
    let rest = all_split P p xs in
    let others = all_filter P (λ a. not (p a)) (not (p x)) x xs refl in
    let those = all_filter P p (p x) x xs refl in (
      λ h. (others.1 (λ t. h.0, (rest.0 h.1).0), those.1 (λ t. h.0, (rest.0 h.1).1)),
      λ h. (either (p x) P x (others.0 h.0).0 (those.0 h.1).0, rest.1 ((others.0 h.0).1, (those.0 h.1).1)),
    )

-- where no element passes a test
all_by_index : {A : Type 0} (P : A → Type 0) (xs : List A) → ((k : ℕ) (d : A) → k < length xs → P (get_or xs k d)) → AllByRecursion P xs
all_by_index P [] h = tt
all_by_index P (x ∷ xs) h = (h 0 x (omega arith), all_by_index P xs (λ k d below. h (suc k) d (omega arith)))

past_end : {A : Type 0} (p : A → Bool) (xs : List A) (b : Bool) → nat_lt (position_or_len p xs) (length xs) ≡ b → position p xs ≡ None → length xs ≤ position_or_len p xs
past_end p xs true e none = let some : Some (position_or_len p xs) ≡ None = rw e at none in absurd (cc)
past_end p xs false e none = ltb-false _ _ e

none_passes : {A : Type 0} (p : A → Bool) (xs : List A) → position p xs ≡ None → AllByRecursion (λ x. p x ≡ false) xs
none_passes p xs none =
    let end = past_end p xs _ refl none in
    all_by_index (λ x. p x ≡ false) xs (λ k d below. fails_before_first p xs k d (omega arith))

not_false : (b : Bool) → not b ≡ false → b ≡ true
not_false true e = refl
not_false false e = sym e

boxes_of : (cs : List Condition) → AllByRecursion (λ g. not (is_box g) ≡ false) (map gap cs) → AllByRecursion (λ c. is_box (gap c) ≡ true) cs
boxes_of [] h = tt
boxes_of (c ∷ cs) h = (not_false (is_box (gap c)) h.0, boxes_of cs h.1)

pub all_boxes : (cs : List Condition) → position (λ g. not (is_box g)) (map gap cs) ≡ None → AllByRecursion (λ c. is_box (gap c) ≡ true) cs
all_boxes cs none = boxes_of cs (none_passes (λ g. not (is_box g)) (map gap cs) none)
