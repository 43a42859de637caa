-- The places that are left of a line are the next of the walk, where the last of them stands before the next places of the other pieces.
use Rattle.std.proofs.Common.{◌≡◌, ◌∙◌, refl, sym, ap, subst, inl, inr, ◌⊎◌, ℕ, zero, suc, ◌+◌, ◌-◌, ◌<◌, ◌≤◌, ◌==◌, Bool, true, false, List, ◌∷◌, drop, get_or, length, slice_get, Some, eqb-true, set-set, arith}
use Rattle.std.specs.Prelude.{◌≢◌}
use Rattle.std.proofs.lemmas.Bool.{eqb-false}
use Rattle.std.proofs.Math.ListN.{set}
use Rattle.std.specs.Cmp.{nat_cmp_is}
use Rattle.std.specs.Ordering.{MatchOrdering, is_le, is_lt, nat_cmp, ordering_reverse, ordering_then}
use Rattle.std.specs.declared.cmp.Ordering.{Ordering}
use Rattle.std.specs.declared.cmp.Ordering.TheVariants.{Less, Equal, Greater}
use Rattle.std.proofs.lemmas.Cmp.{ranked}
use Rattle.std.proofs.lemmas.Option.{slice_get_within}
use Rattle.pb_linear.specs.declared.boxes.Sign.{Sign}
use Rattle.pb_linear.specs.declared.boxes.Sign.TheVariants.{Plus, Minus}
use Rattle.pb_linear.specs.declared.boxes.Step.{Step}
use Rattle.pb_links.specs.declared.places.Spot.{Spot}
use Rattle.pb_values.specs.Views.{HasPlace}
use Rattle.pb_walk.specs.declared.course.Course.{Course}
use Rattle.pb_walk.specs.declared.course.Sweep.{Sweep}
use Rattle.pb_walk.specs.declared.cursor.Cursor.{Cursor}
use Rattle.pb_walk.specs.declared.stop.Stop.{Stop}
use Rattle.pb_walk.specs.declared.stretch.Stretch.{Stretch}
use Rattle.pb_walk.specs.Axes.{AreThere, moved}
use Rattle.pb_walk.specs.Cursors.{IsFirstOf, IsMoved, has_passed, head, left_of, steps_of, whole}
use Rattle.pb_walk.specs.Orders.{by_sign, compare}
use Rattle.pb_walk.specs.Stretches.{GoesFirst, IsAtLast, IsFirstAlone, IsLine, IsTaken, column_in, place_on, row_in}
use Rattle.pb_walk.specs.Sweeps.{by_pair, by_sweep}
use Rattle.pb_walk.specs.Walks.{WalkValue, stop}
use Rattle.pb_walk.proofs.BestLemmas.{below_or_same, not_before, not_itself, same_item}
use Rattle.pb_walk.proofs.NextLemmas.{get_set_other, get_set_same, next_left, read_cursor, same_whole, value_of, went_on}
use Rattle.pb_walk.proofs.OrderLemmas.{compare_total, then_nothing}

-- ---- numbers in a direction
less_is : (a b : ℕ) → a < b → nat_cmp a b ≡ Less
less_is a b h = sym (nat_cmp_is a b Less h)

not_less : (a b : ℕ) → b ≤ a → is_lt (nat_cmp a b) ≡ false
not_less a b h = by (nat_cmp a b) (ranked a b (nat_cmp a b) refl)
  where
    by : (o : Ordering) → MatchOrdering o (a < b) (a ≡ b) (b < a) → is_lt o ≡ false
    by Less g = absurd (omega (arith, g, h))
    by Equal g = refl
    by Greater g = refl

up_to : (u a b : ℕ) → b ≡ a + 1 → is_lt (nat_cmp u b) ≡ is_le (nat_cmp u a)
up_to u a b e = by (nat_cmp u a) (ranked u a (nat_cmp u a) refl)
  where
    by : (o : Ordering) → MatchOrdering o (u < a) (u ≡ a) (a < u) → is_lt (nat_cmp u b) ≡ is_le o
    by Less g = ap is_lt (less_is u b (omega (arith, e, g)))
    by Equal g = ap is_lt (less_is u b (omega (arith, e, g)))
    by Greater g = not_less u b (omega (arith, e, g))

down_to : (u a b : ℕ) → a ≡ b + 1 → is_lt (nat_cmp b u) ≡ is_le (nat_cmp a u)
down_to u a b e = by (nat_cmp a u) (ranked a u (nat_cmp a u) refl)
  where
    by : (o : Ordering) → MatchOrdering o (a < u) (a ≡ u) (u < a) → is_lt (nat_cmp b u) ≡ is_le o
    by Less g = ap is_lt (less_is b u (omega (arith, e, g)))
    by Equal g = ap is_lt (less_is b u (omega (arith, e, g)))
    by Greater g = not_less b u (omega (arith, e, g))

-- so many further numbers are there
abbrev pub Goes : Sign → ℕ → ℕ → Type 0
Goes Plus n a = 0 ≤ a
Goes Minus n a = n ≤ a

pub not_moved : (sign : Sign) (a : ℕ) → moved sign 0 a ≡ a
not_moved Plus a = omega arith
not_moved Minus a = omega arith

one_more : (sign : Sign) (i a : ℕ) → moved sign i (moved sign 1 a) ≡ moved sign (suc i) a
one_more Plus i a = omega arith
one_more Minus i a = omega arith

one_less : (sign : Sign) (n a : ℕ) → Goes sign (suc n) a → Goes sign n (moved sign 1 a)
one_less Plus n a h = omega arith
one_less Minus n a h = omega (arith, h)

next_number : (sign : Sign) (u a : ℕ) → Goes sign 1 a → is_lt (by_sign sign u (moved sign 1 a)) ≡ is_le (by_sign sign u a)
next_number Plus u a h = up_to u a (a + 1) refl
next_number Minus u a h = down_to u a (a - 1) (omega (arith, h))

later_number : (sign : Sign) (n a : ℕ) → Goes sign (suc n) a → by_sign sign a (moved sign (suc n) a) ≡ Less
later_number Plus n a h = less_is a (a + suc n) (omega arith)
later_number Minus n a h = less_is (a - suc n) a (omega (arith, h))

-- between two numbers of a span
abbrev pub Between : ℕ → ℕ → ℕ → Type 0
Between low high n = (low ≤ n) × (n < high)

pub between : (sign : Sign) (n a low high : ℕ) → Goes sign (suc n) a → Between low high a → Between low high (moved sign (suc n) a) → Between low high (moved sign 1 a)
between Plus n a low high h from to = (omega (arith, from.0), omega (arith, to.1))
between Minus n a low high h from to = (omega (arith, to.0, h), omega (arith, from.1))

-- ---- places of a line
second : (o p q : Ordering) → is_lt q ≡ is_le p → is_lt (ordering_then o q) ≡ is_le (ordering_then o p)
second Less p q e = refl
second Equal p q e = e
second Greater p q e = refl

itself : (sign : Sign) (a : ℕ) → by_sign sign a a ≡ Equal
itself Plus a = sym (nat_cmp_is a a Equal refl)
itself Minus a = sym (nat_cmp_is a a Equal refl)

in_line : (down : Bool) (outer inner : Sign) (x y across a : ℕ) → Goes inner 1 a
    → is_lt (by_sweep (record { columns = down; outer = outer; inner = inner }) x y (column_in down across (moved inner 1 a)) (row_in down across (moved inner 1 a)))
    ≡ is_le (by_sweep (record { columns = down; outer = outer; inner = inner }) x y (column_in down across a) (row_in down across a))
unfolding by_pair
in_line true outer inner x y across a h = second (by_sign outer x across) (by_sign inner y a) (by_sign inner y (moved inner 1 a)) (next_number inner y a h)
in_line false outer inner x y across a h = second (by_sign outer y across) (by_sign inner x a) (by_sign inner x (moved inner 1 a)) (next_number inner x a h)

later_in_line : (down : Bool) (outer inner : Sign) (across n a : ℕ) → Goes inner (suc n) a
    → by_sweep (record { columns = down; outer = outer; inner = inner }) (column_in down across a) (row_in down across a) (column_in down across (moved inner (suc n) a)) (row_in down across (moved inner (suc n) a)) ≡ Less
unfolding by_pair
later_in_line true outer inner across n a h = ap (λ o. ordering_then o (by_sign inner a (moved inner (suc n) a))) (itself outer across) ∙ later_number inner n a h
later_in_line false outer inner across n a h = ap (λ o. ordering_then o (by_sign inner a (moved inner (suc n) a))) (itself outer across) ∙ later_number inner n a h

has_between : (down : Bool) (inner : Sign) (s : Spot) (across n a : ℕ) → Goes inner (suc n) a → HasPlace s.rect (column_in down across a) (row_in down across a)
    → HasPlace s.rect (column_in down across (moved inner (suc n) a)) (row_in down across (moved inner (suc n) a)) → HasPlace s.rect (column_in down across (moved inner 1 a)) (row_in down across (moved inner 1 a))
has_between true inner s across n a h from to =
    let b = between inner n a s.rect.y0 s.rect.y1 h (from.low, from.high) (to.low, to.high) in
    record { left = from.left; right = from.right; low = b.0; high = b.1 }
has_between false inner s across n a h from to =
    let b = between inner n a s.rect.x0 s.rect.x1 h (from.left, from.right) (to.left, to.right) in
    record { left = b.0; right = b.1; low = from.low; high = from.high }

pub with_columns : (w : Sweep) (down : Bool) (x y a b : ℕ) → w.columns ≡ down → by_sweep w x y a b ≡ by_sweep (record { columns = down; outer = w.outer; inner = w.inner }) x y a b
with_columns w down x y a b e = ap (λ d. by_sweep (record { columns = d; outer = w.outer; inner = w.inner }) x y a b) e

-- in one row, or one column, there is one way to go
pub one_row : (outer inner other : Sign) (x y a b : ℕ) → y ≡ b → by_sweep (record { columns = true; outer = outer; inner = inner }) x y a b ≡ by_sweep (record { columns = false; outer = other; inner = outer }) x y a b
unfolding by_pair
one_row outer inner other x y a b e =
    ap (λ n. ordering_then (by_sign outer x a) (by_sign inner y n)) (sym e) ∙ ap (ordering_then (by_sign outer x a)) (itself inner y) ∙ then_nothing (by_sign outer x a)
    ∙ sym (ap (λ n. ordering_then (by_sign other y n) (by_sign outer x a)) (sym e) ∙ ap (λ o. ordering_then o (by_sign outer x a)) (itself other y))

pub one_column : (outer inner other : Sign) (x y a b : ℕ) → x ≡ a → by_sweep (record { columns = false; outer = outer; inner = inner }) x y a b ≡ by_sweep (record { columns = true; outer = other; inner = outer }) x y a b
unfolding by_pair
one_column outer inner other x y a b e =
    ap (λ n. ordering_then (by_sign outer y b) (by_sign inner x n)) (sym e) ∙ ap (ordering_then (by_sign outer y b)) (itself inner x) ∙ then_nothing (by_sign outer y b)
    ∙ sym (ap (λ n. ordering_then (by_sign other x n) (by_sign outer y b)) (sym e) ∙ ap (λ o. ordering_then o (by_sign outer y b)) (itself other x))

-- ---- the walk along a line
module _ (course : Course) (w : Sweep) (k : ℕ) (own : Spot) (across : ℕ)
    (same : (piece base x y a b : ℕ) → HasPlace own.rect x y → HasPlace own.rect a b → compare (steps_of course) (stop piece base x y) (stop piece base a b) ≡ by_sweep w x y a b) where
  abbrev steps : List Step
  steps = steps_of course

  abbrev xs : ℕ → ℕ
  xs a = column_in w.columns across a

  abbrev ys : ℕ → ℕ
  ys a = row_in w.columns across a

  abbrev pub place : ℕ → Stop
  place a = stop k own.base (xs a) (ys a)

  -- a cursor stands before the place of this number in the line
  pub record Stands (c : Cursor) (a : ℕ) : Type 0 where
    pub spot : c.spot ≡ own
    pub column : c.x ≡ xs a
    pub row : c.y ≡ ys a
    pub left : c.done ≡ false

  inside : (c : Cursor) (a : ℕ) → Stands c a → HasPlace own.rect (xs a) (ys a)
  inside c a s = subst (λ (p : Spot × ℕ × ℕ). HasPlace p.0.rect p.1 p.2) (λ i. (s.spot i, s.column i, s.row i)) (c.inside s.left)

  its_head : (c : Cursor) (a : ℕ) → Stands c a → head k c ≡ place a
  its_head c a s = λ i. stop k (s.spot i).base (s.column i) (s.row i)

  abbrev at : (a : ℕ) → HasPlace own.rect (xs a) (ys a) → Cursor
  at a h = record { spot = own; x = xs a; y = ys a; done = false; inside = λ _. h }

  passed_with : (a : ℕ) → Goes w.inner 1 a → HasPlace own.rect (xs a) (ys a) → HasPlace own.rect (xs (moved w.inner 1 a)) (ys (moved w.inner 1 a)) → (piece base x y : ℕ) → HasPlace own.rect x y
      → is_lt (compare steps (stop piece base x y) (stop piece base (xs (moved w.inner 1 a)) (ys (moved w.inner 1 a)))) ≡ is_le (compare steps (stop piece base x y) (stop piece base (xs a) (ys a)))
  passed_with a goes from to piece base x y has =
      ap is_lt (same piece base x y (xs (moved w.inner 1 a)) (ys (moved w.inner 1 a)) has to) ∙ in_line w.columns w.outer w.inner x y across a goes ∙ sym (ap is_le (same piece base x y (xs a) (ys a) has from))

  moved_on : (c : Cursor) (a : ℕ) → Stands c a → (h : HasPlace own.rect (xs (moved w.inner 1 a)) (ys (moved w.inner 1 a))) → Goes w.inner 1 a → IsMoved steps c (at (moved w.inner 1 a) h)
  moved_on c a s h goes = record {
    spot = sym s.spot;
    passed = λ piece x y has.
        ap (λ (q : Spot). is_lt (compare steps (stop piece q.base x y) (stop piece own.base (xs (moved w.inner 1 a)) (ys (moved w.inner 1 a))))) s.spot
        ∙ passed_with a goes (inside c a s) h piece own.base x y (subst (λ (q : Spot). HasPlace q.rect x y) s.spot has)
        ∙ sym (λ i. is_le (compare steps (stop piece (s.spot i).base x y) (stop piece (s.spot i).base (s.column i) (s.row i))));
  }

  moved_like : (c e x : Cursor) (a : ℕ) → Stands c a → Stands e a → IsMoved steps e x → IsMoved steps c x
  moved_like c e x a s t m = record {
    spot = m.spot ∙ t.spot ∙ sym s.spot;
    passed = λ piece x0 y0 has.
        let same_spot : e.spot ≡ c.spot = t.spot ∙ sym s.spot in
        let same_x : e.x ≡ c.x = t.column ∙ sym s.column in
        let same_y : e.y ≡ c.y = t.row ∙ sym s.row in
        ap (λ (q : Spot). has_passed steps x (stop piece q.base x0 y0)) (sym same_spot)
        ∙ m.passed piece x0 y0 (subst (λ (q : Spot). HasPlace q.rect x0 y0) (sym same_spot) has)
        ∙ (λ i. is_le (compare steps (stop piece (same_spot i).base x0 y0) (stop piece (same_spot i).base (same_x i) (same_y i))));
  }

  -- no place of another piece stands before this one
  abbrev pub Others : List Cursor → Stop → Type 0
  Others cs s = (j : ℕ) (c : Cursor) → j ≢ k → slice_get cs j ≡ Some c → c.done ≡ false → is_lt (compare steps (head j c) s) ≡ false

  own_or_other : (j : ℕ) → (j ≡ k) ⊎ (j ≢ k)
  own_or_other j = by (j == k) refl
    where
      by : (t : Bool) → (j == k) ≡ t → (j ≡ k) ⊎ (j ≢ k)
      by true e = inl (eqb-true j k e)
      by false e = inr (eqb-false j k e)

  abbrev first_of : (cs : List Cursor) (c : Cursor) (a : ℕ) → slice_get cs k ≡ Some c → Stands c a → Others cs (place a) → IsFirstOf course cs (length cs) k
  first_of cs c a there s others = record {
    below = slice_get_within cs k c there;
    cursor = c;
    there = there;
    left = s.left;
    first = λ j d below on open_. elim (own_or_other j) [
      | inl e ↦
          let item : d ≡ c = same_item cs j k d c e on there in
          let same_head : head j d ≡ head k c = λ i. head (e i) (item i) in
          ap (λ (z : Stop). is_lt (compare steps z (head k c))) same_head ∙ not_itself (compare_total steps) (head k c)
      | inr n ↦ ap (λ (z : Stop). is_lt (compare steps (head j d) z)) (its_head c a s) ∙ others j d n on open_
    ];
  }

  earlier : (cs : List Cursor) (n a : ℕ) → Goes w.inner (suc n) a → HasPlace own.rect (xs a) (ys a) → HasPlace own.rect (xs (moved w.inner (suc n) a)) (ys (moved w.inner (suc n) a)) → Others cs (place (moved w.inner (suc n) a)) → Others cs (place a)
  earlier cs n a goes from to others j c other on open_ =
      let l = moved w.inner (suc n) a in
      let less : compare steps (place a) (place l) ≡ Less = same k own.base (xs a) (ys a) (xs l) (ys l) from to ∙ later_in_line w.columns w.outer w.inner across n a goes in
      not_before (compare_total steps) (head j c) (place l) (place a) less (others j c other on open_)

  goes_one : (sign : Sign) (n a : ℕ) → Goes sign (suc n) a → Goes sign 1 a
  goes_one Plus n a h = omega arith
  goes_one Minus n a h = omega (arith, h)

  -- up to the last place of the line, and past it
  pub goes_along : (n : ℕ) (cs : List Cursor) (c e : Cursor) (a : ℕ) → slice_get cs k ≡ Some c → Stands c a → Stands e (moved w.inner n a) → Goes w.inner n a → Others cs (place (moved w.inner n a)) → (x : Cursor) → IsMoved steps e x
      → ((i : ℕ) → i ≤ n → slice_get (left_of course cs) i ≡ Some (place (moved w.inner i a))) × (drop (n + 1) (left_of course cs) ≡ left_of course (set cs k x)) × (whole course (set cs k x) ≡ whole course cs)
  goes_along zero cs c e a there s t goes others x m =
      let none = not_moved w.inner a in
      let f = first_of cs c a there s (subst (λ b. Others cs (place b)) none others) in
      let on : IsMoved steps c x = moved_like c e x a s (subst (Stands e) none t) m in
      let left : left_of course cs ≡ head k c ∷ left_of course (set cs k x) = next_left course cs k f x on in
      (first left, ap (drop 1) left, same_whole course cs k f x on)
    where
      first : left_of course cs ≡ head k c ∷ left_of course (set cs k x) → (i : ℕ) → i ≤ 0 → slice_get (left_of course cs) i ≡ Some (place (moved w.inner i a))
      first left zero h = ap (λ (l : List Stop). slice_get l 0) left ∙ ap Some (its_head c a s) ∙ ap (λ b. Some (place b)) (sym (not_moved w.inner a))
      first left (suc i) h = absurd (omega (arith, h))
  goes_along (suc n) cs c e a there s t goes others x m =
      let b = moved w.inner 1 a in
      let h : HasPlace own.rect (xs b) (ys b) = has_between w.columns w.inner own across n a goes (inside c a s) (inside e (moved w.inner (suc n) a) t) in
      let d = at b h in
      let later : List Cursor = set cs k d in
      let f = first_of cs c a there s (earlier cs n a goes (inside c a s) (inside e (moved w.inner (suc n) a) t) others) in
      let on : IsMoved steps c d = moved_on c a s h (goes_one w.inner n a goes) in
      let left : left_of course cs ≡ head k c ∷ left_of course later = next_left course cs k f d on in
      let stands : Stands d b = record { spot = refl; column = refl; row = refl; left = refl } in
      let more = one_more w.inner n a in
      let rest_others : Others later (place (moved w.inner n b)) =
      λ j z other found open_. ap (λ q. is_lt (compare steps (head j z) (place q))) more ∙ others j z other (sym (get_set_other cs k j d other) ∙ found) open_
      in
      let rest = goes_along n later d e b (get_set_same cs k c d there) stands (subst (Stands e) (sym more) t) (one_less w.inner n a goes) rest_others x m in
      let twice : set later k x ≡ set cs k x = set-set cs k d x in
      let longer : suc n + 1 ≡ suc (n + 1) = omega arith in (
        first d left rest.0,
        ap (λ q. drop q (left_of course cs)) longer ∙ ap (drop (suc (n + 1))) left ∙ rest.1 ∙ ap (left_of course) twice,
        sym (ap (whole course) twice) ∙ rest.2 ∙ same_whole course cs k f d on,
      )
    where
      first : (d : Cursor) → left_of course cs ≡ head k c ∷ left_of course (set cs k d) → ((i : ℕ) → i ≤ n → slice_get (left_of course (set cs k d)) i ≡ Some (place (moved w.inner i (moved w.inner 1 a))))
          → (i : ℕ) → i ≤ suc n → slice_get (left_of course cs) i ≡ Some (place (moved w.inner i a))
      first d left rest zero h = ap (λ (l : List Stop). slice_get l 0) left ∙ ap Some (its_head c a s) ∙ ap (λ b. Some (place b)) (sym (not_moved w.inner a))
      first d left rest (suc i) h = ap (λ (l : List Stop). slice_get l (suc i)) left ∙ rest i (omega (arith, h)) ∙ ap (λ b. Some (place b)) (one_more w.inner i a)

  -- ---- what is taken of a walk
  -- the places of a stretch of this line
  abbrev IsAlong : Cursor → Stretch → Type 0
  IsAlong c s = IsLine w k c s × (c.spot ≡ own) × (s.across ≡ across)

  in_walk : (c : Cursor) (s : Stretch) → IsAlong c s → (i : ℕ) → place_on s i ≡ place (moved w.inner i s.at)
  in_walk c s l i = λ j. stop (l.0.of_piece j) ((l.0.of_base ∙ ap (λ (q : Spot). q.base) l.1) j)
      (column_in (l.0.of_down j) (l.2 j) (moved (l.0.of_sign j) i s.at)) (row_in (l.0.of_down j) (l.2 j) (moved (l.0.of_sign j) i s.at))

  begins : (c : Cursor) (s : Stretch) → IsAlong c s → c.done ≡ false → Stands c s.at
  begins c s l open_ = record {
    spot = l.1;
    column = sym l.0.column ∙ (λ j. column_in (l.0.of_down j) (l.2 j) s.at);
    row = sym l.0.row ∙ (λ j. row_in (l.0.of_down j) (l.2 j) s.at);
    left = open_;
  }

  ends : (c : Cursor) (s : Stretch) (l : IsAlong c s) (e : Cursor) → IsAtLast c s e → Stands e (moved w.inner (s.count - 1) s.at)
  ends c s l e h = record {
    spot = h.spot ∙ l.1;
    column = h.column ∙ ap (λ (q : Stop). q.x) (in_walk c s l (s.count - 1));
    row = h.row ∙ ap (λ (q : Stop). q.y) (in_walk c s l (s.count - 1));
    left = h.left;
  }

  goes_there : (sign : Sign) (a count n : ℕ) → n + 1 ≡ count → AreThere sign a count → Goes sign n a
  goes_there Plus a count n e h = omega arith
  goes_there Minus a count n e h = omega (arith, e, h.down refl)

  no_other : (cs : List Cursor) (e : Cursor) (a : ℕ) → Stands e a → GoesFirst steps cs k (length cs) e → Others cs (place a)
  no_other cs e a s first j z other on open_ =
      let less = first j z (slice_get_within cs j z on) other on open_ in
      let back : compare steps (head j z) (head k e) ≡ Greater = (compare_total steps).antisymm (head j z) (head k e) ∙ ap ordering_reverse less in
      ap (λ (q : Stop). is_lt (compare steps (head j z) q)) (sym (its_head e a s)) ∙ ap is_lt back

  took_line : (cs : List Cursor) (room : ℕ) (c e x : Cursor) (s : Stretch) → IsAlong c s → c.done ≡ false → slice_get cs k ≡ Some c → IsAtLast c s e → GoesFirst steps cs k (length cs) e → IsMoved steps e x
      → (v : WalkValue) → v ≡ value_of course cs room → IsTaken v (value_of course (set cs k x) room) s
  took_line cs room c e x s l open_ there last first m v is =
      let n = s.count - 1 in
      let all : n + 1 ≡ s.count = omega (arith, l.0.some) in
      let goes = goes_there w.inner s.at s.count n all (subst (λ sign. AreThere sign s.at s.count) l.0.of_sign s.there) in
      let at_end = ends c s l e last in
      let r = goes_along n cs c e s.at there (begins c s l open_) at_end goes (no_other cs e (moved w.inner n s.at) at_end first) x m in
      let left : v.left ≡ left_of course cs = ap (λ (u : WalkValue). u.left) is in
      let whole_is : whole course (set cs k x) ≡ v.all = r.2 ∙ ap (λ (u : WalkValue). u.all) (sym is) in
      let rest : left_of course (set cs k x) ≡ drop s.count v.left = sym (ap (λ q. drop q v.left) (sym all) ∙ ap (drop (n + 1)) left ∙ r.1) in
      let held : room ≡ v.room = ap (λ (u : WalkValue). u.room) (sym is) in
      record {
        some = l.0.some;
        places = λ i h. ap (λ (t : List Stop). slice_get t i) left ∙ r.0 i (omega (arith, h, all)) ∙ ap Some (sym (in_walk c s l i));
        rest = λ j. record { all = whole_is j; left = rest j; room = held j };
      }

module _ (course : Course) (cs : List Cursor) (room k : ℕ) (f : IsFirstOf course cs (length cs) k) (c : Cursor) (at_k : c ≡ get_or cs k c) (v : WalkValue) (is : v ≡ value_of course cs room) (w : Sweep) (s : Stretch) (line : IsLine w k c s) where
  pub held : f.cursor ≡ c
  held = read_cursor course cs k f c at_k

  pub is_open : c.done ≡ false
  is_open = ap (λ (d : Cursor). d.done) (sym held) ∙ f.left

  pub took : ((piece base x y a b : ℕ) → HasPlace c.spot.rect x y → HasPlace c.spot.rect a b → compare (steps_of course) (stop piece base x y) (stop piece base a b) ≡ by_sweep w x y a b)
      → (e x : Cursor) → IsAtLast c s e → GoesFirst (steps_of course) cs k (length cs) e → IsMoved (steps_of course) e x → IsTaken v (value_of course (set cs k x) room) s
  took same e x last first m = took_line course w k c.spot s.across same cs room c e x s (line, refl, refl) is_open (f.there ∙ ap Some held) last first m v is

  pub took_one : (o : Stretch) → IsFirstAlone s o → (x : Cursor) → IsMoved (steps_of course) c x → IsTaken v (value_of course (set cs k x) room) o
  took_one o one x m =
      let on = went_on course cs room k f c x v at_k m is in
      let as_first : place_on o 0 ≡ place_on s 0 = λ j. stop (one.of_piece j) (one.of_base j) (column_in (one.of_down j) (one.of_across j) (moved (one.of_sign j) 0 (one.of_at j))) (row_in (one.of_down j) (one.of_across j) (moved (one.of_sign j) 0 (one.of_at j))) in
      let still = not_moved s.sign s.at in
      let at_first : place_on s 0 ≡ head k c = λ j. stop (line.of_piece j) (line.of_base j) ((ap (column_in s.down s.across) still ∙ line.column) j) ((ap (row_in s.down s.across) still ∙ line.row) j) in
      record {
        some = omega (arith, one.one);
        places = λ i h. let zeroth : i ≡ 0 = omega (arith, h, one.one) in rw zeroth (sym on.0 ∙ ap Some (sym (as_first ∙ at_first)));
        rest = on.1 ∙ (λ j. record { all = v.all; left = drop (sym one.one j) v.left; room = v.room });
      }

-- ---- one piece more, which this place of the piece k stands before
pub before_more : (steps : List Step) (cs : List Cursor) (k j : ℕ) (e : Cursor) → GoesFirst steps cs k j e → (j ≢ k → (c : Cursor) → slice_get cs j ≡ Some c → c.done ≡ false → compare steps (head k e) (head j c) ≡ Less) → GoesFirst steps cs k (j + 1) e
before_more steps cs k j e before more i c below other at open_ = elim (below_or_same i j below) [
  | inl same ↦
      let less = more (λ z. other (same ∙ z)) c (ap (slice_get cs) (sym same) ∙ at) open_ in
      ap (λ (n : ℕ). compare steps (head k e) (head n c)) same ∙ less
  | inr earlier ↦ before i c earlier other at open_
]
