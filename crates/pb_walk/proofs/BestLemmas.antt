-- The piece whose next place stands first.
use Rattle.std.proofs.Common.{◌≡◌, ◌∙◌, refl, sym, ap, inl, inr, ◌⊎◌, ℕ, ◌+◌, ◌<◌, ◌==◌, Bool, true, false, List, [], ◌∷◌, length, get_or, slice_get, Option, Some, None, eqb-true, arith}
use Rattle.std.proofs.lemmas.Bool.{eqb-false}
use Rattle.std.specs.Cmp.{IsTotalOrder, nat_cmp_is}
use Rattle.std.specs.Ordering.{is_lt, nat_cmp, ordering_reverse, ordering_then}
use Rattle.std.specs.declared.cmp.Ordering.{Ordering}
use Rattle.std.specs.declared.cmp.Ordering.TheVariants.{Less, Equal, Greater}
use Rattle.std.proofs.lemmas.Cmp.{tied_itself}
use Rattle.std.proofs.lemmas.Option.{get_or_from_slice_get, slice_get-get_or}
use Rattle.pb_linear.specs.declared.boxes.Step.{Step}
use Rattle.pb_walk.specs.declared.course.Course.{Course}
use Rattle.pb_walk.specs.declared.cursor.Cursor.{Cursor}
use Rattle.pb_walk.specs.declared.stop.Stop.{Stop}
use Rattle.pb_walk.specs.Cursors.{IsBest, IsFirstOf, head, steps_of}
use Rattle.pb_walk.specs.Orders.{by_place, compare}
use Rattle.pb_walk.proofs.OrderLemmas.{compare_total}

-- ---- a total order
module _ {A : Type 0} {R : A → A → Ordering} (o : IsTotalOrder R) where
  not_less : (a b : A) → (r : Ordering) → R a b ≡ r → (r ≡ Less → ⊥) → is_lt (R a b) ≡ false
  not_less a b Less e h = absurd (h refl)
  not_less a b Equal e h = ap is_lt e
  not_less a b Greater e h = ap is_lt e

  less_is : (r : Ordering) → r ≡ Less → is_lt r ≡ false → ⊥
  less_is r e f = let wrong : true ≡ false = sym (ap is_lt e) ∙ f in absurd (cc)

  -- what isn't before b isn't before what is before b
  pub not_before : (z b a : A) → R a b ≡ Less → is_lt (R z b) ≡ false → is_lt (R z a) ≡ false
  not_before z b a l n = not_less z a (R z a) refl (λ e. less_is (R z b) (o.trans z a b e l) n)

  -- what is before a place that another isn't before, is before the other
  pub before_too : (s z h : A) → R s h ≡ Less → is_lt (R z h) ≡ false → R s z ≡ Less
  before_too s z h l n = by (R s z) refl
    where
      by : (r : Ordering) → R s z ≡ r → r ≡ Less
      by Less e = refl
      by Equal e = absurd (less_is (R z h) (sym (o.congr s z h e) ∙ l) n)
      by Greater e = absurd (less_is (R z h) (o.trans z s h (o.antisymm z s ∙ ap ordering_reverse e) l) n)

  pub not_itself : (a : A) → is_lt (R a a) ≡ false
  not_itself a = ap is_lt (tied_itself o a)

-- ---- one piece more
pub below_or_same : (j k : ℕ) → j < k + 1 → (j ≡ k) ⊎ (j < k)
below_or_same j k h = by (j == k) refl
  where
    by : (t : Bool) → (j == k) ≡ t → (j ≡ k) ⊎ (j < k)
    by true e = inl (eqb-true j k e)
    by false e = let differ = eqb-false j k e in inr (omega arith)

pub same_item : (cs : List Cursor) (j k : ℕ) (c x : Cursor) → j ≡ k → slice_get cs j ≡ Some c → slice_get cs k ≡ Some x → c ≡ x
same_item cs j k c x e f g = let both : Some c ≡ Some x = sym f ∙ ap (slice_get cs) e ∙ g in cc

place_anywhere : (steps : List Step) (j k : ℕ) (x y : Cursor) → by_place steps (head 0 x) (head 0 y) ≡ by_place steps (head j x) (head k y)
place_anywhere [] j k x y = refl
place_anywhere (s ∷ []) j k x y = refl
place_anywhere (s ∷ t ∷ _) j k x y = refl

pub item_at : (cs : List Cursor) (k : ℕ) (x : Cursor) → k < length cs → x ≡ get_or cs k x → slice_get cs k ≡ Some x
item_at cs k x h e = rw (slice_get-get_or cs k x h, ← e) refl

module _ (course : Course) (cs : List Cursor) (k : ℕ) (x : Cursor) (there : slice_get cs k ≡ Some x) where
  pub none_more : IsBest course cs k None → x.done ≡ true → IsBest course cs (k + 1) None
  none_more none done j c h at = elim (below_or_same j k h) [
    | inl same ↦ ap (λ (y : Cursor). y.done) (same_item cs j k c x same at there) ∙ done
    | inr less ↦ none j c less at
  ]

  differ : (c : Cursor) → c.done ≡ false → c.done ≡ true → ⊥
  differ c e f = let wrong : true ≡ false = sym f ∙ e in absurd (cc)

  pub one_kept : (b : ℕ) (f : IsFirstOf course cs k b) → (x.done ≡ false → is_lt (compare (steps_of course) (head k x) (head b f.cursor)) ≡ false) → IsFirstOf course cs (k + 1) b
  one_kept b f g = record {
    below = omega (arith, f.below);
    cursor = f.cursor;
    there = f.there;
    left = f.left;
    first = λ j c h at left. elim (below_or_same j k h) [
      | inl same ↦
          let item : c ≡ x = same_item cs j k c x same at there in
          let same_head : head j c ≡ head k x = λ i. head (same i) (item i) in
          ap (λ (s : Stop). is_lt (compare (steps_of course) s (head b f.cursor))) same_head ∙ g (sym (ap (λ (y : Cursor). y.done) item) ∙ left)
      | inr less ↦ f.first j c less at left
    ];
  }

  pub one_taken : x.done ≡ false → ((j : ℕ) (c : Cursor) → j < k → slice_get cs j ≡ Some c → c.done ≡ false → is_lt (compare (steps_of course) (head j c) (head k x)) ≡ false) → IsFirstOf course cs (k + 1) k
  one_taken left before = record {
    below = omega arith;
    cursor = x;
    there = there;
    left = left;
    first = λ j c h at open_. elim (below_or_same j k h) [
      | inl same ↦
          let item : c ≡ x = same_item cs j k c x same at there in
          let same_head : head j c ≡ head k x = λ i. head (same i) (item i) in
          ap (λ (s : Stop). is_lt (compare (steps_of course) s (head k x))) same_head ∙ not_itself (compare_total (steps_of course)) (head k x)
      | inr less ↦ before j c less at open_
    ];
  }

  pub none_taken : IsBest course cs k None → x.done ≡ false → IsFirstOf course cs (k + 1) k
  none_taken none left = one_taken left (λ j c h at open_. absurd (differ c open_ (none j c h at)))

  later_piece : (o r : Ordering) → r ≡ Greater → (o ≡ Less → ⊥) → is_lt (ordering_then o r) ≡ false
  later_piece Less r e n = absurd (n refl)
  later_piece Equal r e n = ap is_lt e
  later_piece Greater r e n = refl

  -- the piece that was found stays where the new one's next place doesn't stand before its
  pub best_kept : (b : ℕ) (f : IsFirstOf course cs k b) → (by_place (steps_of course) (head k x) (head b f.cursor) ≡ Less → ⊥) → IsFirstOf course cs (k + 1) b
  best_kept b f n =
      let after : nat_cmp k b ≡ Greater = sym (nat_cmp_is k b Greater f.below) in
      one_kept b f (λ left. later_piece (by_place (steps_of course) (head k x) (head b f.cursor)) (nat_cmp k b) after n)

  pub best_moved : (b : ℕ) (f : IsFirstOf course cs k b) → x.done ≡ false → by_place (steps_of course) (head k x) (head b f.cursor) ≡ Less → IsFirstOf course cs (k + 1) k
  best_moved b f left l =
      let less : compare (steps_of course) (head k x) (head b f.cursor) ≡ Less = ap (λ (o : Ordering). ordering_then o (nat_cmp k b)) l in
      one_taken left (λ j c h at open_. not_before (compare_total (steps_of course)) (head j c) (head b f.cursor) (head k x) less (f.first j c h at open_))

  pub best_done : (found : Option ℕ) → IsBest course cs k found → x.done ≡ true → IsBest course cs (k + 1) found
  best_done None none done = none_more none done
  best_done (Some b) f done = one_kept b f (λ left. absurd (differ x left done))

  pub best_kept_by : (b : ℕ) (f : IsFirstOf course cs k b) (y : Cursor) → y ≡ get_or cs b y → (by_place (steps_of course) (head 0 x) (head 0 y) ≡ Less → ⊥) → IsFirstOf course cs (k + 1) b
  best_kept_by b f y at n =
      let same : y ≡ f.cursor = at ∙ get_or_from_slice_get cs b f.cursor y f.there in
      best_kept b f (λ e. n (ap (λ (c : Cursor). by_place (steps_of course) (head 0 x) (head 0 c)) same ∙ place_anywhere (steps_of course) k b x f.cursor ∙ e))

  pub best_moved_by : (b : ℕ) (f : IsFirstOf course cs k b) (y : Cursor) → y ≡ get_or cs b y → x.done ≡ false → by_place (steps_of course) (head 0 x) (head 0 y) ≡ Less → IsFirstOf course cs (k + 1) k
  best_moved_by b f y at left l =
      let same : y ≡ f.cursor = at ∙ get_or_from_slice_get cs b f.cursor y f.there in
      best_moved b f left (sym (place_anywhere (steps_of course) k b x f.cursor) ∙ ap (λ (c : Cursor). by_place (steps_of course) (head 0 x) (head 0 c)) (sym same) ∙ l)
