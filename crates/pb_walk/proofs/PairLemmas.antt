-- The next pair of numbers, and the next place of a piece.
use Rattle.std.proofs.Common.{◌≡◌, ◌∙◌, refl, sym, ℕ, true, false}
use Rattle.std.specs.Ordering.{is_le, is_lt, ordering_then}
use Rattle.std.specs.declared.cmp.Ordering.{Ordering}
use Rattle.std.specs.declared.cmp.Ordering.TheVariants.{Less, Equal, Greater}
use Rattle.pb_linear.specs.declared.boxes.Sign.{Sign}
use Rattle.pb_walk.specs.declared.numbers.Span.{Span}
use Rattle.pb_walk.specs.Orders.{by_sign}
use Rattle.pb_walk.specs.Sweeps.{IsFirst, IsLast, IsLastPair, IsNext, IsNextPair, IsOf, by_pair}

second_moved : (o p q : Ordering) → is_lt q ≡ is_le p → is_lt (ordering_then o q) ≡ is_le (ordering_then o p)
second_moved Less p q e = refl
second_moved Equal p q e = e
second_moved Greater p q e = refl

lt_first : (o p : Ordering) → is_lt p ≡ false → is_lt (ordering_then o p) ≡ is_lt o
lt_first Less p e = refl
lt_first Equal p e = e
lt_first Greater p e = refl

le_first : (o p : Ordering) → is_le p ≡ true → is_le (ordering_then o p) ≡ is_le o
le_first Less p e = refl
le_first Equal p e = e
le_first Greater p e = refl

module _ (outer inner : Sign) (s t : Span) (a b : ℕ) where
  pub pair_in_line : (next : ℕ) → IsOf s a → IsNext inner t b next → IsNextPair outer inner s t a b (a, next)
  unfolding by_pair
  pair_in_line next of n = record {
    first = of;
    second = n.inside;
    before = λ u v hu hv. second_moved (by_sign outer u a) (by_sign inner v b) (by_sign inner v next) (n.before v hv);
  }

  pub pair_after_line : (next first : ℕ) → IsNext outer s a next → IsFirst inner t first → IsLast inner t b → IsNextPair outer inner s t a b (next, first)
  unfolding by_pair
  pair_after_line next first n f last = record {
    first = n.inside;
    second = f.inside;
    before = λ u v hu hv. lt_first (by_sign outer u next) (by_sign inner v first) (f.before v hv) ∙ n.before u hu ∙ sym (le_first (by_sign outer u a) (by_sign inner v b) (last v hv));
  }

  pub no_pair_after : IsLast outer s a → IsLast inner t b → IsLastPair outer inner s t a b
  unfolding by_pair
  no_pair_after m n u v hu hv = le_first (by_sign outer u a) (by_sign inner v b) (n v hv) ∙ m u hu

  pub first_pair : IsFirst outer s a → IsFirst inner t b → (u v : ℕ) → IsOf s u → IsOf t v → is_lt (by_pair outer inner u v a b) ≡ false
  unfolding by_pair
  first_pair m n u v hu hv = lt_first (by_sign outer u a) (by_sign inner v b) (n.before v hv) ∙ m.before u hu
