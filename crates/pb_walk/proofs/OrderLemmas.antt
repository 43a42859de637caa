-- The order of places is a total order, and the same as that of ranks.
use Rattle.std.proofs.Common.{◌≡◌, ◌∙◌, refl, sym, ap, subst, inl, inr, ◌⊎◌, ℕ, ◌<◌, ◌==◌, Bool, true, false, if◌then◌else◌, ℤ, pos, ◌<ℤ◌, ◌-ℤ◌, List, [], ◌∷◌, arith}
use Rattle.std.specs.Cmp.{IsTotalOrder, int_cmp_is, nat_cmp_is}
use Rattle.std.specs.Ordering.{MatchOrdering, int_cmp, nat_cmp, ordering_then}
use Rattle.std.specs.declared.cmp.Ordering.{Ordering}
use Rattle.std.specs.declared.cmp.Ordering.TheVariants.{Less, Equal, Greater}
use Rattle.std.proofs.lemmas.Cmp.{back_total, int_ranked, nat_cmp_total, on_total, ranked, then_total}
use Rattle.std.proofs.lemmas.Int.{ints}
use Rattle.pb_linear.specs.declared.boxes.Sign.{Sign}
use Rattle.pb_linear.specs.declared.boxes.Sign.TheVariants.{Plus, Minus}
use Rattle.pb_linear.specs.declared.boxes.Step.{Step}
use Rattle.pb_graph.specs.Ranks.{IsBelow, Rank, along, signed}
use Rattle.pb_walk.specs.declared.stop.Stop.{Stop}
use Rattle.pb_walk.specs.Orders.{IsEarlier, StandsBefore, by_cell, by_list, by_place, by_sign, by_step, compare, number_on, rank_of}

-- ---- total
by_sign_total : (sign : Sign) → IsTotalOrder (by_sign sign)
by_sign_total Plus = nat_cmp_total
by_sign_total Minus = back_total nat_cmp_total

by_step_total : (step : Step) → IsTotalOrder (by_step step)
by_step_total step = on_total (number_on step.axis) (by_sign_total step.sign)

equal_total : {K : Type 0} → IsTotalOrder (λ (a b : K). Equal)
equal_total = record { antisymm = λ x y. refl; trans = λ x y z p q. p; congr = λ x y z p. refl }

by_list_total : (steps : List Step) → IsTotalOrder (by_list steps)
by_list_total [] = equal_total
by_list_total (s ∷ []) = by_step_total s
by_list_total (s ∷ t ∷ _) = then_total (by_step_total s) (by_step_total t)

number_total : (number : Stop → ℕ) → IsTotalOrder (λ a b. nat_cmp (number a) (number b))
number_total number = on_total number nat_cmp_total

by_cell_total : IsTotalOrder by_cell
by_cell_total = then_total (number_total (λ s. s.base)) (then_total (number_total (λ s. s.y)) (number_total (λ s. s.x)))

pub compare_total : (steps : List Step) → IsTotalOrder (compare steps)
compare_total steps = then_total (then_total (by_list_total steps) by_cell_total) (number_total (λ s. s.piece))

-- ---- one order and then another
pub then_equal : (o p : Ordering) → ordering_then o p ≡ Equal → (o ≡ Equal) × (p ≡ Equal)
then_equal Less p e = absurd (cc)
then_equal Equal p e = (refl, e)
then_equal Greater p e = absurd (cc)

pub then_less : (o p : Ordering) → ordering_then o p ≡ Less → (o ≡ Less) ⊎ ((o ≡ Equal) × (p ≡ Less))
then_less Less p e = inl refl
then_less Equal p e = inr (refl, e)
then_less Greater p e = absurd (cc)

less_then : (o p : Ordering) → (o ≡ Less) ⊎ ((o ≡ Equal) × (p ≡ Less)) → ordering_then o p ≡ Less
less_then o p (inl e) = rw e refl
less_then o p (inr both) = rw both.0 both.1

pub then_nothing : (o : Ordering) → ordering_then o Equal ≡ o
then_nothing Less = refl
then_nothing Equal = refl
then_nothing Greater = refl

same_number : (a b : ℕ) → nat_cmp a b ≡ Equal → a ≡ b
same_number a b e = ranked a b Equal (sym e)

pub compare_same : (steps : List Step) (a b : Stop) → compare steps a b ≡ Equal → a ≡ b
compare_same steps a b e =
    let one = then_equal (by_place steps a b) (nat_cmp a.piece b.piece) e in
    let two = then_equal (by_list steps a b) (by_cell a b) one.0 in
    let three = then_equal (nat_cmp a.base b.base) (ordering_then (nat_cmp a.y b.y) (nat_cmp a.x b.x)) two.1 in
    let four = then_equal (nat_cmp a.y b.y) (nat_cmp a.x b.x) three.1 in
    let piece : a.piece ≡ b.piece = same_number a.piece b.piece one.1 in
    let base : a.base ≡ b.base = same_number a.base b.base three.0 in
    let row : a.y ≡ b.y = same_number a.y b.y four.0 in
    let column : a.x ≡ b.x = same_number a.x b.x four.1 in
    λ i. record { piece = piece i; base = base i; x = column i; y = row i }

-- ---- ranks
signed_ranks : (sign : Sign) (a b : ℕ) → MatchOrdering (by_sign sign a b) (signed sign (pos a) <ℤ signed sign (pos b)) (signed sign (pos a) ≡ signed sign (pos b)) (signed sign (pos b) <ℤ signed sign (pos a))
signed_ranks Plus a b = plus (nat_cmp a b) (ranked a b (nat_cmp a b) refl)
  where
    plus : (o : Ordering) → MatchOrdering o (a < b) (a ≡ b) (b < a) → MatchOrdering o (pos a <ℤ pos b) (pos a ≡ pos b) (pos b <ℤ pos a)
    plus Less h = omega (arith, ints)
    plus Equal h = ap pos h
    plus Greater h = omega (arith, ints)
signed_ranks Minus a b = minus (nat_cmp b a) (ranked b a (nat_cmp b a) refl)
  where
    minus : (o : Ordering) → MatchOrdering o (b < a) (b ≡ a) (a < b) → MatchOrdering o ((pos 0 -ℤ pos a) <ℤ (pos 0 -ℤ pos b)) ((pos 0 -ℤ pos a) ≡ (pos 0 -ℤ pos b)) ((pos 0 -ℤ pos b) <ℤ (pos 0 -ℤ pos a))
    minus Less h = omega (arith, ints)
    minus Equal h = ap (λ k. pos 0 -ℤ pos k) (sym h)
    minus Greater h = omega (arith, ints)

as_signed : (sign : Sign) (a b : ℕ) → by_sign sign a b ≡ int_cmp (signed sign (pos a)) (signed sign (pos b))
as_signed sign a b = int_cmp_is (signed sign (pos a)) (signed sign (pos b)) (by_sign sign a b) (signed_ranks sign a b)

picked : (t : Bool) (x y : ℕ) → pos (if t then x else y) ≡ (if t then pos x else pos y)
picked true x y = refl
picked false x y = refl

as_along : (step : Step) (a b : Stop) → by_step step a b ≡ int_cmp (along step (pos a.x) (pos a.y)) (along step (pos b.x) (pos b.y))
as_along step a b =
    as_signed step.sign (number_on step.axis a) (number_on step.axis b)
    ∙ (λ i. int_cmp (signed step.sign (picked (step.axis == 0) a.x a.y i)) (signed step.sign (picked (step.axis == 0) b.x b.y i)))

as_rank : (layer : ℕ) (steps : List Step) (a b : Stop) → by_list steps a b ≡ ordering_then (int_cmp (rank_of layer steps a).first (rank_of layer steps b).first) (int_cmp (rank_of layer steps a).second (rank_of layer steps b).second)
as_rank layer [] a b = refl
as_rank layer (s ∷ []) a b = as_along s a b ∙ sym (then_nothing (int_cmp (along s (pos a.x) (pos a.y)) (along s (pos b.x) (pos b.y))))
as_rank layer (s ∷ t ∷ _) a b = λ i. ordering_then (as_along s a b i) (as_along t a b i)

its_layer : (layer : ℕ) (steps : List Step) (a : Stop) → (rank_of layer steps a).layer ≡ layer
its_layer layer [] a = refl
its_layer layer (s ∷ []) a = refl
its_layer layer (s ∷ t ∷ _) a = refl

same_layer : (layer : ℕ) (steps : List Step) (a b : Stop) → (rank_of layer steps a).layer ≡ (rank_of layer steps b).layer
same_layer layer steps a b = its_layer layer steps a ∙ sym (its_layer layer steps b)

int_less : (x y : ℤ) → int_cmp x y ≡ Less → x <ℤ y
int_less x y e = int_ranked x y Less (sym e)

int_same : (x y : ℤ) → int_cmp x y ≡ Equal → x ≡ y
int_same x y e = int_ranked x y Equal (sym e)

below_from : (r q : Rank) → r.layer ≡ q.layer → ordering_then (int_cmp r.first q.first) (int_cmp r.second q.second) ≡ Less → IsBelow r q
below_from r q layer e = elim (then_less (int_cmp r.first q.first) (int_cmp r.second q.second) e) [
  | inl first ↦ inr (layer, inl (int_less r.first q.first first))
  | inr both ↦ inr (layer, inr (int_same r.first q.first both.0, int_less r.second q.second both.1))
]

from_below : (r q : Rank) → r.layer ≡ q.layer → IsBelow r q → ordering_then (int_cmp r.first q.first) (int_cmp r.second q.second) ≡ Less
from_below r q layer (inl lower) = absurd (omega arith)
from_below r q layer (inr (same, inl first)) = less_then _ _ (inl (sym (int_cmp_is r.first q.first Less first)))
from_below r q layer (inr (same, inr both)) = less_then _ _ (inr (sym (int_cmp_is r.first q.first Equal both.0), sym (int_cmp_is r.second q.second Less both.1)))

same_rank : (r q : Rank) → r.layer ≡ q.layer → ordering_then (int_cmp r.first q.first) (int_cmp r.second q.second) ≡ Equal → r ≡ q
same_rank r q layer e =
    let both = then_equal (int_cmp r.first q.first) (int_cmp r.second q.second) e in
    let first = int_same r.first q.first both.0 in
    let second = int_same r.second q.second both.1 in
    λ i. record { layer = layer i; first = first i; second = second i }

itself : (x : ℤ) → int_cmp x x ≡ Equal
itself x = sym (int_cmp_is x x Equal refl)

rank_same : (r q : Rank) → r ≡ q → ordering_then (int_cmp r.first q.first) (int_cmp r.second q.second) ≡ Equal
rank_same r q e = subst (λ (p : Rank). ordering_then (int_cmp r.first p.first) (int_cmp r.second p.second) ≡ Equal) e (rw (itself r.first, itself r.second) refl)

-- ---- the cells and the pieces
number_less : (a b : ℕ) → nat_cmp a b ≡ Less → a < b
number_less a b e = ranked a b Less (sym e)

less_number : (a b : ℕ) → a < b → nat_cmp a b ≡ Less
less_number a b h = sym (nat_cmp_is a b Less h)

equal_number : (a b : ℕ) → a ≡ b → nat_cmp a b ≡ Equal
equal_number a b h = sym (nat_cmp_is a b Equal h)

-- what tells of two places of equal rank which is earlier, one after another
abbrev by_column : Stop → Stop → Ordering
by_column a b = ordering_then (nat_cmp a.x b.x) (nat_cmp a.piece b.piece)

abbrev by_row : Stop → Stop → Ordering
by_row a b = ordering_then (nat_cmp a.y b.y) (by_column a b)

abbrev by_matrix : Stop → Stop → Ordering
by_matrix a b = ordering_then (nat_cmp a.base b.base) (by_row a b)

piece_last : (o p q r s : Ordering) → ordering_then (ordering_then o (ordering_then p (ordering_then q r))) s ≡ ordering_then o (ordering_then p (ordering_then q (ordering_then r s)))
piece_last Less p q r s = refl
piece_last Greater p q r s = refl
piece_last Equal Less q r s = refl
piece_last Equal Greater q r s = refl
piece_last Equal Equal Less r s = refl
piece_last Equal Equal Greater r s = refl
piece_last Equal Equal Equal r s = refl

told : (steps : List Step) (a b : Stop) → compare steps a b ≡ ordering_then (by_list steps a b) (by_matrix a b)
told steps a b = piece_last (by_list steps a b) (nat_cmp a.base b.base) (nat_cmp a.y b.y) (nat_cmp a.x b.x) (nat_cmp a.piece b.piece)

earlier_from : (a b : Stop) → by_matrix a b ≡ Less → IsEarlier a b
earlier_from a b e = elim (then_less (nat_cmp a.base b.base) (by_row a b) e) [
  | inl base ↦ inl (number_less a.base b.base base)
  | inr same ↦ elim (then_less (nat_cmp a.y b.y) (by_column a b) same.1) [
    | inl row ↦ inr (same_number a.base b.base same.0, inl (number_less a.y b.y row))
    | inr both ↦ elim (then_less (nat_cmp a.x b.x) (nat_cmp a.piece b.piece) both.1) [
      | inl column ↦ inr (same_number a.base b.base same.0, inr (same_number a.y b.y both.0, inl (number_less a.x b.x column)))
      | inr all ↦ inr (same_number a.base b.base same.0, inr (same_number a.y b.y both.0, inr (same_number a.x b.x all.0, number_less a.piece b.piece all.1)))
    ]
  ]
]

from_earlier : (a b : Stop) → IsEarlier a b → by_matrix a b ≡ Less
from_earlier a b (inl base) = less_then _ _ (inl (less_number a.base b.base base))
from_earlier a b (inr (base, inl row)) = less_then _ _ (inr (equal_number a.base b.base base, less_then _ _ (inl (less_number a.y b.y row))))
from_earlier a b (inr (base, inr (row, inl column))) =
    less_then _ _ (inr (equal_number a.base b.base base, less_then _ _ (inr (equal_number a.y b.y row, less_then _ _ (inl (less_number a.x b.x column))))))
from_earlier a b (inr (base, inr (row, inr both))) =
    less_then _ _ (inr (equal_number a.base b.base base, less_then _ _ (inr (equal_number a.y b.y row, less_then _ _ (inr (equal_number a.x b.x both.0, less_number a.piece b.piece both.1))))))

pub stands_before : (layer : ℕ) (steps : List Step) (a b : Stop) → compare steps a b ≡ Less → StandsBefore layer steps a b
stands_before layer steps a b e = elim (then_less (by_list steps a b) (by_matrix a b) (sym (told steps a b) ∙ e)) [
  | inl first ↦ inl (below_from (rank_of layer steps a) (rank_of layer steps b) (same_layer layer steps a b) (sym (as_rank layer steps a b) ∙ first))
  | inr both ↦ inr (same_rank (rank_of layer steps a) (rank_of layer steps b) (same_layer layer steps a b) (sym (as_rank layer steps a b) ∙ both.0), earlier_from a b both.1)
]

pub before_stands : (layer : ℕ) (steps : List Step) (a b : Stop) → StandsBefore layer steps a b → compare steps a b ≡ Less
before_stands layer steps a b (inl below) = told steps a b ∙ less_then _ _ (inl (as_rank layer steps a b ∙ from_below (rank_of layer steps a) (rank_of layer steps b) (same_layer layer steps a b) below))
before_stands layer steps a b (inr both) = told steps a b ∙ less_then _ _ (inr (as_rank layer steps a b ∙ rank_same (rank_of layer steps a) (rank_of layer steps b) both.0, from_earlier a b both.1))
