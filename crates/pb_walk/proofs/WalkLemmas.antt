-- Walks: their places, their order, and that there is one.
use Rattle.std.proofs.Common.{◌≡◌, ◌∙◌, sym, ℕ, ◌+◌, ◌<◌, List, [], ◌∷◌, length, get_or, slice_get, Some, arith}
use Rattle.std.specs.List.{AllPairs, Contains}
use Rattle.std.specs.List.Sorted.{IsStrictlySortedBy}
use Rattle.std.specs.declared.cmp.Ordering.TheVariants.{Less, Equal}
use Rattle.std.proofs.lemmas.Cmp.{tied_itself}
use Rattle.std.proofs.lemmas.Map.Keys.{Less-from_sorted, sorted_from_all_adjacent}
use Rattle.std.proofs.lemmas.Option.{get_or_from_slice_get, slice_get_within}
use Rattle.pb_linear.specs.declared.boxes.Step.{Step}
use Rattle.pb_links.specs.declared.places.Spot.{Spot}
use Rattle.pb_walk.specs.declared.stop.Stop.{Stop}
use Rattle.pb_walk.specs.Orders.{StandsBefore, compare}
use Rattle.pb_walk.specs.Walks.{IsPlace, IsWalk, places, stop, walk_of}
use Rattle.pb_walk.proofs.OrderLemmas.{before_stands, compare_same, compare_total, stands_before}
use Rattle.pb_walk.proofs.PlaceLemmas.{in_place, place_in}
use Rattle.pb_walk.proofs.SortLemmas.{in_sorted, is_sorted, one_sorted, sorted_in}

pub walk_sorted : (steps : List Step) (pieces : List Spot) → IsStrictlySortedBy (compare steps) (walk_of steps pieces)
unfolding walk_of
walk_sorted steps pieces = is_sorted (compare steps) (compare_total steps) (places pieces)

pub walk_in : (steps : List Step) (pieces : List Spot) (s : Stop) → Contains (walk_of steps pieces) s → IsPlace pieces s
unfolding walk_of
walk_in steps pieces s h = place_in pieces s (sorted_in (compare steps) s (places pieces) h)

pub in_walk : (steps : List Step) (pieces : List Spot) (s : Stop) → IsPlace pieces s → Contains (walk_of steps pieces) s
unfolding walk_of
in_walk steps pieces s h = in_sorted (compare steps) (compare_total steps) (compare_same steps) s (places pieces) (in_place pieces s h)

less_at : (steps : List Step) (walk : List Stop) (i j : ℕ) (a b : Stop) → IsStrictlySortedBy (compare steps) walk → i < j → slice_get walk i ≡ Some a → slice_get walk j ≡ Some b → compare steps a b ≡ Less
less_at steps walk i j a b s h e f =
    let below : j < length walk = slice_get_within walk j b f in
    let first : get_or walk i a ≡ a = get_or_from_slice_get walk i a a e in
    let second : get_or walk j a ≡ b = get_or_from_slice_get walk j b a f in
    rw (first, second) at (Less-from_sorted (compare steps) walk i j a s h below)

pub walk_rises : (layer : ℕ) (steps : List Step) (pieces : List Spot) (i j : ℕ) (a b : Stop) → i < j → slice_get (walk_of steps pieces) i ≡ Some a → slice_get (walk_of steps pieces) j ≡ Some b → StandsBefore layer steps a b
walk_rises layer steps pieces i j a b h e f = stands_before layer steps a b (less_at steps (walk_of steps pieces) i j a b (walk_sorted steps pieces) h e f)

never_twice : (steps : List Step) (pieces : List Spot) (i j : ℕ) (s : Stop) → slice_get (walk_of steps pieces) i ≡ Some s → slice_get (walk_of steps pieces) j ≡ Some s → i < j → ⊥
never_twice steps pieces i j s e f h =
    let wrong : Less ≡ Equal = sym (less_at steps (walk_of steps pieces) i j s s (walk_sorted steps pieces) h e f) ∙ tied_itself (compare_total steps) s in
    absurd (cc)

pub walked_once : (steps : List Step) (pieces : List Spot) (i j : ℕ) (s : Stop) → slice_get (walk_of steps pieces) i ≡ Some s → slice_get (walk_of steps pieces) j ≡ Some s → i ≡ j
walked_once steps pieces i j s e f =
    let forth : i < j → ⊥ = never_twice steps pieces i j s e f in
    let back : j < i → ⊥ = never_twice steps pieces j i s f e in
    omega arith

walk_ordered : (steps : List Step) (walk : List Stop) → AllPairs (StandsBefore 0 steps) walk → IsStrictlySortedBy (compare steps) walk
walk_ordered steps [] rises = sorted_from_all_adjacent (compare_total steps) [] (stop 0 0 0 0) (λ k h. absurd (omega arith))
walk_ordered steps (s ∷ walk) rises =
    sorted_from_all_adjacent (compare_total steps) (s ∷ walk) s (λ k h. before_stands 0 steps (get_or (s ∷ walk) k s) (get_or (s ∷ walk) (k + 1) s) (rises k (k + 1) s (omega arith) h))

pub one_walk : (steps : List Step) (pieces : List Spot) (walk : List Stop) → IsWalk steps pieces walk → walk ≡ walk_of steps pieces
one_walk steps pieces walk is =
    one_sorted (compare steps) (compare_total steps) walk (walk_of steps pieces) (walk_ordered steps walk (is.rises 0)) (walk_sorted steps pieces)
    (λ z h. in_walk steps pieces z ((is.places z).0 h)) (λ z h. (is.places z).1 (walk_in steps pieces z h))
