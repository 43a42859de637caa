-- Matrices that are met one after the other.
use Rattle.std.proofs.Common.{◌≡◌, ◌∙◌, refl, sym, ap, ℕ, ◌<◌, List, [], ◌∷◌, ◌++◌, get_or, length, take, ◌+◌}
use Rattle.pb_recursion.specs.Shapes.{Sides}
use Rattle.pb_views.specs.declared.seat.Seat.{Seat}
use Rattle.pb_counts.specs.Handed.{Met, after_matrices, after_matrix, seats_from, whole_seat}
use Rattle.pb_steps.proofs.ListLemmas.{take_at}

one_more : (n : Met) (ss : List Sides) (s : Sides) → seats_from n (ss ++ s ∷ []) ≡ seats_from n ss ++ whole_seat (after_matrices n ss) s ∷ []
one_more n [] s = refl
one_more n (t ∷ ss) s = ap (λ l. whole_seat n t ∷ l) (one_more (after_matrix n t) ss s)

one_met : (n : Met) (ss : List Sides) (s : Sides) → after_matrices n (ss ++ s ∷ []) ≡ after_matrix (after_matrices n ss) s
one_met n [] s = refl
one_met n (t ∷ ss) s = one_met (after_matrix n t) ss s

-- the next of some matrices
module _ (n m : Met) (ss : List Sides) (k : ℕ) (d : Sides) (below : k < length ss) (so_far : m ≡ after_matrices n (take k ss)) where
  pub next_seat : (old new : List Seat) (s : Seat) → old ≡ seats_from n (take k ss) → s ≡ whole_seat m (get_or ss k d) → new ≡ old ++ s ∷ [] → new ≡ seats_from n (take (k + 1) ss)
  next_seat old new s before is added =
      added ∙ (λ i. before i ++ (is ∙ ap (λ q. whole_seat q (get_or ss k d)) so_far) i ∷ []) ∙ sym (ap (seats_from n) (take_at ss k d below) ∙ one_more n (take k ss) (get_or ss k d))

  pub next_met : (q : Met) → q ≡ after_matrix m (get_or ss k d) → q ≡ after_matrices n (take (k + 1) ss)
  next_met q is = is ∙ ap (λ r. after_matrix r (get_or ss k d)) so_far ∙ sym (ap (after_matrices n) (take_at ss k d below) ∙ one_met n (take k ss) (get_or ss k d))
