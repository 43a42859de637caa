-- How a piece is gone through line by line, in the order of a list of steps.
use Rattle.std.proofs.Common.{◌≡◌, ◌∙◌, refl, sym, ap, ℕ, ◌≤◌, ◌==◌, Bool, true, false, if◌then◌else◌, List, [], ◌∷◌, length, get_or, arith}
use Rattle.std.specs.Ordering.{nat_cmp, ordering_reverse, ordering_then}
use Rattle.std.specs.declared.cmp.Ordering.{Ordering}
use Rattle.std.specs.declared.cmp.Ordering.TheVariants.{Less, Equal, Greater}
use Rattle.std.proofs.lemmas.Cmp.{nat_cmp_total, tied_itself}
use Rattle.pb_linear.specs.declared.boxes.Sign.{Sign}
use Rattle.pb_linear.specs.declared.boxes.Sign.TheVariants.{Plus, Minus}
use Rattle.pb_linear.specs.declared.boxes.Step.{Step}
use Rattle.pb_links.specs.declared.places.Spot.{Spot}
use Rattle.pb_walk.specs.Orders.{by_list, by_sign, by_step, compare}
use Rattle.pb_walk.specs.Sweeps.{by_pair, by_sweep, sign_across}
use Rattle.pb_walk.specs.Walks.{stop, walk_of}
use Rattle.pb_walk.proofs.OrderLemmas.{then_nothing}

pub first_two : (steps : List Step) (d : Step) (pieces : List Spot) → 2 ≤ length steps → walk_of (get_or steps 0 d ∷ get_or steps 1 d ∷ []) pieces ≡ walk_of steps pieces
unfolding walk_of
first_two [] d pieces h = absurd (omega arith)
first_two (s ∷ []) d pieces h = absurd (omega arith)
first_two (s ∷ t ∷ rest) d pieces h = refl

-- ---- an order the other way round
abbrev turned : Sign → Ordering → Ordering
turned Plus o = o
turned Minus o = ordering_reverse o

as_turned : (sign : Sign) (a b : ℕ) → by_sign sign a b ≡ turned sign (nat_cmp a b)
as_turned Plus a b = refl
as_turned Minus a b = nat_cmp_total.antisymm b a

one_by_one : (o p q : Ordering) → ordering_then (ordering_then o p) q ≡ ordering_then o (ordering_then p q)
one_by_one Less p q = refl
one_by_one Equal p q = refl
one_by_one Greater p q = refl

-- what was compared before tells nothing more
told_last : (s : Sign) (p q : Ordering) → ordering_then (turned s p) (ordering_then q p) ≡ ordering_then (turned s p) q
told_last Plus Less q = refl
told_last Plus Equal q = then_nothing q
told_last Plus Greater q = refl
told_last Minus Less q = refl
told_last Minus Equal q = then_nothing q
told_last Minus Greater q = refl

told_first : (s : Sign) (q p : Ordering) → ordering_then (turned s q) (ordering_then q p) ≡ ordering_then (turned s q) p
told_first Plus Less p = refl
told_first Plus Equal p = refl
told_first Plus Greater p = refl
told_first Minus Less p = refl
told_first Minus Equal p = refl
told_first Minus Greater p = refl

told_turned : (s r : Sign) (p z : Ordering) → ordering_then (turned s p) (ordering_then (turned r p) z) ≡ ordering_then (turned s p) z
told_turned Plus r Less z = refl
told_turned Plus r Greater z = refl
told_turned Minus r Less z = refl
told_turned Minus r Greater z = refl
told_turned Plus Plus Equal z = refl
told_turned Plus Minus Equal z = refl
told_turned Minus Plus Equal z = refl
told_turned Minus Minus Equal z = refl

-- ---- by the axes of the steps: p and q are how two places stand on x and on y
one_axis : (t : Bool) (s : Sign) (p q : Ordering) → ordering_then (turned s (if t then p else q)) (ordering_then q p) ≡ (if t then ordering_then (turned s p) q else ordering_then (turned s q) p)
one_axis true s p q = told_last s p q
one_axis false s p q = told_first s q p

abbrev across : Bool → Bool → Sign → Sign
across t u r = if t then (if u then Plus else r) else (if u then r else Plus)

two_axes : (t u : Bool) (s r : Sign) (p q : Ordering)
    → ordering_then (ordering_then (turned s (if t then p else q)) (turned r (if u then p else q))) (ordering_then q p)
    ≡ (if t then ordering_then (turned s p) (turned (across t u r) q) else ordering_then (turned s q) (turned (across t u r) p))
two_axes true true s r p q = one_by_one (turned s p) (turned r p) (ordering_then q p) ∙ ap (ordering_then (turned s p)) (told_last r p q) ∙ told_turned s r p q
two_axes true false s r p q = one_by_one (turned s p) (turned r q) (ordering_then q p) ∙ ap (ordering_then (turned s p)) (told_first r q p) ∙ told_last s p (turned r q)
two_axes false false s r p q = one_by_one (turned s q) (turned r q) (ordering_then q p) ∙ ap (ordering_then (turned s q)) (told_first r q p) ∙ told_turned s r q p
two_axes false true s r p q = one_by_one (turned s q) (turned r p) (ordering_then q p) ∙ ap (ordering_then (turned s q)) (told_last r p q) ∙ told_last s q (turned r p)

step_turned : (step : Step) (k m x y a b : ℕ) → by_step step (stop k m x y) (stop k m a b) ≡ turned step.sign (if step.axis == 0 then nat_cmp x a else nat_cmp y b)
step_turned step k m x y a b = by (step.axis == 0)
  where
    by : (t : Bool) → by_sign step.sign (if t then x else y) (if t then a else b) ≡ turned step.sign (if t then nat_cmp x a else nat_cmp y b)
    by true = as_turned step.sign x a
    by false = as_turned step.sign y b

pair_turned : (s r : Sign) (u v a b : ℕ) → by_pair s r u v a b ≡ ordering_then (turned s (nat_cmp u a)) (turned r (nat_cmp v b))
unfolding by_pair
pair_turned s r u v a b = rw (as_turned s u a, as_turned r v b) refl

in_piece : (steps : List Step) (k m x y a b : ℕ) → compare steps (stop k m x y) (stop k m a b) ≡ ordering_then (by_list steps (stop k m x y) (stop k m a b)) (ordering_then (nat_cmp y b) (nat_cmp x a))
in_piece steps k m x y a b = rw (tied_itself nat_cmp_total k, tied_itself nat_cmp_total m) (then_nothing (ordering_then (by_list steps (stop k m x y) (stop k m a b)) (ordering_then (nat_cmp y b) (nat_cmp x a))))

pub any_sweep : (k m x y a b : ℕ) → compare [] (stop k m x y) (stop k m a b) ≡ by_sweep (record { columns = false; outer = Plus; inner = Plus }) x y a b
unfolding by_pair
any_sweep k m x y a b = in_piece [] k m x y a b

pub one_sweep : (s : Step) (k m x y a b : ℕ) → compare (s ∷ []) (stop k m x y) (stop k m a b) ≡ by_sweep (record { columns = s.axis == 0; outer = s.sign; inner = Plus }) x y a b
one_sweep s k m x y a b =
    in_piece (s ∷ []) k m x y a b
    ∙ ap (λ o. ordering_then o (ordering_then (nat_cmp y b) (nat_cmp x a))) (step_turned s k m x y a b)
    ∙ one_axis (s.axis == 0) s.sign (nat_cmp x a) (nat_cmp y b)
    ∙ (λ i. if s.axis == 0 then sym (pair_turned s.sign Plus x y a b) i else sym (pair_turned s.sign Plus y x b a) i)

pub two_sweep : (s t : Step) (k m x y a b : ℕ) → compare (s ∷ t ∷ []) (stop k m x y) (stop k m a b) ≡ by_sweep (record { columns = s.axis == 0; outer = s.sign; inner = sign_across s t }) x y a b
two_sweep s t k m x y a b =
    in_piece (s ∷ t ∷ []) k m x y a b
    ∙ (λ i. ordering_then (ordering_then (step_turned s k m x y a b i) (step_turned t k m x y a b i)) (ordering_then (nat_cmp y b) (nat_cmp x a)))
    ∙ two_axes (s.axis == 0) (t.axis == 0) s.sign t.sign (nat_cmp x a) (nat_cmp y b)
    ∙ (λ i. if s.axis == 0 then sym (pair_turned s.sign (sign_across s t) x y a b) i else sym (pair_turned s.sign (sign_across s t) y x b a) i)
