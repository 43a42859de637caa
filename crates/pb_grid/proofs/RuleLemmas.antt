-- The rules at a place, and which rules may make the cell there.
use Rattle.std.proofs.Common.{◌≡◌, ◌∙◌, ◌↔◌, refl, sym, ap, subst, inl, inr, ℕ, zero, suc, ◌<◌, ◌≤◌, nat_eq, Bool, true, false, ◌&&◌, ◌||◌, not, List, [], ◌∷◌, length, map, get_or, ℤ, arith}
use Rattle.std.specs.Prelude.{filter, nat_le}
use Rattle.std.specs.List.{All, Contains, list_all, list_any}
use Rattle.std.proofs.Math.Bool.{cond}
use Rattle.std.proofs.lemmas.Bool.{and_parts, eq-eqb, eqb-true, le-leb, leb-true}
use Rattle.pb_linear.specs.RuleBox.{Bounds}
use Rattle.pb_grid.specs.declared.segments.Holder.{Holder}
use Rattle.pb_grid.specs.Lists.{firsts}
use Rattle.pb_grid.specs.Places.{MayMake, holders_at, is_in}
use Rattle.pb_grid.specs.Segments.{best, holder_of, is_best}
use Rattle.pb_grid.proofs.GapLemmas.{nat-trans}
use Rattle.pb_grid.proofs.ListLemmas.{all_more, all_tail, any_kept}
use Rattle.pb_grid.proofs.OrderLemmas.{both, or_cases}

-- ---- some and all elements of lists that are made
firsts_step : (r n : ℕ) (l ns : List ℕ) (b : Bool) → nat_eq n r ≡ b → list_any (λ z. nat_eq z r) l ≡ list_any (λ z. nat_eq z r) ns → (b || list_any (λ z. nat_eq z r) (filter (λ z. not (nat_eq n z)) l)) ≡ (b || list_any (λ z. nat_eq z r) ns)
firsts_step r n l ns true e h = refl
firsts_step r n l ns false e h = any_kept nat_eq nat-trans n r l e ∙ h

any_firsts : (r : ℕ) (ns : List ℕ) → list_any (λ z. nat_eq z r) (firsts nat_eq ns) ≡ list_any (λ z. nat_eq z r) ns
any_firsts r [] = refl
any_firsts r (n ∷ ns) = firsts_step r n (firsts nat_eq ns) ns (nat_eq n r) refl (any_firsts r ns)

any_map : {A B : Type 0} (p : B → Bool) (f : A → B) (xs : List A) → list_any p (map f xs) ≡ list_any (λ x. p (f x)) xs
any_map p f [] = refl
any_map p f (x ∷ xs) = ap (λ b. p (f x) || b) (any_map p f xs)

all_map : {A B : Type 0} (p : B → Bool) (f : A → B) (xs : List A) → list_all p (map f xs) ≡ list_all (λ x. p (f x)) xs
all_map p f [] = refl
all_map p f (x ∷ xs) = ap (λ b. p (f x) && b) (all_map p f xs)

any_filter_step : {A : Type 0} (p : A → Bool) (x : A) (l : List A) (b c : Bool) → list_any p l ≡ c → list_any p (cond b (x ∷ l) l) ≡ ((b && p x) || c)
any_filter_step p x l true c h = ap (λ t. p x || t) h
any_filter_step p x l false c h = h

any_filter : {A : Type 0} (p q : A → Bool) (xs : List A) → list_any p (filter q xs) ≡ list_any (λ x. q x && p x) xs
any_filter p q [] = refl
any_filter p q (x ∷ xs) = any_filter_step p x (filter q xs) (q x) _ (any_filter p q xs)

all_filter_step : {A : Type 0} (p : A → Bool) (x : A) (l : List A) (b c : Bool) → list_all p l ≡ c → list_all p (cond b (x ∷ l) l) ≡ ((not b || p x) && c)
all_filter_step p x l true c h = ap (λ t. p x && t) h
all_filter_step p x l false c h = h

all_filter : {A : Type 0} (p q : A → Bool) (xs : List A) → list_all p (filter q xs) ≡ list_all (λ x. not (q x) || p x) xs
all_filter p q [] = refl
all_filter p q (x ∷ xs) = all_filter_step p x (filter q xs) (q x) _ (all_filter p q xs)

-- ---- tests of lists, and elements
or_true : (a b : Bool) → b ≡ true → (a || b) ≡ true
or_true true b h = refl
or_true false b h = h

pub any_here : {A : Type 0} (p : A → Bool) (xs : List A) → list_any p xs ≡ true → (x : A) × Contains xs x × (p x ≡ true)
any_here p [] h = absurd (let e : false ≡ true = h in cc)
any_here p (x ∷ xs) h = elim (or_cases (p x) (list_any p xs) h) [
  | inl here ↦ (x, (0, omega arith, refl), here)
  | inr later ↦ let rest = any_here p xs later.1 in (rest.0, (suc rest.1.0, omega (arith, rest.1.1), rest.1.2), rest.2)
]

pub any_from : {A : Type 0} (p : A → Bool) (xs : List A) (x : A) (k : ℕ) → k < length xs → get_or xs k x ≡ x → p x ≡ true → list_any p xs ≡ true
any_from p [] x k below is h = absurd (omega arith)
any_from p (y ∷ ys) x zero below is h = ap (λ b. b || list_any p ys) (ap p is ∙ h)
any_from p (y ∷ ys) x (suc k) below is h = or_true (p y) (list_any p ys) (any_from p ys x k (omega arith) is h)

all_true : {A : Type 0} (p : A → Bool) (xs : List A) → list_all p xs ≡ true → All (λ x. p x ≡ true) xs
all_true p [] h = λ k d below. absurd (omega arith)
all_true p (x ∷ xs) h = let parts = and_parts (p x) (list_all p xs) h in all_more (λ x. p x ≡ true) x xs parts.0 (all_true p xs parts.1)

all_from : {A : Type 0} (p : A → Bool) (xs : List A) → All (λ x. p x ≡ true) xs → list_all p xs ≡ true
all_from p [] h = refl
all_from p (x ∷ xs) h = both (p x) (list_all p xs) (h 0 x (omega arith)) (all_from p xs (all_tail (λ x. p x ≡ true) x xs h))

-- ---- a rule at a place
module _ (boxes : List Bounds) (sizes : List ℕ) (x y : ℤ) (r : ℕ) where
  abbrev hs : List Holder
  hs = holders_at sizes x y boxes

  -- no unguarded box that holds the place has a smaller priority
  abbrev least_test : Bounds → Bounds → Bool
  least_test b k = not (is_in sizes x y k) || (k.guarded || nat_le b.priority k.priority)

  best_test : (b : Bounds) → is_best hs (holder_of b) ≡ list_all (least_test b) boxes
  best_test b = all_map (λ (k : Holder). k.guarded || nat_le b.priority k.priority) holder_of (filter (is_in sizes x y) boxes) ∙ all_filter (λ (k : Bounds). k.guarded || nat_le b.priority k.priority) (is_in sizes x y) boxes

  abbrev chosen : Bounds → Bool
  chosen b = is_in sizes x y b && (is_best hs (holder_of b) && nat_eq b.rule r)

  among : list_any (λ z. nat_eq z r) (best hs) ≡ list_any chosen boxes
  unfolding best
  among =
      any_firsts r (map (λ (h : Holder). h.rule) (filter (is_best hs) hs))
      ∙ any_map (λ z. nat_eq z r) (λ (h : Holder). h.rule) (filter (is_best hs) hs)
      ∙ any_filter (λ (h : Holder). nat_eq h.rule r) (is_best hs) hs
      ∙ any_map (λ (h : Holder). is_best hs h && nat_eq h.rule r) holder_of (filter (is_in sizes x y) boxes)
      ∙ any_filter (λ (b : Bounds). is_best hs (holder_of b) && nat_eq b.rule r) (is_in sizes x y) boxes

  to_priority : (a g : Bool) (p q : ℕ) → (not a || (g || nat_le p q)) ≡ true → a ≡ true → g ≡ false → p ≤ q
  to_priority true false p q h in_box free = leb-true p q h
  to_priority true true p q h in_box free = absurd (cc)
  to_priority false g p q h in_box free = absurd (cc)

  from_priority : (a g : Bool) (p q : ℕ) → (a ≡ true → g ≡ false → p ≤ q) → (not a || (g || nat_le p q)) ≡ true
  from_priority false g p q h = refl
  from_priority true true p q h = refl
  from_priority true false p q h = le-leb p q (h refl refl)

  may_make : Contains (best hs) r → MayMake boxes sizes x y r
  may_make h =
      let any = any_from (λ z. nat_eq z r) (best hs) r h.0 h.1 h.2 (eq-eqb r r refl) in
      let w = any_here chosen boxes (sym among ∙ any) in
      let b = w.0 in
      let first = and_parts (is_in sizes x y b) (is_best hs (holder_of b) && nat_eq b.rule r) w.2 in
      let second = and_parts (is_best hs (holder_of b)) (nat_eq b.rule r) first.1 in
      let each = all_true (least_test b) boxes (sym (best_test b) ∙ second.0) in record {
        box = b;
        there = w.1;
        numbered = eqb-true b.rule r second.1;
        inside = first.0;
        least = λ k d below in_box free. to_priority _ _ _ _ (each k d below) in_box free;
      }

  is_among : MayMake boxes sizes x y r → Contains (best hs) r
  is_among h =
      let b = h.box in
      let least = best_test b ∙ all_from (least_test b) boxes (λ k d below. from_priority _ _ _ _ (h.least k d below)) in
      let test = both (is_in sizes x y b) (is_best hs (holder_of b) && nat_eq b.rule r) h.inside (both (is_best hs (holder_of b)) (nat_eq b.rule r) least (eq-eqb b.rule r h.numbered)) in
      let any = any_from chosen boxes b h.there.0 h.there.1 h.there.2 test in
      let w = any_here (λ z. nat_eq z r) (best hs) (among ∙ any) in
      subst (Contains (best hs)) (eqb-true w.0 r w.2) w.1

  pub at_place : Contains (best hs) r ↔ MayMake boxes sizes x y r
  at_place = (may_make, is_among)
