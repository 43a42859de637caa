-- Lists of firsts, in order, by pairs; and the first that passes.
use Rattle.std.proofs.Common.{◌≡◌, ◌∙◌, refl, sym, ap, subst, ℕ, zero, suc, ◌+◌, ◌-◌, ◌<◌, ◌≤◌, Bool, true, false, not, ◌||◌, List, [], ◌∷◌, ◌++◌, length, map, take, drop, get_or, Some, None, arith}
use Rattle.std.specs.Prelude.{filter}
use Rattle.std.specs.List.{All, find, flat_map, insert, list_any, position_or_len}
use Rattle.std.proofs.Math.Bool.{cond}
use Rattle.std.proofs.Math.Seq.{drop-cons}
use Rattle.std.proofs.lemmas.List.{append-nil, length-drop, map-append, take_all, take_more}
use Rattle.std.proofs.lemmas.List.Elements.{filter-append}
use Rattle.std.proofs.lemmas.Grind.{flat_map-append}
use Rattle.pb_grid.specs.Lists.{firsts, first_pair, in_order, neighbours, pairs_from, placed}

-- ---- parts of a list
pub rest_all : {A : Type 0} (xs : List A) (i : ℕ) → take (length xs - i) (drop i xs) ≡ drop i xs
rest_all xs i = take_all (length xs - i) (drop i xs) (omega (arith, length-drop i xs))

pub get_or_either : {A : Type 0} (xs : List A) (i : ℕ) (d x : A) → i < length xs → x ≡ get_or xs i x → get_or xs i d ≡ x
get_or_either [] i d x here is = absurd (omega arith)
get_or_either (y ∷ ys) zero d x here is = sym is
get_or_either (y ∷ ys) (suc i) d x here is = get_or_either ys i d x (omega arith) is

pub there : {A : Type 0} (xs : List A) (i : ℕ) (d : A) → i < length xs → get_or xs i d ≡ get_or xs i (get_or xs i d)
there [] i d here = absurd (omega arith)
there (y ∷ ys) zero d here = refl
there (y ∷ ys) (suc i) d here = there ys i d (omega arith)

-- ---- one more element
module _ {A : Type 0} (xs : List A) (i : ℕ) (x : A) (here : i < length xs) (is : x ≡ get_or xs i x) where
  pub taken : take (i + 1) xs ≡ take i xs ++ x ∷ []
  taken = take_more xs i x here ∙ ap (λ y. take i xs ++ y ∷ []) (sym is)

  passed : (p : A → Bool) (b : Bool) → p x ≡ b → filter p (take (i + 1) xs) ≡ filter p (take i xs) ++ cond b (x ∷ []) []
  passed p b e = ap (filter p) taken ∙ filter-append p (take i xs) (x ∷ []) ∙ ap (λ (t : Bool). filter p (take i xs) ++ cond t (x ∷ []) []) e

  pub filter_kept : (p : A → Bool) → p x ≡ true → filter p (take (i + 1) xs) ≡ filter p (take i xs) ++ x ∷ []
  filter_kept p e = passed p true e

  pub filter_dropped : (p : A → Bool) → p x ≡ false → filter p (take (i + 1) xs) ≡ filter p (take i xs)
  filter_dropped p e = passed p false e ∙ append-nil (filter p (take i xs))

  pub mapped : {B : Type 0} (f : A → B) (l k : List B) (y : B) → l ≡ map f (take i xs) → k ≡ l ++ y ∷ [] → y ≡ f x → k ≡ map f (take (i + 1) xs)
  mapped f l k y inv pushed e = pushed ∙ ap (λ m. m ++ y ∷ []) inv ∙ ap (λ z. map f (take i xs) ++ z ∷ []) e ∙ sym (ap (map f) taken ∙ map-append f (take i xs) (x ∷ []))

  pub flat_mapped : {B : Type 0} (f : A → List B) (l k : List B) → l ≡ flat_map f (take i xs) → k ≡ l ++ f x → k ≡ flat_map f (take (i + 1) xs)
  flat_mapped f l k inv pushed =
      pushed ∙ ap (λ m. m ++ f x) inv ∙ ap (λ m. flat_map f (take i xs) ++ m) (sym (append-nil (f x))) ∙ sym (ap (flat_map f) taken ∙ flat_map-append f (take i xs) (x ∷ []))

-- ---- the first two that pass
module _ {A : Type 0} (test : A → A → Bool) (xs : List A) (i : ℕ) (x : A) (here : i < length xs) (is : x ≡ get_or xs i x) where
  cut : drop i xs ≡ x ∷ drop (i + 1) xs
  cut = let next : suc i ≡ i + 1 = omega arith in drop-cons xs i x here ∙ ap (λ y. y ∷ drop (suc i) xs) (sym is) ∙ ap (λ n. x ∷ drop n xs) next

  pub pair_here : (y : A) → find (test x) (drop (i + 1) xs) ≡ Some y → first_pair test (drop i xs) ≡ Some (x, y)
  pair_here y e = rw (cut, e) refl

  pub pair_later : find (test x) (drop (i + 1) xs) ≡ None → first_pair test (drop i xs) ≡ first_pair test (drop (i + 1) xs)
  pair_later e = rw (cut, e) refl

pub pair_end : {A : Type 0} (test : A → A → Bool) (xs : List A) (i : ℕ) → length xs ≤ i → first_pair test (drop i xs) ≡ None
pair_end test [] zero end = refl
pair_end test [] (suc i) end = refl
pair_end test (x ∷ xs) zero end = absurd (omega arith)
pair_end test (x ∷ xs) (suc i) end = pair_end test xs i (omega arith)

-- ---- an element of a list
pub all_item : {A : Type 0} (P : A → Type 0) (xs : List A) (i : ℕ) (x : A) → All P xs → i < length xs → x ≡ get_or xs i x → P x
all_item P xs i x h below here = subst P (sym here) (h i x below)

-- ---- of those that are the same the first
module _ {A : Type 0} (same : A → A → Bool) (trans : (a b c : A) → same a b ≡ true → same b c ≡ true → same a c ≡ true) where
  -- what an element keeps out isn't the same as what it isn't the same as
  apart : (x y z : A) (rest : Bool) → same x z ≡ true → same x y ≡ false → (c : Bool) → same z y ≡ c → rest ≡ (c || rest)
  apart x y z rest e n false f = refl
  apart x y z rest e n true f = absurd (let t = trans x z y e f in cc)

  any_step : (x y z : A) (zs : List A) → same x y ≡ false → (l : List A) → list_any (λ w. same w y) l ≡ list_any (λ w. same w y) zs → (b : Bool) → same x z ≡ b →
      list_any (λ w. same w y) (cond (not b) (z ∷ l) l) ≡ (same z y || list_any (λ w. same w y) zs)
  any_step x y z zs n l h false e = ap (λ r. same z y || r) h
  any_step x y z zs n l h true e = h ∙ apart x y z (list_any (λ w. same w y) zs) e n (same z y) refl

  pub any_kept : (x y : A) (zs : List A) → same x y ≡ false →
      list_any (λ z. same z y) (filter (λ z. not (same x z)) zs) ≡ list_any (λ z. same z y) zs
  any_kept x y [] n = refl
  any_kept x y (z ∷ zs) n = any_step x y z zs n _ (any_kept x y zs n) (same x z) refl

  -- one more element stands at the end, unless it is known
  last : List A → A → List A
  last fs y = cond (list_any (λ z. same z y) fs) [] (y ∷ [])

  last_kept : (x y : A) (fs : List A) → filter (λ z. not (same x z)) (last fs y) ≡ last (x ∷ filter (λ z. not (same x z)) fs) y
  unfolding last
  last_kept x y fs = by_same (same x y) refl
    where
      by_known : (b : Bool) → same x y ≡ false → filter (λ z. not (same x z)) (cond b [] (y ∷ [])) ≡ cond b [] (y ∷ [])
      by_known true n = refl
      by_known false n = rw n refl

      known : (b : Bool) → same x y ≡ true → filter (λ z. not (same x z)) (cond b [] (y ∷ [])) ≡ []
      known true e = refl
      known false e = rw e refl

      by_same : (b : Bool) → same x y ≡ b → filter (λ z. not (same x z)) (last fs y) ≡ cond (b || list_any (λ z. same z y) (filter (λ z. not (same x z)) fs)) [] (y ∷ [])
      by_same true e = known (list_any (λ z. same z y) fs) e
      by_same false n = rw (any_kept x y fs n) (by_known (list_any (λ z. same z y) fs) n)

  firsts_last : (xs : List A) (y : A) → firsts same (xs ++ y ∷ []) ≡ firsts same xs ++ last (firsts same xs) y
  unfolding last
  firsts_last [] y = refl
  firsts_last (x ∷ xs) y =
      ap (λ l. x ∷ filter (λ z. not (same x z)) l) (firsts_last xs y)
      ∙ ap (λ l. x ∷ l) (filter-append (λ z. not (same x z)) (firsts same xs) (last (firsts same xs) y) ∙ ap (λ l. filter (λ z. not (same x z)) (firsts same xs) ++ l) (last_kept x y (firsts same xs)))

  pub firsts_new : (xs : List A) (x : A) (l k : List A) → l ≡ firsts same xs → list_any (λ z. same z x) l ≡ false → k ≡ l ++ x ∷ [] → k ≡ firsts same (xs ++ x ∷ [])
  unfolding last
  firsts_new xs x l k inv e pushed =
      let new = rw inv at e in
      pushed ∙ ap (λ fs. fs ++ x ∷ []) inv ∙ sym (firsts_last xs x ∙ ap (λ (b : Bool). firsts same xs ++ cond b [] (x ∷ [])) new)

  pub firsts_known : (xs : List A) (x : A) (l : List A) → l ≡ firsts same xs → list_any (λ z. same z x) l ≡ true → l ≡ firsts same (xs ++ x ∷ [])
  unfolding last
  firsts_known xs x l inv e =
      let known = rw inv at e in
      inv ∙ sym (firsts_last xs x ∙ ap (λ (b : Bool). firsts same xs ++ cond b [] (x ∷ [])) known ∙ append-nil (firsts same xs))

-- ---- in order
placed_step : {A : Type 0} (at_most : A → A → Bool) (x y : A) (ys : List A) → insert ys (position_or_len (at_most x) ys) x ≡ placed at_most x ys → (b : Bool) → at_most x y ≡ b →
    insert (y ∷ ys) (position_or_len (at_most x) (y ∷ ys)) x ≡ cond b (x ∷ y ∷ ys) (y ∷ placed at_most x ys)
placed_step at_most x y ys h true e = rw e refl
placed_step at_most x y ys h false e =
    let next : 1 + position_or_len (at_most x) ys ≡ suc (position_or_len (at_most x) ys) = omega arith in
    rw (e, next) (ap (λ l. y ∷ l) h)

pub placed_is : {A : Type 0} (at_most : A → A → Bool) (x : A) (ys : List A) → insert ys (position_or_len (at_most x) ys) x ≡ placed at_most x ys
placed_is at_most x [] = refl
placed_is at_most x (y ∷ ys) = placed_step at_most x y ys (placed_is at_most x ys) (at_most x y) refl

pub placed_at : {A : Type 0} (at_most : A → A → Bool) (x : A) (old new : List A) (p : ℕ) → p ≡ position_or_len (at_most x) old → new ≡ insert old p x → new ≡ placed at_most x old
placed_at at_most x old new p at made = made ∙ ap (λ k. insert old k x) at ∙ placed_is at_most x old

-- one more element of a list from its end
pub ordered_more : {A : Type 0} (at_most : A → A → Bool) (xs : List A) (done : ℕ) (x : A) (old new : List A) (p : ℕ) → done < length xs → x ≡ get_or xs (length xs - 1 - done) x →
    old ≡ in_order at_most (drop (length xs - done) xs) → p ≡ position_or_len (at_most x) old → new ≡ insert old p x → new ≡ in_order at_most (drop (length xs - (done + 1)) xs)
ordered_more at_most xs done x old new p here is inv at made =
    let j : ℕ = length xs - 1 - done in
    let before : length xs - done ≡ suc j = omega arith in
    let now : length xs - (done + 1) ≡ j = omega arith in
    let cut : drop j xs ≡ x ∷ drop (suc j) xs = drop-cons xs j x (omega arith) ∙ ap (λ y. y ∷ drop (suc j) xs) (sym is) in
    let rest : old ≡ in_order at_most (drop (suc j) xs) = inv ∙ ap (λ k. in_order at_most (drop k xs)) before in
    placed_at at_most x old new p at made ∙ ap (placed at_most x) rest ∙ ap (in_order at_most) (sym cut) ∙ ap (λ k. in_order at_most (drop k xs)) (sym now)

pub all_tail : {A : Type 0} (P : A → Type 0) (x : A) (xs : List A) → All P (x ∷ xs) → All P xs
all_tail P x xs h k d below = h (suc k) d (omega arith)

pub all_more : {A : Type 0} (P : A → Type 0) (x : A) (xs : List A) → P x → All P xs → All P (x ∷ xs)
all_more P x xs p h zero d below = p
all_more P x xs p h (suc k) d below = h k d (omega arith)

all_either : {A : Type 0} (P : A → Type 0) (b : Bool) (xs ys : List A) → All P xs → All P ys → All P (cond b xs ys)
all_either P true xs ys h k = h
all_either P false xs ys h k = k

pub all_placed : {A : Type 0} (P : A → Type 0) (at_most : A → A → Bool) (x : A) (ys : List A) → P x → All P ys → All P (placed at_most x ys)
all_placed P at_most x [] p h = all_more P x [] p h
all_placed P at_most x (y ∷ ys) p h =
    all_either P (at_most x y) _ _ (all_more P x (y ∷ ys) p h) (all_more P y (placed at_most x ys) (h 0 y (omega arith)) (all_placed P at_most x ys p (all_tail P y ys h)))

-- ---- neighbours
pairs_more : {A : Type 0} (x : A) (ys : List A) (j : ℕ) (d e : A) → j < length ys → pairs_from x (take (j + 1) ys) ≡ pairs_from x (take j ys) ++ (get_or (x ∷ ys) j d, get_or ys j e) ∷ []
pairs_more x [] j d e here = absurd (omega arith)
pairs_more x (y ∷ ys) zero d e here = refl
pairs_more x (y ∷ ys) (suc k) d e here =
    let next : suc k + 1 ≡ suc (k + 1) = omega arith in
    rw next (ap (λ l. (x, y) ∷ l) (pairs_more y ys k d e (omega arith)))

neighbours_at : {A : Type 0} (xs : List A) (i : ℕ) (d e : A) → 1 ≤ i → i < length xs → neighbours (take (i + 1) xs) ≡ neighbours (take i xs) ++ (get_or xs (i - 1) d, get_or xs i e) ∷ []
neighbours_at [] i d e one here = absurd (omega arith)
neighbours_at (x ∷ xs) zero d e one here = absurd (omega arith)
neighbours_at (x ∷ xs) (suc j) d e one here =
    let next : suc j + 1 ≡ suc (j + 1) = omega arith in
    let before : suc j - 1 ≡ j = omega arith in
    rw (next, before) (pairs_more x xs j d e (omega arith))

pub neighbours_more : {A B : Type 0} (f : A × A → B) (xs : List A) (i : ℕ) (low high : A) (l k : List B) (y : B) → 1 ≤ i → i < length xs → low ≡ get_or xs (i - 1) low → high ≡ get_or xs i high →
    l ≡ map f (neighbours (take i xs)) → y ≡ f (low, high) → k ≡ l ++ y ∷ [] → k ≡ map f (neighbours (take (i + 1) xs))
neighbours_more f xs i low high l k y one here is_low is_high inv made pushed =
    let pair : neighbours (take (i + 1) xs) ≡ neighbours (take i xs) ++ (low, high) ∷ [] = neighbours_at xs i low high one here ∙ ap (λ z. neighbours (take i xs) ++ z ∷ []) (ap (λ z. (z, get_or xs i high)) (sym is_low) ∙ ap (λ z. (low, z)) (sym is_high)) in
    pushed ∙ ap (λ m. m ++ y ∷ []) inv ∙ ap (λ z. map f (neighbours (take i xs)) ++ z ∷ []) made ∙ sym (ap (map f) pair ∙ map-append f (neighbours (take i xs)) ((low, high) ∷ []))
