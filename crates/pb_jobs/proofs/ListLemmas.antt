-- Lists place by place, and side by side.
use Rattle.std.proofs.Common.{◌≡◌, ◌∙◌, refl, sym, ap, subst, ⊎_elim, ℕ, zero, suc, ◌+◌, ◌<◌, ◌≤◌, List, [], ◌∷◌, ◌++◌, length, map, take, drop, get_or, slice_get, Option, Some, None, IfSome, add-one, add-zero, arith}
use Rattle.std.specs.Prelude.{slice_index_or}
use Rattle.std.specs.List.{All, AllZip, Contains, flat_map}
use Rattle.std.proofs.Math.Seq.{take-suc}
use Rattle.std.proofs.lemmas.Bool.{cases_lt}
use Rattle.std.proofs.lemmas.List.{map-append}
use Rattle.std.proofs.lemmas.Option.{get_or_from_slice_get, slice_get-get_or, slice_get_within}
use Rattle.pb_base.proofs.ListLemmas.{in_at}
use Rattle.pb_taskgraph.proofs.TurnLemmas.{slice_get-drop}

pub some_at : {A : Type 0} (xs : List A) (k : ℕ) → k < length xs → (x : A) × (slice_get xs k ≡ Some x)
some_at [] k below = absurd (omega arith)
some_at (x ∷ xs) zero below = (x, refl)
some_at (x ∷ xs) (suc k) below = some_at xs k (omega arith)

pub some_same : {A : Type 0} (x y : A) → Some x ≡ Some y → x ≡ y
some_same x y e = cc

pub all_at : {A : Type 0} (P : A → Type 0) (xs : List A) (k : ℕ) (x : A) → All P xs → slice_get xs k ≡ Some x → P x
all_at P xs k x h at = subst P (get_or_from_slice_get xs k x x at) (h k x (slice_get_within xs k x at))

pub all_contained : {A : Type 0} (P : A → Type 0) (xs : List A) → ((x : A) → Contains xs x → P x) → All P xs
all_contained P xs f k d below = f (get_or xs k d) (in_at xs k (get_or xs k d) (slice_get-get_or xs k d below))

pub all_weaker : {A : Type 0} (P Q : A → Type 0) (xs : List A) → ((x : A) → P x → Q x) → All P xs → All Q xs
all_weaker P Q xs f h k d below = f (get_or xs k d) (h k d below)

pub at_map : {A B : Type 0} (f : A → B) (xs : List A) (k : ℕ) (x : A) → slice_get xs k ≡ Some x → slice_get (map f xs) k ≡ Some (f x)
at_map f [] k x e = absurd (cc)
at_map f (y ∷ xs) zero x e = ap (λ z. Some (f z)) (some_same y x e)
at_map f (y ∷ xs) (suc k) x e = at_map f xs k x e

pub map_over : {A B C : Type 0} (f : B → C) (g : A → B) (xs : List A) → map f (map g xs) ≡ map (λ x. f (g x)) xs
map_over f g [] = refl
map_over f g (x ∷ xs) = ap (λ l. f (g x) ∷ l) (map_over f g xs)

-- ---- an element that an index gives
pub item_at : {A : Type 0} (xs ys : List A) (k : ℕ) (x : A) → xs ≡ ys → k < length ys → x ≡ slice_index_or xs k x → slice_get ys k ≡ Some x
item_at xs ys k x e below is = slice_get-get_or ys k x below ∙ ap Some (sym (is ∙ ap (λ l. slice_index_or l k x) e))

pub of_item : {A : Type 0} (P : A → Type 0) (xs : List A) (i : ℕ) (x : A) → i < length xs → x ≡ get_or xs i x → All P xs → P x
of_item P xs i x below is h = subst P (sym is) (h i x below)

taken_next : {A : Type 0} (xs : List A) (i : ℕ) (x : A) → i < length xs → x ≡ get_or xs i x → take (i + 1) xs ≡ take i xs ++ x ∷ []
taken_next xs i x below is = rw (add-one) (take-suc xs i x below ∙ ap (λ z. take i xs ++ z ∷ []) (sym is))

-- ---- what is left of a list
pub first_left : {A : Type 0} (xs left : List A) (n : ℕ) (x : A) → left ≡ drop n xs → slice_get left 0 ≡ Some x → slice_get xs n ≡ Some x
first_left xs left n x e at = ap (slice_get xs) (sym (add-zero n)) ∙ sym (slice_get-drop n 0 xs) ∙ ap (λ l. slice_get l 0) (sym e) ∙ at

pub none_left : {A : Type 0} (xs left : List A) (n : ℕ) → left ≡ drop n xs → slice_get left 0 ≡ None → length xs ≤ n
none_left xs left n e at = ⊎_elim
    (λ (less : n < length xs).
    let x = some_at xs n less in
    absurd (let both : None ≡ Some x.0 = sym at ∙ ap (λ l. slice_get l 0) e ∙ slice_get-drop n 0 xs ∙ ap (slice_get xs) (add-zero n) ∙ x.1 in cc))
    (λ (more : length xs ≤ n). more)
    (cases_lt n (length xs))

-- ---- side by side
pub same_maps : {A B C : Type 0} (f : A → C) (g : B → C) (xs : List A) (ys : List B) → length xs ≡ length ys → ((k : ℕ) (x : A) (y : B) → slice_get xs k ≡ Some x → slice_get ys k ≡ Some y → f x ≡ g y) → map f xs ≡ map g ys
same_maps f g [] [] h each = refl
same_maps f g [] (y ∷ ys) h each = absurd (omega (arith, h))
same_maps f g (x ∷ xs) [] h each = absurd (omega (arith, h))
same_maps f g (x ∷ xs) (y ∷ ys) h each = rw (each 0 x y refl refl, same_maps f g xs ys (omega (arith, h)) (λ k u v e d. each (suc k) u v e d)) refl

pub same_flats : {A B C : Type 0} (f : A → List C) (g : B → List C) (xs : List A) (ys : List B) → length xs ≡ length ys → ((k : ℕ) (x : A) (y : B) → slice_get xs k ≡ Some x → slice_get ys k ≡ Some y → f x ≡ g y) → flat_map f xs ≡ flat_map g ys
same_flats f g [] [] h each = refl
same_flats f g [] (y ∷ ys) h each = absurd (omega (arith, h))
same_flats f g (x ∷ xs) [] h each = absurd (omega (arith, h))
same_flats f g (x ∷ xs) (y ∷ ys) h each = rw (each 0 x y refl refl, same_flats f g xs ys (omega (arith, h)) (λ k u v e d. each (suc k) u v e d)) refl

module _ {A B : Type 0} (R : A → B → Type 0) where
  pub zip_length : (xs : List A) (ys : List B) → AllZip R xs ys → length xs ≡ length ys
  zip_length [] [] h = refl
  zip_length [] (y ∷ ys) h = absurd h
  zip_length (x ∷ xs) [] h = absurd h
  zip_length (x ∷ xs) (y ∷ ys) h = ap suc (zip_length xs ys h.1)

  pub zip_both : (xs : List A) (ys : List B) → AllZip R xs ys → (k : ℕ) (x : A) (y : B) → slice_get xs k ≡ Some x → slice_get ys k ≡ Some y → R x y
  zip_both [] ys h k x y e d = absurd (cc)
  zip_both (w ∷ xs) [] h k x y e d = absurd h
  zip_both (w ∷ xs) (z ∷ ys) h zero x y e d = subst (R x) (some_same z y d) (subst (λ a. R a z) (some_same w x e) h.0)
  zip_both (w ∷ xs) (z ∷ ys) h (suc k) x y e d = zip_both xs ys h.1 k x y e d

  pub at_zip : (xs : List A) (ys : List B) → AllZip R xs ys → (k : ℕ) (x : A) → slice_get xs k ≡ Some x → (y : B) × (slice_get ys k ≡ Some y) × R x y
  at_zip [] ys h k x e = absurd (cc)
  at_zip (w ∷ xs) [] h k x e = absurd h
  at_zip (w ∷ xs) (z ∷ ys) h zero x e = (z, refl, subst (λ a. R a z) (some_same w x e) h.0)
  at_zip (w ∷ xs) (z ∷ ys) h (suc k) x e = at_zip xs ys h.1 k x e

  zip_more : (xs : List A) (ys : List B) (x : A) (y : B) → AllZip R xs ys → R x y → AllZip R (xs ++ x ∷ []) (ys ++ y ∷ [])
  zip_more [] [] x y h r = (r, tt)
  zip_more [] (z ∷ ys) x y h r = absurd h
  zip_more (w ∷ xs) [] x y h r = absurd h
  zip_more (w ∷ xs) (z ∷ ys) x y h r = (h.0, zip_more xs ys x y h.1 r)

-- one element more of a list, of which another is made
pub zip_next : {A B C : Type 0} (f : C → A) (R : A → B → Type 0) (xs : List C) (i : ℕ) (x : C) (old : List B) (y : B) (new : List B) → i < length xs → x ≡ get_or xs i x → R (f x) y
    → AllZip R (map f (take i xs)) old → new ≡ old ++ y ∷ [] → AllZip R (map f (take (i + 1) xs)) new
zip_next f R xs i x old y new below is r h e =
    let more : map f (take (i + 1) xs) ≡ map f (take i xs) ++ f x ∷ [] = ap (map f) (taken_next xs i x below is) ∙ map-append f (take i xs) (x ∷ []) in
    subst (AllZip R (map f (take (i + 1) xs))) (sym e) (subst (λ l. AllZip R l (old ++ y ∷ [])) (sym more) (zip_more R (map f (take i xs)) old (f x) y h r))

-- what follows from what is so of something that is there
pub some_else : {A : Type 0} {P Q : A → Type 0} (o : Option A) → ((a : A) → P a → Q a) → IfSome o P → IfSome o Q
some_else None f h = h
some_else (Some a) f h = f a h
