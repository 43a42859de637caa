-- Lists side by side.
use Rattle.std.proofs.Common.{◌≡◌, ◌∙◌, refl, sym, ap, ℕ, zero, suc, ◌+◌, ◌<◌, ◌≤◌, List, [], ◌∷◌, ◌++◌, get_or, length, map, slice_get, take, Some, None, Ok, Err, arith}
use Rattle.std.specs.List.{AllZip}
use Rattle.std.specs.Prelude.{Result, OnOk}

pub zip_append : {A B : Type 0} (R : A → B → Type 0) (xs us : List A) (ys vs : List B) → AllZip R xs ys → AllZip R us vs → AllZip R (xs ++ us) (ys ++ vs)
zip_append R [] us [] vs h k = k
zip_append R [] us (y ∷ ys) vs h k = absurd h
zip_append R (x ∷ xs) us [] vs h k = absurd h
zip_append R (x ∷ xs) us (y ∷ ys) vs h k = (h.0, zip_append R xs us ys vs h.1 k)

pub zip_mapped : {A B : Type 0} (R S : A → B → Type 0) (xs : List A) (ys : List B) → ((x : A) (y : B) → R x y → S x y) → AllZip R xs ys → AllZip S xs ys
zip_mapped R S [] [] f h = tt
zip_mapped R S [] (y ∷ ys) f h = absurd h
zip_mapped R S (x ∷ xs) [] f h = absurd h
zip_mapped R S (x ∷ xs) (y ∷ ys) f h = (f x y h.0, zip_mapped R S xs ys f h.1)

pub zip_length : {A B : Type 0} (R : A → B → Type 0) (xs : List A) (ys : List B) → AllZip R xs ys → length xs ≡ length ys
zip_length R [] [] h = refl
zip_length R [] (y ∷ ys) h = absurd h
zip_length R (x ∷ xs) [] h = absurd h
zip_length R (x ∷ xs) (y ∷ ys) h = ap suc (zip_length R xs ys h.1)

-- ---- what is at a place
pub get_left : {A : Type 0} (xs ys : List A) (k : ℕ) (x : A) → slice_get xs k ≡ Some x → slice_get (xs ++ ys) k ≡ Some x
get_left [] ys k x e = absurd (let wrong : None ≡ Some x = e in cc)
get_left (z ∷ xs) ys zero x e = e
get_left (z ∷ xs) ys (suc k) x e = get_left xs ys k x e

pub get_last : {A : Type 0} (xs : List A) (x : A) → slice_get (xs ++ x ∷ []) (length xs) ≡ Some x
get_last [] x = refl
get_last (z ∷ xs) x = get_last xs x

-- an item by its index
pub item_at : {A : Type 0} (xs : List A) (k : ℕ) (x : A) → k < length xs → x ≡ get_or xs k x → slice_get xs k ≡ Some x
item_at [] k x below is = absurd (omega (arith, below))
item_at (y ∷ xs) zero x below is = ap Some (sym is)
item_at (y ∷ xs) (suc k) x below is = item_at xs k x (omega (arith, below)) is

pub take_next : {A : Type 0} (xs : List A) (k : ℕ) (x : A) → slice_get xs k ≡ Some x → take (k + 1) xs ≡ take k xs ++ x ∷ []
take_next [] k x e = absurd (let wrong : None ≡ Some x = e in cc)
take_next (y ∷ xs) zero x e = let some : Some y ≡ Some x = e in let same : y ≡ x = cc in ap (λ z. z ∷ []) same
take_next (y ∷ xs) (suc k) x e = let next : suc k + 1 ≡ suc (k + 1) = omega arith in rw next (ap (λ l. y ∷ l) (take_next xs k x e))

pub take_end : {A : Type 0} (xs : List A) (k : ℕ) → length xs ≤ k → take k xs ≡ xs
take_end [] zero h = refl
take_end [] (suc k) h = refl
take_end (y ∷ xs) zero h = absurd (omega (arith, h))
take_end (y ∷ xs) (suc k) h = ap (λ l. y ∷ l) (take_end xs k (omega (arith, h)))

pub take_at : {A : Type 0} (xs : List A) (k : ℕ) (d : A) → k < length xs → take (k + 1) xs ≡ take k xs ++ get_or xs k d ∷ []
take_at [] k d below = absurd (omega (arith, below))
take_at (y ∷ xs) zero d below = refl
take_at (y ∷ xs) (suc k) d below = let next : suc k + 1 ≡ suc (k + 1) = omega arith in rw next (ap (λ l. y ∷ l) (take_at xs k d (omega (arith, below))))

-- the next of what is made from each
pub next_mapped : {A B : Type 0} (f : A → B) (xs : List A) (k : ℕ) (d : A) → k < length xs → (old new : List B) (y : B) → old ≡ map f (take k xs) → y ≡ f (get_or xs k d) → new ≡ old ++ y ∷ [] → new ≡ map f (take (k + 1) xs)
next_mapped f xs k d below old new y before is added =
    added ∙ (λ i. before i ++ is i ∷ []) ∙ sym (ap (map f) (take_at xs k d below) ∙ map_append f (take k xs) (get_or xs k d ∷ []))
  where
    map_append : {A B : Type 0} (f : A → B) (xs ys : List A) → map f (xs ++ ys) ≡ map f xs ++ map f ys
    map_append f [] ys = refl
    map_append f (x ∷ xs) ys = ap (λ l. f x ∷ l) (map_append f xs ys)

pub ok_then : {A E P Q : Type 0} (r : Result A E) → OnOk r P → (P → Q) → OnOk r Q
ok_then (Ok x) h f = f h
ok_then (Err e) h f = tt

pub get_at : {A : Type 0} (xs : List A) (k : ℕ) (d : A) → k < length xs → slice_get xs k ≡ Some (get_or xs k d)
get_at [] k d below = absurd (omega (arith, below))
get_at (y ∷ xs) zero d below = refl
get_at (y ∷ xs) (suc k) d below = get_at xs k d (omega (arith, below))

pub ok_two : {A E P Q R : Type 0} (r : Result A E) → OnOk r P → OnOk r Q → (P → Q → R) → OnOk r R
ok_two (Ok x) h k f = f h k
ok_two (Err e) h k f = tt

pub ok_always : {A E P : Type 0} (r : Result A E) → P → OnOk r P
ok_always (Ok x) h = h
ok_always (Err e) h = tt

-- what is read at an index of the same list
pub same_at : {A : Type 0} (xs ys : List A) → xs ≡ ys → (k : ℕ) (x y : A) → slice_get ys k ≡ Some x → y ≡ get_or xs k y → y ≡ x
same_at {A} xs ys same k x y at is = is ∙ ap (λ l. get_or l k y) same ∙ by ys k at
  where
    by : (l : List A) (n : ℕ) → slice_get l n ≡ Some x → get_or l n y ≡ x
    by [] n e = absurd (let wrong : None ≡ Some x = e in cc)
    by (z ∷ l) zero e = let some : Some z ≡ Some x = e in cc
    by (z ∷ l) (suc n) e = by l n e

pub at_below : {A : Type 0} (xs : List A) (k : ℕ) (x : A) → slice_get xs k ≡ Some x → k < length xs
at_below [] k x e = absurd (let wrong : None ≡ Some x = e in cc)
at_below (y ∷ xs) zero x e = omega arith
at_below (y ∷ xs) (suc k) x e = let rest = at_below xs k x e in omega (arith, rest)
