-- What stands at a place of a matrix that is listed row by row.
use Rattle.std.proofs.Common.{◌≡◌, ◌∙◌, refl, ap, ℕ, zero, suc, ◌+◌, ◌*◌, ◌<◌, List, [], ◌∷◌, ◌++◌, length, map, slice_get, Some, arith}
use Rattle.std.specs.List.{flat_map, range_with_len}

left_of : {A : Type 0} (xs ys : List A) (k : ℕ) → k < length xs → slice_get (xs ++ ys) k ≡ slice_get xs k
left_of [] ys k h = absurd (omega arith)
left_of (x ∷ xs) ys zero h = refl
left_of (x ∷ xs) ys (suc k) h = left_of xs ys k (omega arith)

right_of : {A : Type 0} (xs ys : List A) (k : ℕ) → slice_get (xs ++ ys) (length xs + k) ≡ slice_get ys k
right_of [] ys k = let e : 0 + k ≡ k = omega arith in ap (slice_get ys) e
right_of (x ∷ xs) ys k = let e : suc (length xs) + k ≡ suc (length xs + k) = omega arith in rw e (right_of xs ys k)

-- the number at a place of a range
pub range_at : {A : Type 0} (f : ℕ → A) (a n k : ℕ) → k < n → slice_get (map f (range_with_len a n)) k ≡ Some (f (a + k))
range_at f a zero k h = absurd (omega arith)
range_at f a (suc n) zero h = let e : a + 0 ≡ a = omega arith in rw e refl
range_at f a (suc n) (suc k) h = let e : a + 1 + k ≡ a + suc k = omega arith in range_at f (a + 1) n k (omega arith) ∙ ap (λ i. Some (f i)) e

-- rows of one length, one after another
pub row_at : {A : Type 0} (g : ℕ → List A) (w : ℕ) → ((k : ℕ) → length (g k) ≡ w) → (a h x y : ℕ) → x < w → y < h → slice_get (flat_map g (range_with_len a h)) (y * w + x) ≡ slice_get (g (a + y)) x
row_at g w same a zero x y inside below = absurd (omega arith)
row_at g w same a (suc h) x zero inside below =
    let e : a + 0 ≡ a = omega arith in
    let here : 0 * w + x ≡ x = omega arith in
    rw (here, e) (left_of (g a) (flat_map g (range_with_len (a + 1) h)) x (omega (arith, same a)))
row_at g w same a (suc h) x (suc y) inside below =
    let e : a + 1 + y ≡ a + suc y = omega arith in
    let here : suc y * w + x ≡ length (g a) + (y * w + x) = omega (arith, same a) in
    rw here (right_of (g a) (flat_map g (range_with_len (a + 1) h)) (y * w + x)) ∙ row_at g w same (a + 1) h x y inside (omega arith) ∙ ap (λ k. slice_get (g k) x) e

length_range : {A : Type 0} (f : ℕ → A) (a n : ℕ) → length (map f (range_with_len a n)) ≡ n
length_range f a zero = refl
length_range f a (suc n) = ap suc (length_range f (a + 1) n)

-- a matrix by its places
pub place_at : {A : Type 0} (f : ℕ → ℕ → A) (w h x y : ℕ) → x < w → y < h → slice_get (flat_map (λ y. map (λ x. f x y) (range_with_len 0 w)) (range_with_len 0 h)) (y * w + x) ≡ Some (f x y)
place_at f w h x y inside below =
    let ex : 0 + x ≡ x = omega arith in
    let ey : 0 + y ≡ y = omega arith in
    row_at (λ y. map (λ x. f x y) (range_with_len 0 w)) w (λ k. length_range (λ x. f x k) 0 w) 0 h x y inside below ∙ range_at (λ x. f x (0 + y)) 0 w x inside ∙ rw (ex, ey) refl
