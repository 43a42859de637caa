-- Matrices and what is given for them, one by one.
use Rattle.std.proofs.Common.{◌≡◌, ◌∙◌, sym, ℕ, ◌<◌, ◌≤◌, List, length, get_or, slice_get, Some, arith}
use Rattle.std.specs.List.{zip}
use Rattle.std.proofs.lemmas.Slice.Zip.{get_or-zip, length-zip}
use Rattle.std.proofs.lemmas.Option.{get_or_from_slice_get, slice_get_within}
use Rattle.pb_check.proofs.OrderLemmas.{at_item}

pub pair_at : {A B : Type 0} (xs : List A) (ys : List B) (k : ℕ) (x : A) (y : B) → length ys ≤ length xs → k < length ys → x ≡ get_or xs k x → y ≡ get_or ys k y → slice_get (zip xs ys) k ≡ Some (x, y)
pair_at xs ys k x y enough below is_x is_y =
    at_item (zip xs ys) k (x, y) (omega (arith, length-zip xs ys)) ((λ i. (is_x i, is_y i)) ∙ sym (get_or-zip xs ys k (x, y) (omega arith) below))

pub paired : {A B : Type 0} (xs : List A) (ys : List B) → length ys ≤ length xs → length (zip xs ys) ≡ length ys
paired xs ys enough = omega (arith, length-zip xs ys)

pub both_at : {A B : Type 0} (xs : List A) (ys : List B) (k : ℕ) (x : A) (y : B) → slice_get xs k ≡ Some x → slice_get ys k ≡ Some y → slice_get (zip xs ys) k ≡ Some (x, y)
both_at xs ys k x y at_x at_y =
    let in_x = slice_get_within xs k x at_x in
    let in_y = slice_get_within ys k y at_y in
    let is_x = sym (get_or_from_slice_get xs k x x at_x) in
    let is_y = sym (get_or_from_slice_get ys k y y at_y) in
    at_item (zip xs ys) k (x, y) (omega (arith, length-zip xs ys)) ((λ i. (is_x i, is_y i)) ∙ sym (get_or-zip xs ys k (x, y) in_x in_y))
