-- Numbers that are put into a buffer from the last to the first.
use Rattle.std.proofs.Common.{◌≡◌, ◌∙◌, refl, ℕ, suc, ◌+◌, ◌-◌, ◌<◌, ◌≤◌, List, [], ◌∷◌, ◌++◌, length, get_or, set, take, drop, flat_map, ℤ, pos, negsuc, true, false, ap, arith, drop-cons}
use Rattle.std.specs.Prelude.{decimal, int_lt, unsigned_abs}
use Rattle.std.specs.Fmt.{signed_decimal}
use Rattle.std.proofs.lemmas.List.{drop-set, drop_all, length-drop, take_all}
use Rattle.std.proofs.lemmas.List.Elements.{All-cons}
use Rattle.pb_matrix.proofs.TextLemmas.{AllFit, Fits, after_blank}

pub to_end : (buffer : List ℕ) (start n : ℕ) → length buffer ≤ start + n → take n (drop start buffer) ≡ drop start buffer
to_end buffer start n long = take_all n (drop start buffer) (omega (arith, length-drop start buffer, long))

none_left : (ns : List ℤ) → drop (length ns - 0) ns ≡ []
none_left ns = drop_all (length ns - 0) ns (omega arith)

pub none_put : (ns : List ℤ) (buffer : List ℕ) (end : ℕ) → length buffer ≤ end → drop end buffer ≡ flat_map after_blank (drop (length ns - 0) ns)
none_put ns buffer end long = rw (none_left ns) (drop_all end buffer long)

pub none_fit : (ns : List ℤ) → AllFit (drop (length ns - 0) ns)
none_fit ns = rw (none_left ns) (λ k d below. absurd (omega (arith, below)))

-- the number before those that were put
next_left : (ns : List ℤ) (k : ℕ) → k < length ns → drop (length ns - (k + 1)) ns ≡ get_or ns (length ns - 1 - k) (pos 0) ∷ drop (length ns - k) ns
next_left ns k below =
    let here : length ns - 1 - k ≡ length ns - (k + 1) = omega arith in
    let next : suc (length ns - (k + 1)) ≡ length ns - k = omega (arith, below) in
    rw here (drop-cons ns (length ns - (k + 1)) (pos 0) (omega (arith, below)) ∙ ap (λ i. get_or ns (length ns - (k + 1)) (pos 0) ∷ drop i ns) next)

pub one_put : (ns : List ℤ) (k at start : ℕ) (z : ℤ) (before buffer : List ℕ) → k < length ns → z ≡ get_or ns (length ns - 1 - k) (pos 0) → 0 < start → start ≤ length buffer
    → drop start buffer ≡ signed_decimal z ++ drop at before → drop at before ≡ flat_map after_blank (drop (length ns - k) ns)
    → drop (start - 1) (set buffer (start - 1) 32) ≡ flat_map after_blank (drop (length ns - (k + 1)) ns)
one_put ns k at start z before buffer below is some within put was =
    let e : start - 1 + 1 ≡ start = omega (arith, some) in
    rw (drop-set buffer (start - 1) 32 (omega (arith, some, within)), e, put, was, next_left ns k below, is) refl

pub one_fits : (ns : List ℤ) (k : ℕ) → k < length ns → Fits (get_or ns (length ns - 1 - k) (pos 0)) → AllFit (drop (length ns - k) ns) → AllFit (drop (length ns - (k + 1)) ns)
one_fits ns k below fits later = rw (next_left ns k below) (All-cons Fits (get_or ns (length ns - 1 - k) (pos 0)) (drop (length ns - k) ns) fits later)

-- ---- the sign of a number
pub sign_put : (z : ℤ) → int_lt z (pos 0) ≡ true → 45 ∷ decimal (unsigned_abs z) ≡ signed_decimal z
sign_put (pos n) e = absurd (grind (arith, e))
sign_put (negsuc n) e = refl

pub sign_left : (z : ℤ) → int_lt z (pos 0) ≡ false → decimal (unsigned_abs z) ≡ signed_decimal z
sign_left (pos n) e = refl
sign_left (negsuc n) e = absurd (cc)
