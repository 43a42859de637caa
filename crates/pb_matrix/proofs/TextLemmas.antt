-- The text of a row, from its first number on, and the range of its numbers.
use Rattle.std.proofs.Common.{◌≡◌, ◌∙◌, ℕ, suc, ◌+◌, ◌-◌, ◌*◌, ◌<◌, List, [], ◌∷◌, ◌++◌, length, get_or, take, drop, map, flat_map, ℤ, pos, negsuc, ◌^◌, IsTrue, All, w64, SFits, ap, sym, arith}
use Rattle.std.specs.Fmt.{signed_decimal}
use Rattle.std.specs.List.{join_with_byte}
use Rattle.std.proofs.lemmas.List.{append_assoc, append-nil, take-append-drop, length-drop}
use Rattle.std.proofs.lemmas.List.Concat.{flat_map-append}
use Rattle.std.proofs.lemmas.List.Elements.{All-same, All-cons, All-append}
use Rattle.std.proofs.lemmas.Bool.{lt-ltb}
use Rattle.pb_values.specs.Checked.{fits_i64}
use Rattle.pb_matrix.specs.Text.{row_text, rows}

-- a number after a blank
abbrev pub after_blank : ℤ → List ℕ
after_blank z = 32 ∷ signed_decimal z

joined : (z : ℤ) (zs : List ℤ) → join_with_byte 32 (map signed_decimal (z ∷ zs)) ≡ signed_decimal z ++ flat_map after_blank zs
joined z [] = sym (append-nil _)
joined z (y ∷ ys) = ap (λ rest. signed_decimal z ++ 32 ∷ rest) (joined y ys)

row_begins : (row : List ℤ) → 0 < length row → row_text row ≡ (signed_decimal (get_or row 0 (pos 0)) ++ flat_map after_blank (drop 1 row)) ++ 10 ∷ []
row_begins [] some = absurd (omega arith)
row_begins (z ∷ zs) some = ap (λ text. text ++ 10 ∷ []) (joined z zs)

-- a row: its first number, then the others, each after a blank, and its end
pub row_whole : (old first text new : List ℕ) (row : List ℤ) → 0 < length row → first ≡ old ++ signed_decimal (get_or row 0 (pos 0)) → text ≡ first ++ flat_map after_blank (drop 1 row) → new ≡ text ++ 10 ∷ [] → new ≡ old ++ row_text row
row_whole old first text new row some f t w = rw (w, t, f, row_begins row some) (simp append_assoc)

-- some numbers, and those after them
pub numbers_more : (text piece new : List ℕ) (rest some after : List ℤ) (n : ℕ) → some ≡ take n rest → after ≡ drop n rest → piece ≡ flat_map after_blank some → new ≡ text ++ piece → new ++ flat_map after_blank after ≡ text ++ flat_map after_blank rest
numbers_more text piece new rest some after n s a p e =
    rw (e, p, s, a) (append_assoc text (flat_map after_blank (take n rest)) (flat_map after_blank (drop n rest)) ∙ ap (λ l. text ++ l) (sym (flat_map-append after_blank (take n rest) (drop n rest)) ∙ ap (flat_map after_blank) (take-append-drop n rest)))

-- a row, and the rows after it
pub row_more : (h k w : ℕ) (rest row after : List ℤ) (text new : List ℕ) → k < h → length rest ≡ (h - k) * w → row ≡ take w rest → after ≡ drop w rest → new ≡ text ++ row_text row
    → (length after ≡ (h - (k + 1)) * w) × (new ++ flat_map row_text (rows (h - (k + 1)) w after) ≡ text ++ flat_map row_text (rows (h - k) w rest))
row_more h k w rest row after text new l count r b n =
    let left : h - k ≡ suc (h - (k + 1)) = omega arith in
    let all : length rest ≡ suc (h - (k + 1)) * w = rw (← left) count in
    (rw b (omega (arith, length-drop w rest, all)), rw (n, r, b, left) (append_assoc text (row_text (take w rest)) (flat_map row_text (rows (h - (k + 1)) w (drop w rest)))))

-- numbers of 64 bits
abbrev pub Fits : ℤ → Type 0
Fits z = IsTrue (fits_i64 z)

abbrev pub AllFit : List ℤ → Type 0
AllFit cells = All Fits cells

pub in_range : (z : ℤ) → SFits w64 z → Fits z
in_range (pos n) h = lt-ltb n (2 ^ 63) h.sfits
in_range (negsuc n) h = lt-ltb n (2 ^ 63) h.sfits

pub row_fits : (row : List ℤ) → 0 < length row → SFits w64 (get_or row 0 (pos 0)) → AllFit (drop 1 row) → AllFit row
row_fits [] some first fits = absurd (omega arith)
row_fits (z ∷ zs) some first fits = All-cons Fits z zs (in_range z first) fits

pub rest_fits : (w : ℕ) (rest row after : List ℤ) → row ≡ take w rest → after ≡ drop w rest → AllFit row → AllFit after → AllFit rest
rest_fits w rest row after r b fits later = All-same Fits rest (row ++ after) (rw (r, b) (sym (take-append-drop w rest))) (All-append Fits row after fits later)
