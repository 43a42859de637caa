-- The lines of a text, one at a time.
use Rattle.std.proofs.Common.{◌≡◌, ℕ, ◌+◌, ◌<◌, Bool, true, false, not, List, [], ◌∷◌, length, get_or, take, drop, ◌==◌, refl, arith}
use Rattle.std.specs.List.{slice_split, position_or_len, before_first, after_first}
use Rattle.std.specs.Str.Lines.{lines, strip_carriage_return}
use Rattle.std.proofs.Math.Numerals.{one-add}
use Rattle.std.proofs.lemmas.List.{drop_more, take_all, drop_all, length-take-le}
use Rattle.std.proofs.lemmas.List.Sums.{prefix_len-le-length}
use Rattle.std.proofs.lemmas.Bool.Decides.{nat_tests}
use Rattle.pb_config.specs.Parts.{is_line_end}

-- the parts after the first part
abbrev pub rest_parts : (ℕ → Bool) → List ℕ → List (List ℕ)
rest_parts p [] = []
rest_parts p (_ ∷ more) = slice_split p more

module _ (p : ℕ → Bool) where
  pub first_part : (xs : List ℕ) → slice_split p xs ≡ take (position_or_len p xs) xs ∷ rest_parts p (drop (position_or_len p xs) xs)
  first_part [] = refl
  first_part (x ∷ xs) = step (p x) refl (first_part xs)
    where
      step : (b : Bool) → p x ≡ b → slice_split p xs ≡ take (position_or_len p xs) xs ∷ rest_parts p (drop (position_or_len p xs) xs)
          → slice_split p (x ∷ xs) ≡ take (position_or_len p (x ∷ xs)) (x ∷ xs) ∷ rest_parts p (drop (position_or_len p (x ∷ xs)) (x ∷ xs))
      step true e h = rw e refl
      step false e h = rw (e, h, one-add) refl

not_zero : (n : ℕ) → 0 < n → (n == 0) ≡ false
not_zero n h = grind (arith, nat_tests)

-- a line that an LF ends
pub ended_line : (text line rest : List ℕ) → line ≡ before_first is_line_end text → rest ≡ after_first is_line_end text → (length line ≡ length text → ⊥)
    → lines text ≡ strip_carriage_return line ∷ lines rest
ended_line text line rest l r ended =
    let n = position_or_len is_line_end text in
    let most = prefix_len-le-length (λ b. not (is_line_end b)) text in
    let whole : length line ≡ n = rw l (length-take-le n text most) in
    let cut : drop n text ≡ get_or text n 0 ∷ drop (n + 1) text = drop_more text n 0 (omega (arith, most)) in
    rw (l, r, first_part is_line_end text, cut, first_part is_line_end (after_first is_line_end text)) refl

-- the last line, where no LF ends it
pub last_line : (text line rest : List ℕ) → line ≡ before_first is_line_end text → rest ≡ after_first is_line_end text → length line ≡ length text → 0 < length text
    → lines text ≡ line ∷ lines rest
last_line text line rest l r unended some =
    let n = position_or_len is_line_end text in
    let whole : length line ≡ n = rw l (length-take-le n text (prefix_len-le-length (λ b. not (is_line_end b)) text)) in
    let here : before_first is_line_end text ≡ text = take_all n text (omega arith) in
    rw (l, r, first_part is_line_end text, drop_all n text (omega arith), drop_all (n + 1) text (omega arith), here, not_zero (length text) some) refl
