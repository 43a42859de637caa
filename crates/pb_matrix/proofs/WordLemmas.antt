-- How the words of a text follow from its first word, and from its parts.
use Rattle.std.proofs.Common.{◌≡◌, ℕ, ◌<◌, Bool, true, false, List, [], ◌∷◌, ◌++◌, length, take, drop, refl, sym, ap, ◌∙◌, arith}
use Rattle.std.specs.List.{slice_split, position_or_len, before_first, after_first, filter}
use Rattle.std.proofs.Math.Numerals.{one-add}
use Rattle.std.proofs.lemmas.List.{drop-drop, nil_from_length}
use Rattle.std.proofs.lemmas.List.Elements.{filter-append}
use Rattle.pb_matrix.specs.Words.{has_bytes, words}

-- the parts after the first part
abbrev pub rest_parts : (ℕ → Bool) → List ℕ → List (List ℕ)
rest_parts p [] = []
rest_parts p (_ ∷ more) = slice_split p more

pub some_bytes : (ds : List ℕ) → 0 < length ds → has_bytes ds ≡ true
some_bytes [] h = absurd (omega arith)
some_bytes (_ ∷ _) h = refl

module _ (p : ℕ → Bool) where
  pub first_part : (xs : List ℕ) → slice_split p xs ≡ take (position_or_len p xs) xs ∷ rest_parts p (drop (position_or_len p xs) xs)
  first_part [] = refl
  first_part (x ∷ xs) = step (p x) refl (first_part xs)
    where
      step : (b : Bool) → p x ≡ b → slice_split p xs ≡ take (position_or_len p xs) xs ∷ rest_parts p (drop (position_or_len p xs) xs)
          → slice_split p (x ∷ xs) ≡ take (position_or_len p (x ∷ xs)) (x ∷ xs) ∷ rest_parts p (drop (position_or_len p (x ∷ xs)) (x ∷ xs))
      step true e h = rw e refl
      step false e h = rw (e, h, one-add) refl

  rest_words : (xs : List ℕ) → filter has_bytes (rest_parts p xs) ≡ words p (drop 1 xs)
  rest_words [] = refl
  rest_words (_ ∷ _) = refl

  -- the words after the first part
  after_words : (xs : List ℕ) → filter has_bytes (rest_parts p (drop (position_or_len p xs) xs)) ≡ words p (after_first p xs)
  after_words xs = rest_words (drop (position_or_len p xs) xs) ∙ ap (words p) (drop-drop 1 (position_or_len p xs) xs)

  -- where the first part has bytes, it is a word
  pub one_word : (xs word after : List ℕ) → word ≡ before_first p xs → after ≡ after_first p xs → 0 < length word → words p xs ≡ word ∷ words p after
  one_word xs word after w b some = let bytes : has_bytes (before_first p xs) ≡ true = rw w at (some_bytes word some) in rw (w, b, first_part xs, bytes, after_words xs) refl

  -- and else there is none before the cut
  pub no_word : (xs word after : List ℕ) → word ≡ before_first p xs → after ≡ after_first p xs → length word ≡ 0 → words p xs ≡ words p after
  no_word xs word after w b none = let empty : before_first p xs ≡ [] = sym w ∙ nil_from_length word none in rw (b, first_part xs, empty, after_words xs) refl

  -- a text cut at a byte that passes
  slice_split-append : (xs ys : List ℕ) (s : ℕ) → p s ≡ true → slice_split p (xs ++ s ∷ ys) ≡ slice_split p xs ++ slice_split p ys
  slice_split-append [] ys s e = rw e refl
  slice_split-append (x ∷ xs) ys s e = step (p x) refl (slice_split-append xs ys s e)
    where
      step : (b : Bool) → p x ≡ b → slice_split p (xs ++ s ∷ ys) ≡ slice_split p xs ++ slice_split p ys → slice_split p (x ∷ xs ++ s ∷ ys) ≡ slice_split p (x ∷ xs) ++ slice_split p ys
      step true q h = rw q (rw h refl)
      step false q h = rw (q, h, first_part xs) refl

  pub words-append : (xs ys : List ℕ) (s : ℕ) → p s ≡ true → words p (xs ++ s ∷ ys) ≡ words p xs ++ words p ys
  words-append xs ys s e = rw (slice_split-append xs ys s e, filter-append) refl
