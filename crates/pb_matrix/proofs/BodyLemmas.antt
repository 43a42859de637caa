-- Reading the words of a body from left to right is what the body says.
use Rattle.std.proofs.Common.{◌≡◌, ℕ, ◌+◌, ◌-◌, ◌<◌, ◌≤◌, Bool, true, false, List, [], ◌∷◌, ◌++◌, length, take, map, filter_map, ℤ, Option, Some, None, suc, zero-le, Result, Ok, Err, nat_lt, ◌==◌, if◌then◌else◌, refl, sym, ap, ◌∙◌, arith}
use Rattle.std.specs.List.{position_from}
use Rattle.std.specs.Option.{option_map_or}
use Rattle.std.proofs.lemmas.List.{append-nil, append_assoc, take_all, take_at, length-append, length-map, map_push}
use Rattle.std.proofs.lemmas.Bool.{eqb-true, eqb-false, le-ltb, lt-ltb}
use Rattle.std.proofs.Math.Seq.{take-append-add}
use Rattle.pb_values.specs.declared.shape.Shape.{Shape}
use Rattle.pb_matrix.specs.Words.{cell_number, is_faulty}
use Rattle.pb_matrix.specs.Header.{cell_count}
use Rattle.pb_matrix.specs.Value.{MatrixValue}
use Rattle.pb_matrix.specs.Spelling.{SpellsCells}
use Rattle.pb_matrix.specs.Reading.{body_read}
use Rattle.pb_matrix.specs.declared.matrix.MatrixRefusal.{MatrixRefusal}
use Rattle.pb_matrix.specs.declared.matrix.MatrixRefusal.TheVariants.{BadNumber, TooFew, TooMany}

-- what the numbers of words say after the cells that were read; a faulty word has none
abbrev pub read_on : Shape → List ℤ → List (Option ℤ) → Result MatrixValue MatrixRefusal
read_on s cells [] =
    if nat_lt (length cells) (cell_count s) then Err (TooFew (cell_count s) (length cells)) else Ok (record { shape = s; cells = cells })
read_on s cells (number ∷ numbers) =
    if length cells == cell_count s then Err (TooMany (cell_count s))
    else option_map_or (λ z. read_on s (cells ++ z ∷ []) numbers) number (Err (BadNumber (length cells)))

-- among words that spell cells none is faulty
past_cells : (done rest : List (List ℕ)) (cells : List ℤ) (i : ℕ) → SpellsCells done cells
    → position_from is_faulty i (done ++ rest) ≡ position_from is_faulty (i + length done) rest
past_cells [] rest cells i e = ap (λ n. position_from is_faulty n rest) (omega arith)
past_cells (w ∷ ws) rest [] i e = absurd (cc)
past_cells (w ∷ ws) rest (z ∷ zs) i e =
    let number : cell_number w ≡ Some z = cc in
    rw number (past_cells ws rest zs (i + 1) (cc) ∙ ap (λ n. position_from is_faulty n rest) (omega arith))

none_faulty : (done : List (List ℕ)) (cells : List ℤ) → SpellsCells done cells → position_from is_faulty 0 done ≡ None
none_faulty done cells e = sym (ap (position_from is_faulty 0) (append-nil done)) ∙ past_cells done [] cells 0 e

numbers_done : (done : List (List ℕ)) (cells : List ℤ) → SpellsCells done cells → filter_map cell_number done ≡ cells
numbers_done [] [] e = refl
numbers_done [] (z ∷ zs) e = absurd (cc)
numbers_done (w ∷ ws) [] e = absurd (cc)
numbers_done (w ∷ ws) (z ∷ zs) e =
    let number : cell_number w ≡ Some z = cc in
    rw number (ap (λ rest. z ∷ rest) (numbers_done ws zs (cc)))

pub same_length : (done : List (List ℕ)) (cells : List ℤ) → SpellsCells done cells → length done ≡ length cells
same_length done cells e = sym (length-map done cell_number) ∙ ap length e ∙ length-map cells Some

module _ (s : Shape) where
  -- the words end
  pub at_end : (done : List (List ℕ)) (cells : List ℤ) → SpellsCells done cells → length cells ≤ cell_count s → read_on s cells [] ≡ body_read s done
  at_end done cells e fits =
      let few : length done ≤ cell_count s = omega (arith, same_length done cells e) in
      let over : nat_lt (cell_count s) (length cells) ≡ false = le-ltb (cell_count s) (length cells) fits in
      rw (take_all (cell_count s) done few, none_faulty done cells e, same_length done cells e, over, numbers_done done cells e) refl

  -- a further word
  one_more : (done : List (List ℕ)) (cells : List ℤ) (w : List ℕ) (ws : List (List ℕ)) → SpellsCells done cells → length cells ≡ cell_count s
      → Err (TooMany (cell_count s)) ≡ body_read s (done ++ w ∷ ws)
  one_more done cells w ws e full =
      let count : length done ≡ cell_count s = same_length done cells e ∙ full in
      let more : cell_count s < length (done ++ w ∷ ws) = omega (arith, length-append done (w ∷ ws), count) in
      let under = le-ltb (length (done ++ w ∷ ws)) (cell_count s) (omega arith) in
      rw (take_at done (w ∷ ws) (cell_count s) count, none_faulty done cells e, under, lt-ltb (cell_count s) (length (done ++ w ∷ ws)) more) refl

  -- a word that is no number
  one_faulty : (done : List (List ℕ)) (cells : List ℤ) (w : List ℕ) (ws : List (List ℕ)) → SpellsCells done cells → length cells < cell_count s → cell_number w ≡ None
      → Err (BadNumber (length cells)) ≡ body_read s (done ++ w ∷ ws)
  one_faulty done cells w ws e short none =
      let m = cell_count s - length done - 1 in
      let count : cell_count s ≡ length done + suc m = omega (arith, same_length done cells e) in
      let wanted : take (cell_count s) (done ++ w ∷ ws) ≡ done ++ w ∷ take m ws = ap (λ n. take n (done ++ w ∷ ws)) count ∙ take-append-add done (w ∷ ws) (suc m) in
      rw (wanted, past_cells done (w ∷ take m ws) cells 0 e, none) (ap (λ n. Err (BadNumber n)) (omega (arith, same_length done cells e)))

  next_number : (done : List (List ℕ)) (cells : List ℤ) (w : List ℕ) (z : ℤ) → SpellsCells done cells → cell_number w ≡ Some z → SpellsCells (done ++ w ∷ []) (cells ++ z ∷ [])
  next_number done cells w z e number = rw (map_push cell_number done w, map_push Some cells z, e, number) refl

  -- after these words, whatever cells they spell, reading goes on to what the whole says
  abbrev ReadsOn : List (List ℕ) → List (List ℕ) → Type 0
  ReadsOn done ws = (cells : List ℤ) → SpellsCells done cells → length cells ≤ cell_count s → read_on s cells (map cell_number ws) ≡ body_read s (done ++ ws)

  reads_on : (ws done : List (List ℕ)) → ReadsOn done ws
  reads_on [] done cells e fits = rw append-nil (at_end done cells e fits)
  reads_on (w ∷ ws) done cells e fits = by_count (length cells == cell_count s) refl (reads_on ws (done ++ w ∷ []))
    where
      by_word : (o : Option ℤ) → cell_number w ≡ o → length cells < cell_count s → ReadsOn (done ++ w ∷ []) ws
          → option_map_or (λ z. read_on s (cells ++ z ∷ []) (map cell_number ws)) (cell_number w) (Err (BadNumber (length cells))) ≡ body_read s (done ++ w ∷ ws)
      by_word None none short rest = rw none (one_faulty done cells w ws e short none)
      by_word (Some z) number short rest =
          rw number (rest (cells ++ z ∷ []) (next_number done cells w z e number) (omega (arith, length-append cells (z ∷ []))) ∙ ap (body_read s) (append_assoc done (w ∷ []) ws))

      by_count : (b : Bool) → (length cells == cell_count s) ≡ b → ReadsOn (done ++ w ∷ []) ws → read_on s cells (map cell_number (w ∷ ws)) ≡ body_read s (done ++ w ∷ ws)
      by_count true full rest = rw full (one_more done cells w ws e (eqb-true (length cells) (cell_count s) full))
      by_count false other rest =
          let apart = eqb-false (length cells) (cell_count s) other in
          let short : length cells < cell_count s = omega arith in
          rw other (by_word (cell_number w) refl short rest)

  pub read_whole : (ws : List (List ℕ)) → read_on s [] (map cell_number ws) ≡ body_read s ws
  read_whole ws = reads_on ws [] [] refl zero-le
