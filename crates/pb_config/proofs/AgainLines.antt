-- A printed line has no line end in it, and the lines of a printed text are those of its entries.
use Rattle.std.proofs.Common.{◌≡◌, ℕ, ◌-◌, Bool, true, false, nat_lt, ◌==◌, List, [], ◌∷◌, ◌++◌, length, get_or, map, flat_map, codes, decimal, All, inl, inr, refl, arith}
use Rattle.std.specs.Char.{is_ascii_digit}
use Rattle.std.specs.List.{AllByRecursion, list_all, slice_split, join_with_byte}
use Rattle.std.specs.Str.Lines.{lines}
use Rattle.std.proofs.lemmas.Bool.{cases_lt, ltb-true, ne_eqb}
use Rattle.std.proofs.lemmas.Bool.Decides.{nat_tests}
use Rattle.std.proofs.lemmas.List.{append_assoc, get_or_past}
use Rattle.std.proofs.lemmas.List.Elements.{All-weaker}
use Rattle.std.proofs.lemmas.List.Folds.{list_all-append}
use Rattle.std.proofs.lemmas.List.Splits.{slice_split_at}
use Rattle.std.proofs.lemmas.List.Sums.{AllPass-from_list_all, list_all-from_AllPass}
use Rattle.pb_syntax.specs.Bytes.{is_in_name}
use Rattle.pb_syntax.specs.Lexemes.{IsWordText}
use Rattle.pb_config.specs.Parts.{is_line_end}
use Rattle.pb_config.specs.Choices.{ChoiceText}
use Rattle.pb_config.specs.Texts.{level_text}
use Rattle.pb_config.proofs.LineLemmas.{first_part}
use Rattle.pb_config.proofs.AgainParts.{IsFew, IsFine, IsPrinted, choice_text, cutoff_few, decimal_digits, word_all}

-- a byte that is no control
abbrev is_visible : ℕ → Bool
is_visible b = nat_lt 31 b

all_weaker : (p q : ℕ → Bool) → ((b : ℕ) → p b ≡ true → q b ≡ true) → (bs : List ℕ) → list_all p bs ≡ true → list_all q bs ≡ true
all_weaker p q more bs all =
    list_all-from_AllPass q bs (All-weaker (λ b. p b ≡ true) (λ b. q b ≡ true) more bs (AllPass-from_list_all p bs all))

abbrev AreVisible : List ℕ → Type 0
AreVisible bs = list_all is_visible bs ≡ true

word_visible : (w : List ℕ) → IsWordText w → AreVisible w
word_visible w word = all_weaker is_in_name is_visible (λ b h. grind (arith, nat_tests)) w (word_all w word)

number_visible : (n : ℕ) → IsFew n → AreVisible (decimal n)
number_visible n small = all_weaker is_ascii_digit is_visible (λ b h. grind (arith, nat_tests)) (decimal n) (decimal_digits n small)

set_visible : (set : List ℕ) → AllByRecursion IsFew set → AreVisible (join_with_byte 44 (map decimal set))
set_visible [] all = refl
set_visible (r ∷ []) all = number_visible r all.0
set_visible (r ∷ s ∷ set) all = rw (list_all-append is_visible, number_visible r all.0) (set_visible (s ∷ set) all.1)

levels_visible : (ls : List (ℕ × ℕ)) → AllByRecursion IsFine ls → AreVisible (flat_map level_text ls)
levels_visible [] all = refl
levels_visible (l ∷ ls) all =
    simp (list_all-append is_visible, number_visible l.0 (cutoff_few l.0 all.0.cutoff), number_visible l.1 all.0.rule) (levels_visible ls all.1)

line_visible : (c : ChoiceText) → IsPrinted c → AreVisible (choice_text c)
line_visible c is =
    simp (
      list_all-append is_visible,
      word_visible c.names.transform is.transform,
      word_visible c.names.matrix is.matrix,
      set_visible c.set is.rules,
      number_visible c.selector.first is.selector.first,
    ) (levels_visible c.selector.levels is.selector.levels)

-- a line, and what follows it
no_return : (l : List ℕ) (k : ℕ) → All (λ b. is_visible b ≡ true) l → get_or l k 0 ≡ 13 → ⊥
no_return l k all e = elim (cases_lt k (length l)) [ inl within ↦ omega (arith, ltb-true 31 (get_or l k 0) (all k 0 within), e) | inr past ↦ omega (arith, get_or_past l k 0 past, e) ]

first_of_lines : (l rest : List ℕ) → AreVisible l → lines ((l ++ 10 ∷ []) ++ rest) ≡ l ∷ lines rest
first_of_lines l rest visible =
    let all = AllPass-from_list_all is_visible l visible in
    let parts : slice_split is_line_end (l ++ 10 ∷ rest) ≡ l ∷ slice_split is_line_end rest =
    slice_split_at is_line_end l 10 rest (All-weaker (λ b. is_visible b ≡ true) (λ b. is_line_end b ≡ false) (λ b h. grind (arith, nat_tests)) l all) refl in
    let plain : (get_or l (length l - 1) 0 == 13) ≡ false = ne_eqb (get_or l (length l - 1) 0) 13 (no_return l (length l - 1) all) in
    rw (append_assoc l (10 ∷ []) rest, parts, first_part is_line_end rest, plain) refl

pub line_first : (c : ChoiceText) (rest : List ℕ) → IsPrinted c → lines ((choice_text c ++ codes "\n") ++ rest) ≡ choice_text c ∷ lines rest
line_first c rest is = first_of_lines (choice_text c) rest (line_visible c is)
