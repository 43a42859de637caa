-- The parts of a printed line are read again.
use Rattle.std.proofs.Common.{◌≡◌, ℕ, zero, suc, ◌^◌, ◌<◌, ◌≤◌, Bool, true, false, List, [], ◌∷◌, ◌++◌, length, map, flat_map, codes, decimal, Some, refl, ap, ◌∙◌, arith}
use Rattle.std.specs.Prelude.{◌&&◌}
use Rattle.std.specs.Char.{is_ascii_digit}
use Rattle.std.specs.Option.{option_map}
use Rattle.std.specs.List.{AllByRecursion, list_all, prefix_len, join_with_byte}
use Rattle.std.specs.Str.Parse.{digits_value}
use Rattle.std.proofs.Math.Numerals.{one-add}
use Rattle.std.proofs.Math.Seq.{drop-append_seam, take-append_seam}
use Rattle.std.proofs.lemmas.List.{append_assoc}
use Rattle.std.proofs.lemmas.Bool.{le-leb}
use Rattle.std.proofs.lemmas.Bool.Decides.{nat_tests}
use Rattle.std.proofs.lemmas.Fmt.{decimal_nonempty, length-decimal-le, digits_decimal, digits_value-decimal}
use Rattle.pb_syntax.specs.Bytes.{begins_name, is_in_name}
use Rattle.pb_syntax.specs.Lexemes.{IsWordText}
use Rattle.pb_program.specs.Configs.{SelectorValue, is_cutoff, is_rising}
use Rattle.pb_config.specs.Parts.{is_blank, past_blanks, begins, first_name, name_next, number_next, number_of}
use Rattle.pb_config.specs.Choices.{ChoiceText, choice_of, rules_next, level_next, levels_of, selector_of, put_first}
use Rattle.pb_config.specs.Texts.{level_text, selector_text}
use Rattle.pb_config.proofs.DigitLemmas.{own}

-- no blank stands first
past_none : (p : ℕ → Bool) → ((b : ℕ) → p b ≡ true → is_blank b ≡ false) → (text : List ℕ) → begins p text ≡ true → past_blanks text ≡ text
past_none p plain [] first = refl
past_none p plain (b ∷ rest) first = rw (plain b first) refl

past_one : (text : List ℕ) → past_blanks (32 ∷ text) ≡ past_blanks text
past_one text = rw one-add refl

begins_front : (p : ℕ → Bool) (front rest : List ℕ) → begins p front ≡ true → begins p (front ++ rest) ≡ true
begins_front p [] rest h = absurd (cc)
begins_front p (b ∷ front) rest h = h

-- a run that what follows doesn't go on with
run_ends : (p : ℕ → Bool) (run rest : List ℕ) → list_all p run ≡ true → begins p rest ≡ false → prefix_len p (run ++ rest) ≡ length run
run_ends p [] [] all ends = refl
run_ends p [] (b ∷ rest) all ends = rw ends refl
run_ends p (b ∷ run) rest all ends = step (p b) refl all (run_ends p run rest)
  where
    step : (t : Bool) → p b ≡ t → (t && list_all p run) ≡ true → (list_all p run ≡ true → begins p rest ≡ false → prefix_len p (run ++ rest) ≡ length run)
        → prefix_len p ((b ∷ run) ++ rest) ≡ length (b ∷ run)
    step true e all ih = rw (e, one-add) (ap suc (ih all ends))
    step false e all ih = absurd (cc)

-- a name
name_plain : (b : ℕ) → begins_name b ≡ true → is_blank b ≡ false
name_plain b h = grind (arith, nat_tests)

name_cut : (w rest : List ℕ) → begins begins_name (w ++ rest) ≡ true → list_all is_in_name w ≡ true → begins is_in_name rest ≡ false → first_name (w ++ rest) ≡ Some (w, rest)
name_cut w rest first all ends = rw (first, run_ends is_in_name w rest all ends, take-append_seam w rest, drop-append_seam w rest) refl

word_first : (w : List ℕ) → IsWordText w → begins begins_name w ≡ true
word_first [] word = absurd word
word_first (b ∷ bs) word = word.0

pub word_all : (w : List ℕ) → IsWordText w → list_all is_in_name w ≡ true
word_all [] word = absurd word
word_all (b ∷ bs) word = let first : begins_name b ≡ true = word.0 in let rest : list_all is_in_name bs ≡ true = word.1 in rw (first, rest) refl

name_read : (w rest : List ℕ) → IsWordText w → begins is_in_name rest ≡ false → name_next (w ++ rest) ≡ Some (w, rest)
name_read w rest word ends =
    let first = begins_front begins_name w rest (word_first w word) in
    ap first_name (past_none begins_name name_plain (w ++ rest) first) ∙ name_cut w rest first (word_all w word) ends

name_after : (w rest : List ℕ) → IsWordText w → begins is_in_name rest ≡ false → name_next (32 ∷ (w ++ rest)) ≡ Some (w, rest)
name_after w rest word ends = ap first_name (past_one (w ++ rest)) ∙ name_read w rest word ends

-- a number
digit_plain : (b : ℕ) → is_ascii_digit b ≡ true → is_blank b ≡ false
digit_plain b h = grind (arith, nat_tests)

record IsShort (ds : List ℕ) : Type 0 where
  digits : list_all is_ascii_digit ds ≡ true
  some : 1 ≤ length ds
  few : length ds ≤ 7

digits_cut : (ds rest : List ℕ) → IsShort ds → begins is_ascii_digit rest ≡ false
    → number_of (prefix_len is_ascii_digit (ds ++ rest)) (ds ++ rest) ≡ Some (digits_value 10 ds, rest)
digits_cut ds rest short ends =
    rw (run_ends is_ascii_digit ds rest short.digits ends, le-leb 1 (length ds) short.some, le-leb (length ds) 7 short.few, take-append_seam ds rest, drop-append_seam ds rest) refl

all_first : (p : ℕ → Bool) (ds : List ℕ) → list_all p ds ≡ true → 1 ≤ length ds → begins p ds ≡ true
all_first p [] all some = absurd (omega arith)
all_first p (d ∷ ds) all some = by (p d) all
  where
    by : (t : Bool) → (t && list_all p ds) ≡ true → t ≡ true
    by true h = refl
    by false h = h

-- the number is printed with at most seven digits
abbrev pub IsFew : ℕ → Type 0
IsFew n = n < 10 ^ 7

pub decimal_digits : (n : ℕ) → IsFew n → list_all is_ascii_digit (decimal n) ≡ true
decimal_digits n small = digits_decimal own n (omega (arith, small))

number_read : (n : ℕ) (rest : List ℕ) → IsFew n → begins is_ascii_digit rest ≡ false → number_next (decimal n ++ rest) ≡ Some (n, rest)
number_read n rest small ends =
    let fits : n < 2 ^ 64 = omega (arith, small) in
    let short : IsShort (decimal n) = record { digits = decimal_digits n small; some = omega (arith, decimal_nonempty n fits); few = length-decimal-le 7 n (omega arith) small fits } in
    let first = begins_front is_ascii_digit (decimal n) rest (all_first is_ascii_digit (decimal n) short.digits short.some) in
    rw (past_none is_ascii_digit digit_plain (decimal n ++ rest) first) (digits_cut (decimal n) rest short ends) ∙ ap (λ v. Some (v, rest)) (digits_value-decimal own n fits)

number_after : (n : ℕ) (rest : List ℕ) → IsFew n → begins is_ascii_digit rest ≡ false → number_next (32 ∷ (decimal n ++ rest)) ≡ Some (n, rest)
number_after n rest small ends = ap (λ t. number_of (prefix_len is_ascii_digit t) t) (past_one (decimal n ++ rest)) ∙ number_read n rest small ends

-- a set
rules_read : (more : ℕ) (set rest : List ℕ) → 1 ≤ length set → length set ≤ more → AllByRecursion IsFew set
    → rules_next more (join_with_byte 44 (map decimal set) ++ (125 ∷ rest)) ≡ Some (set, rest)
unfolding rules_next
rules_read more [] rest some few all = absurd (omega arith)
rules_read zero (r ∷ set) rest some few all = absurd (omega arith)
rules_read (suc more) (r ∷ []) rest some few all = rw (number_read r (125 ∷ rest) all.0 refl) refl
rules_read (suc more) (r ∷ s ∷ set) rest some few all =
    let later = join_with_byte 44 (map decimal (s ∷ set)) ++ (125 ∷ rest) in
    let ih : rules_next more later ≡ Some (s ∷ set, rest) = rules_read more (s ∷ set) rest (omega arith) (omega arith) all.1 in
    ap (rules_next (suc more)) (append_assoc (decimal r) (44 ∷ join_with_byte 44 (map decimal (s ∷ set))) (125 ∷ rest))
    ∙ rw (number_read r (44 ∷ later) all.0 refl) (ap (option_map (put_first r)) ih)

-- levels
pub record IsFine (l : ℕ × ℕ) : Type 0 where
  pub cutoff : is_cutoff l.0 ≡ true
  pub rule : IsFew l.1

no_digit : (ls : List (ℕ × ℕ)) → begins is_ascii_digit (flat_map level_text ls) ≡ false
no_digit [] = refl
no_digit (l ∷ ls) = refl

pub cutoff_few : (n : ℕ) → is_cutoff n ≡ true → IsFew n
cutoff_few n h = grind (arith, nat_tests)

level_read : (l : ℕ × ℕ) (rest : List ℕ) → IsFine l → begins is_ascii_digit rest ≡ false
    → level_next (codes " until " ++ (decimal l.0 ++ (codes " then " ++ (decimal l.1 ++ rest)))) ≡ Some (l, rest)
level_read l rest fine ends =
    rw (number_after l.0 (codes " then " ++ (decimal l.1 ++ rest)) (cutoff_few l.0 fine.cutoff) refl, fine.cutoff, number_after l.1 rest fine.rule ends) refl

levels_read : (most : ℕ) (ls : List (ℕ × ℕ)) → length ls ≤ most → AllByRecursion IsFine ls → levels_of most (flat_map level_text ls) ≡ Some ls
unfolding levels_of
levels_read zero [] few all = refl
levels_read (suc most) [] few all = refl
levels_read zero (l ∷ ls) few all = absurd (omega arith)
levels_read (suc most) (l ∷ ls) few all =
    let rest = flat_map level_text ls in
    let text : flat_map level_text (l ∷ ls) ≡ codes " until " ++ (decimal l.0 ++ (codes " then " ++ (decimal l.1 ++ rest))) =
    ap (λ t. codes " until " ++ t) (append_assoc (decimal l.0) (codes " then " ++ decimal l.1) rest) in
    ap (levels_of (suc most)) text ∙ rw (level_read l rest all.0 (no_digit ls), levels_read most ls (omega arith) all.1) refl

-- a selector
pub record IsPlain (s : SelectorValue) : Type 0 where
  pub first : IsFew s.first
  pub few : length s.levels ≤ 7
  pub levels : AllByRecursion IsFine s.levels

selector_read : (s : SelectorValue) → IsPlain s → selector_of (codes " = " ++ selector_text s) ≡ Some s
selector_read s plain =
    rw (number_after s.first (flat_map level_text s.levels) plain.first (no_digit s.levels), levels_read 7 s.levels plain.few plain.levels) refl

-- a line
pub record IsPrinted (c : ChoiceText) : Type 0 where
  pub transform : IsWordText c.names.transform
  pub matrix : IsWordText c.names.matrix
  pub some : 1 ≤ length c.set
  pub few : length c.set ≤ 32
  pub rising : is_rising c.set ≡ true
  pub rules : AllByRecursion IsFew c.set
  pub selector : IsPlain c.selector

-- what is printed of a choice
abbrev pub choice_text : ChoiceText → List ℕ
choice_text c = codes "choose " ++ (c.names.transform ++ (codes "." ++ (c.names.matrix
    ++ (codes " {" ++ (join_with_byte 44 (map decimal c.set) ++ (codes "}" ++ (codes " = " ++ selector_text c.selector)))))))

pub choice_read : (c : ChoiceText) → IsPrinted c → choice_of (choice_text c) ≡ Some c
choice_read c is =
    let said = codes " = " ++ selector_text c.selector in
    let set = codes " {" ++ (join_with_byte 44 (map decimal c.set) ++ (codes "}" ++ said)) in
    rw (
      name_after c.names.transform (codes "." ++ (c.names.matrix ++ set)) is.transform refl,
      name_read c.names.matrix set is.matrix refl,
      rules_read 32 c.set said is.some is.few is.rules,
      is.rising,
      selector_read c.selector is.selector,
    ) refl
