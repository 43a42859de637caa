-- What is read from a line is what the grammar says of it.
use Rattle.std.proofs.Common.{◌≡◌, ℕ, suc, ◌+◌, ◌-◌, ◌≤◌, ◌⊎◌, inl, inr, List, [], ◌∷◌, ◌++◌, length, Option, Some, None, option_and_then, option_map, refl, sym, ◌∙◌, ap, arith, length-append}
use Rattle.std.proofs.lemmas.Option.{none-some, some_pair_parts}
use Rattle.pb_words.specs.declared.ask.Ask.{Ask}
use Rattle.pb_words.specs.declared.options.Settings.{Settings}
use Rattle.pb_words.specs.Options.{no_settings}
use Rattle.pb_words.specs.Reading.{options_read, asked}
use Rattle.pb_words.specs.Line.{Asks, check, choices, run, tune, demo, Line, IsInside, least_others}
use Rattle.pb_words.proofs.OptionLemmas.{options_found, options_are_read}
use Rattle.pb_words.proofs.AskLemmas.{asks_found, asks_are_read}

pub fewer_others : (s : Settings) (after : List (List ℕ)) (t : Settings) (others : List (List ℕ)) → options_read s None after ≡ Some (t, others)
    → length others ≤ length after
fewer_others s after t others e =
    let found = options_found s None after t others e in
    omega (arith, ap length found.parts, length-append found.option_words others)

place_is : (n m k p : ℕ) → n ≡ suc m → m ≡ p + k → n - k ≡ suc p
place_is n m k p e f = omega arith

pub line_found : (words : List (List ℕ)) (n : ℕ) (command : List ℕ) (after : List (List ℕ)) (s : Settings) (others : List (List ℕ)) (ask : Ask)
    → words ≡ command ∷ after → n ≡ length words → options_read no_settings None after ≡ Some (s, others) → asked command s others ≡ Some ask
    → Line words ask (n - length others)
line_found words n command after s others ask split counted e asks =
    let found = options_found no_settings None after s others e in record {
      command = command;
      option_words = found.option_words;
      options = found.options;
      settings = s;
      others = others;
      parts = split ∙ ap (λ (ws : List (List ℕ)). command ∷ ws) found.parts;
      spelled = found.spelled;
      given = found.given;
      ended = found.ended;
      asks = asks_found s ask command others asks;
      placed = place_is n (length after) (length others) (length found.option_words) (counted ∙ ap length split)
          (ap length found.parts ∙ length-append found.option_words others);
    }

others_enough : {command : List ℕ} {s : Settings} {others : List (List ℕ)} {ask : Ask} → Asks command s others ask → least_others ask ≤ length others
others_enough (check empty) = omega arith
others_enough (choices empty) = omega arith
others_enough (run own most) = omega arith
others_enough (tune own) = omega arith
others_enough (demo empty seed size workers) = omega arith

pub line_enough : {words : List (List ℕ)} {ask : Ask} {place : ℕ} → Line words ask place → place + least_others ask ≤ length words
line_enough line =
    omega (arith, others_enough line.asks, ap length line.parts, length-append line.option_words line.others, line.placed)

-- what a line asks for and where its other words begin, once its options are read
abbrev pub read_after : List ℕ → ℕ → Option (Settings × List (List ℕ)) → Option (Ask × ℕ)
read_after command n read = option_and_then (λ u. option_map (λ a. (a, n - length u.1)) (asked command u.0 u.1)) read

abbrev line_read : List (List ℕ) → Option (Ask × ℕ)
line_read [] = None
line_read (command ∷ after) = read_after command (suc (length after)) (options_read no_settings None after)

line_is_read : {words : List (List ℕ)} {ask : Ask} {place : ℕ} → Line words ask place → line_read words ≡ Some (ask, place)
line_is_read {ask = ask} line =
    let n = suc (length (line.option_words ++ line.others)) in
    ap line_read line.parts
    ∙ ap (read_after line.command n) (options_are_read line.spelled no_settings line.settings line.others line.given line.ended)
    ∙ ap (option_map (λ a. (a, n - length line.others))) (asks_are_read line.asks)
    ∙ ap (λ (k : ℕ). Some (ask, k))
    (place_is n _ (length line.others) (length line.option_words) refl (length-append line.option_words line.others) ∙ sym line.placed)

pub no_line : (words : List (List ℕ)) (command : List ℕ) (after : List (List ℕ)) (read : Option (Settings × List (List ℕ)))
    → words ≡ command ∷ after → options_read no_settings None after ≡ read → read_after command (suc (length after)) read ≡ None
    → (ask : Ask) (place : ℕ) → Line words ask place → ⊥
no_line words command after read split is none ask place line =
    none-some (ask, place) (sym (ap line_read split ∙ ap (read_after command (suc (length after))) is ∙ none) ∙ line_is_read line)

pub one_reading : (words : List (List ℕ)) (first second : Ask) (place other : ℕ) → Line words first place → Line words second other
    → (first ≡ second) × (place ≡ other)
one_reading words first second place other one two = some_pair_parts first second place other (sym (line_is_read one) ∙ line_is_read two)

asked_or_not : (command : List ℕ) (after : List (List ℕ)) (s : Settings) (others : List (List ℕ)) (found : Option Ask)
    → options_read no_settings None after ≡ Some (s, others) → asked command s others ≡ found → IsInside (command ∷ after) ⊎ (IsInside (command ∷ after) → ⊥)
asked_or_not command after s others (Some ask) e asks =
    inl (ask, suc (length after) - length others, line_found (command ∷ after) (suc (length after)) command after s others ask refl refl e asks)
asked_or_not command after s others None e asks =
    inr (λ inside. no_line (command ∷ after) command after (Some (s, others)) refl e (ap (option_map (λ a. (a, suc (length after) - length others))) asks)
    inside.0 inside.1 inside.2)

read_or_not : (command : List ℕ) (after : List (List ℕ)) (read : Option (Settings × List (List ℕ))) → options_read no_settings None after ≡ read
    → IsInside (command ∷ after) ⊎ (IsInside (command ∷ after) → ⊥)
read_or_not command after None e = inr (λ inside. no_line (command ∷ after) command after None refl e refl inside.0 inside.1 inside.2)
read_or_not command after (Some (s, others)) e = asked_or_not command after s others (asked command s others) e refl

pub inside_or_not : (words : List (List ℕ)) → IsInside words ⊎ (IsInside words → ⊥)
inside_or_not [] = inr (λ inside. none-some (inside.0, inside.1) (line_is_read inside.2))
inside_or_not (command ∷ after) = read_or_not command after (options_read no_settings None after) refl
