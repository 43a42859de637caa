-- A command asks for something exactly where a rule says so.
use Rattle.std.proofs.Common.{◌≡◌, ℕ, ◌≤◌, Bool, true, false, not, ◌&&◌, List, [], ◌∷◌, length, Option, Some, None, is_none, nat_le, codes, refl, ap, subst, inl, inr, arith}
use Rattle.std.proofs.lemmas.Option.{cond_some, none-some, same_Some}
use Rattle.std.proofs.lemmas.Bool.Decides.{nat_tests}
use Rattle.pb_words.specs.declared.ask.Ask.{Ask}
use Rattle.pb_words.specs.declared.ask.Ask.TheVariants.{Check, Choices}
use Rattle.pb_words.specs.declared.ask.Pool.{Pool}
use Rattle.pb_words.specs.declared.options.Settings.{Settings}
use Rattle.pb_words.specs.Values.{number_within}
use Rattle.pb_words.specs.Options.{no_settings, is_empty}
use Rattle.pb_words.specs.Reading.{program_asked, run_asked, tune_asked, demo_of, demo_asked, asked}
use Rattle.pb_words.specs.Line.{Asks, check, choices, run, tune, demo}
use Rattle.pb_words.proofs.OptionLemmas.{if_parts, chosen}

empty_fields : (workers depth grain : Option ℕ) (pool : Option Pool) (trace : Bool) (up_to : Option ℕ)
    → (is_none workers && is_none depth && (is_none grain && is_none pool && not trace && is_none up_to)) ≡ true
    → ◌≡◌ {A = Settings} (record { workers = workers; depth = depth; grain = grain; pool = pool; trace = trace; up_to = up_to }) no_settings
empty_fields None None None None false None e = refl
empty_fields _ _ _ _ _ _ e = cc

empty_is : (s : Settings) → is_empty s ≡ true → s ≡ no_settings
empty_is s e = empty_fields s.workers s.depth s.grain s.pool s.trace s.up_to e

run_parts : (n : ℕ) (o : Option ℕ) → (nat_le n 16 && is_none o) ≡ true → (n ≤ 16) × (o ≡ None)
run_parts n None e = (grind (arith, nat_tests), refl)
run_parts n (Some v) e = grind (arith, nat_tests)

module _ (s : Settings) (ask : Ask) where
  program_found : (start : Ask) (command : List ℕ) (others : List (List ℕ)) → ((program : List ℕ) → s ≡ no_settings → Asks command s (program ∷ []) start)
      → program_asked start s others ≡ Some ask → Asks command s others ask
  program_found start command (program ∷ []) rule e =
      let parts = cond_some (is_empty s) start ask e in
      subst (λ (a : Ask). Asks command s (program ∷ []) a) parts.1 (rule program (empty_is s parts.0))
  program_found start command _ rule e = absurd (none-some ask e)

  run_found : (others : List (List ℕ)) → run_asked s others ≡ Some ask → Asks (codes "run") s others ask
  run_found (program ∷ config ∷ transform ∷ inputs) e =
      let parts = cond_some (nat_le (length inputs) 16 && is_none s.up_to) _ ask e in
      let fits = run_parts (length inputs) s.up_to parts.0 in
      subst (λ (a : Ask). Asks (codes "run") s (program ∷ config ∷ transform ∷ inputs) a) parts.1 (run fits.1 fits.0)
  run_found _ e = absurd (none-some ask e)

  tune_found : (others : List (List ℕ)) → tune_asked s others ≡ Some ask → Asks (codes "tune") s others ask
  tune_found (program ∷ transform ∷ []) e =
      let parts = cond_some (is_empty (record s { up_to = None })) _ ask e in
      subst (λ (a : Ask). Asks (codes "tune") s (program ∷ transform ∷ []) a) parts.1 (tune (empty_is (record s { up_to = None }) parts.0))
  tune_found _ e = absurd (none-some ask e)

  numbers_found : (first second third : List ℕ) (a b c : Option ℕ) → s ≡ no_settings → number_within 0 4294967295 first ≡ a
      → number_within 1 256 second ≡ b → number_within 1 64 third ≡ c → demo_of a b c ≡ Some ask
      → Asks (codes "demo") s (first ∷ second ∷ third ∷ []) ask
  numbers_found first second third (Some seed) (Some size) (Some workers) empty x y z e =
      subst (λ (a : Ask). Asks (codes "demo") s (first ∷ second ∷ third ∷ []) a) (same_Some _ ask e) (demo empty x y z)
  numbers_found first second third _ _ _ empty x y z e = absurd (none-some ask e)

  demo_found : (others : List (List ℕ)) → demo_asked s others ≡ Some ask → Asks (codes "demo") s others ask
  demo_found (first ∷ second ∷ third ∷ []) e =
      elim (if_parts (is_empty s) _ _ _ e) [
        | inl p ↦ numbers_found first second third _ _ _ (empty_is s p.0) refl refl refl p.1
        | inr p ↦ absurd (none-some ask p.1)
      ]
  demo_found _ e = absurd (none-some ask e)

  pub asks_found : (command : List ℕ) (others : List (List ℕ)) → asked command s others ≡ Some ask → Asks command s others ask
  asks_found command others =
      let by = λ (c : List ℕ). Asks c s others ask in
      chosen by command (codes "check") _ _ _ (program_found Check (codes "check") others (λ program. check))
      (chosen by command (codes "choices") _ _ _ (program_found Choices (codes "choices") others (λ program. choices))
      (chosen by command (codes "run") _ _ _ (run_found others)
      (chosen by command (codes "tune") _ _ _ (tune_found others)
      (chosen by command (codes "demo") _ _ _ (demo_found others) (λ e. absurd (none-some ask e))))))

pub asks_are_read : {command : List ℕ} {s : Settings} {others : List (List ℕ)} {ask : Ask} → Asks command s others ask → asked command s others ≡ Some ask
asks_are_read (check empty) = rw empty refl
asks_are_read (choices empty) = rw empty refl
asks_are_read (run {inputs = inputs} own most) =
    let fits : nat_le (length inputs) 16 ≡ true = grind (arith, nat_tests) in rw (fits, own) refl
asks_are_read (tune {s = s} own) = let empty : is_empty (record s { up_to = None }) ≡ true = ap is_empty own in rw empty refl
asks_are_read (demo empty seed size workers) = rw (empty, seed, size, workers) refl
