-- The grammar of a command line.
use Rattle.std.specs.Prelude.{◌≡◌, ℕ, suc, ◌≤◌, List, [], ◌∷◌, ◌++◌, length, Some, None, unwrap_or, codes, IsFalse}
use Rattle.pb_words.specs.declared.ask.Ask.{Ask}
use Rattle.pb_words.specs.declared.ask.Ask.TheVariants.{Check, Choices, Run, Tune, Demo}
use Rattle.pb_words.specs.declared.ask.Pool.TheVariants.{Steal}
use Rattle.pb_words.specs.declared.options.Setting.{Setting}
use Rattle.pb_words.specs.declared.options.Settings.{Settings}
use Rattle.pb_words.specs.Values.{is_option, number_within}
use Rattle.pb_words.specs.Options.{SpellOptions, no_settings, all_added}

-- what a command asks for with its options over its other words
pub data Asks : List ℕ → Settings → List (List ℕ) → Ask → Type 0 where
  check : {program : List ℕ} {s : Settings} → s ≡ no_settings → Asks (codes "check") s (program ∷ []) Check
  choices : {program : List ℕ} {s : Settings} → s ≡ no_settings → Asks (codes "choices") s (program ∷ []) Choices
  run : {program config transform : List ℕ} {inputs : List (List ℕ)} {s : Settings} → s.up_to ≡ None → length inputs ≤ 16
      → Asks (codes "run") s (program ∷ config ∷ transform ∷ inputs)
      (Run (unwrap_or s.workers 1) (unwrap_or s.depth 64) (unwrap_or s.grain 64) (unwrap_or s.pool Steal) s.trace)
  tune : {program transform : List ℕ} {s : Settings} → record s { up_to = None } ≡ no_settings
      → Asks (codes "tune") s (program ∷ transform ∷ []) (Tune (unwrap_or s.up_to 64))
  demo : {first second third : List ℕ} {seed size workers : ℕ} {s : Settings} → s ≡ no_settings
      → number_within 0 4294967295 first ≡ Some seed → number_within 1 256 second ≡ Some size → number_within 1 64 third ≡ Some workers
      → Asks (codes "demo") s (first ∷ second ∷ third ∷ []) (Demo seed size workers)

-- the options end: no word stands in an option's place, or one that isn't an option
abbrev pub Ends : List (List ℕ) → Type 0
Ends [] = Unit {0}
Ends (word ∷ _) = IsFalse (is_option word)

-- the command, its options, none of them twice, and its other words, of which the first stands at the place
pub record Line (words : List (List ℕ)) (ask : Ask) (place : ℕ) : Type 0 where
  pub command : List ℕ
  pub option_words : List (List ℕ)
  pub options : List Setting
  pub settings : Settings
  pub others : List (List ℕ)
  pub parts : words ≡ command ∷ (option_words ++ others)
  pub spelled : SpellOptions option_words options
  pub given : all_added no_settings options ≡ Some settings
  pub ended : Ends others
  pub asks : Asks command settings others ask
  pub placed : place ≡ suc (length option_words)

-- the words are a line of the grammar
abbrev pub IsInside : List (List ℕ) → Type 0
IsInside words = (ask : Ask) × (place : ℕ) × Line words ask place

-- how many other words a command has at least
abbrev pub least_others : Ask → ℕ
least_others Check = 1
least_others Choices = 1
least_others (Run workers depth grain pool trace) = 3
least_others (Tune up_to) = 2
least_others (Demo seed size workers) = 3
