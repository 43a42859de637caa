-- The options of a line: how words spell them, and what they give together.
use Rattle.std.specs.Prelude.{◌≡◌, ℕ, Bool, false, true, not, ◌&&◌, List, [], ◌∷◌, ◌++◌, Option, Some, None, is_none, option_and_then, codes, if◌then◌else◌}
use Rattle.pb_words.specs.declared.ask.Pool.{Pool}
use Rattle.pb_words.specs.declared.options.Setting.{Setting}
use Rattle.pb_words.specs.declared.options.Setting.TheVariants.{Workers, Depth, Grain, OnPool, Trace, UpTo}
use Rattle.pb_words.specs.declared.options.Settings.{Settings}
use Rattle.pb_words.specs.Values.{number_within, pool_named}

-- the words of an option: its name and its value, or its name alone
pub data SpellOption : List (List ℕ) → Setting → Type 0 where
  workers_option : {value : List ℕ} {n : ℕ} → number_within 1 64 value ≡ Some n → SpellOption (codes "--workers" ∷ value ∷ []) (Workers n)
  depth_option : {value : List ℕ} {n : ℕ} → number_within 0 64 value ≡ Some n → SpellOption (codes "--depth" ∷ value ∷ []) (Depth n)
  grain_option : {value : List ℕ} {n : ℕ} → number_within 1 1048576 value ≡ Some n → SpellOption (codes "--grain" ∷ value ∷ []) (Grain n)
  pool_option : {value : List ℕ} {p : Pool} → pool_named value ≡ Some p → SpellOption (codes "--pool" ∷ value ∷ []) (OnPool p)
  trace_option : SpellOption (codes "--trace" ∷ []) Trace
  up_to_option : {value : List ℕ} {n : ℕ} → number_within 1 1048576 value ≡ Some n → SpellOption (codes "--up-to" ∷ value ∷ []) (UpTo n)

-- just the words of these options, one after the other
pub data SpellOptions : List (List ℕ) → List Setting → Type 0 where
  none : SpellOptions [] []
  one_more : {words rest : List (List ℕ)} {option : Setting} {options : List Setting}
      → SpellOption words option → SpellOptions rest options → SpellOptions (words ++ rest) (option ∷ options)

abbrev pub no_settings : Settings
no_settings = record { workers = None; depth = None; grain = None; pool = None; trace = false; up_to = None }

abbrev pub is_empty : Settings → Bool
is_empty s = is_none s.workers && is_none s.depth && (is_none s.grain && is_none s.pool && not s.trace && is_none s.up_to)

-- what is given with one more option, which isn't given yet
abbrev pub added : Settings → Setting → Option Settings
added s (Workers n) = if is_none s.workers then Some (record s { workers = Some n }) else None
added s (Depth n) = if is_none s.depth then Some (record s { depth = Some n }) else None
added s (Grain n) = if is_none s.grain then Some (record s { grain = Some n }) else None
added s (OnPool p) = if is_none s.pool then Some (record s { pool = Some p }) else None
added s Trace = if s.trace then None else Some (record s { trace = true })
added s (UpTo n) = if is_none s.up_to then Some (record s { up_to = Some n }) else None

-- what is given with these options too, none of them twice
abbrev pub all_added : Settings → List Setting → Option Settings
all_added s [] = Some s
all_added s (option ∷ options) = option_and_then (λ t. all_added t options) (added s option)
