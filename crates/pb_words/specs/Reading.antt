-- What the reader finds, word by word.
use Rattle.std.specs.Prelude.{ℕ, ◌&&◌, List, [], ◌∷◌, length, Option, Some, None, is_none, unwrap_or, option_and_then, option_map, nat_le, codes, bytes_eq, if◌then◌else◌}
use Rattle.pb_words.specs.declared.ask.Ask.{Ask}
use Rattle.pb_words.specs.declared.ask.Ask.TheVariants.{Check, Choices, Run, Tune, Demo}
use Rattle.pb_words.specs.declared.ask.Pool.TheVariants.{Steal}
use Rattle.pb_words.specs.declared.options.Setting.{Setting}
use Rattle.pb_words.specs.declared.options.Setting.TheVariants.{Workers, Depth, Grain, OnPool, Trace, UpTo}
use Rattle.pb_words.specs.declared.options.Settings.{Settings}
use Rattle.pb_words.specs.Values.{is_option, number_within, pool_named}
use Rattle.pb_words.specs.Options.{added, is_empty}

-- the option that a name and its value spell
abbrev pub valued_option : List ℕ → List ℕ → Option Setting
valued_option name value =
    if bytes_eq name (codes "--workers") then option_map Workers (number_within 1 64 value)
    else (if bytes_eq name (codes "--depth") then option_map Depth (number_within 0 64 value)
    else (if bytes_eq name (codes "--grain") then option_map Grain (number_within 1 1048576 value)
    else (if bytes_eq name (codes "--pool") then option_map OnPool (pool_named value)
    else (if bytes_eq name (codes "--up-to") then option_map UpTo (number_within 1 1048576 value) else None))))

-- the options at the front, put to those that are given, and the words after them; a name may wait for its value
abbrev pub options_read : Settings → Option (List ℕ) → List (List ℕ) → Option (Settings × List (List ℕ))
options_read s None [] = Some (s, [])
options_read s None (name ∷ after) =
    if is_option name then
    (if bytes_eq name (codes "--trace") then option_and_then (λ t. options_read t None after) (added s Trace)
    else options_read s (Some name) after)
    else Some (s, name ∷ after)
options_read s (Some name) [] = None
options_read s (Some name) (value ∷ after) =
    option_and_then (λ t. options_read t None after) (option_and_then (added s) (valued_option name value))

abbrev pub program_asked : Ask → Settings → List (List ℕ) → Option Ask
program_asked ask s (program ∷ []) = if is_empty s then Some ask else None
program_asked ask s others = None

abbrev pub run_asked : Settings → List (List ℕ) → Option Ask
run_asked s (program ∷ config ∷ transform ∷ inputs) =
    if nat_le (length inputs) 16 && is_none s.up_to then
    Some (Run (unwrap_or s.workers 1) (unwrap_or s.depth 64) (unwrap_or s.grain 64) (unwrap_or s.pool Steal) s.trace)
    else None
run_asked s others = None

abbrev pub tune_asked : Settings → List (List ℕ) → Option Ask
tune_asked s (program ∷ transform ∷ []) = if is_empty (record s { up_to = None }) then Some (Tune (unwrap_or s.up_to 64)) else None
tune_asked s others = None

abbrev pub demo_of : Option ℕ → Option ℕ → Option ℕ → Option Ask
demo_of (Some seed) (Some size) (Some workers) = Some (Demo seed size workers)
demo_of seed size workers = None

abbrev pub demo_asked : Settings → List (List ℕ) → Option Ask
demo_asked s (seed ∷ size ∷ workers ∷ []) =
    if is_empty s then demo_of (number_within 0 4294967295 seed) (number_within 1 256 size) (number_within 1 64 workers) else None
demo_asked s others = None

-- what a command asks for with these options over these other words
abbrev pub asked : List ℕ → Settings → List (List ℕ) → Option Ask
asked command s others =
    if bytes_eq command (codes "check") then program_asked Check s others
    else (if bytes_eq command (codes "choices") then program_asked Choices s others
    else (if bytes_eq command (codes "run") then run_asked s others
    else (if bytes_eq command (codes "tune") then tune_asked s others
    else (if bytes_eq command (codes "demo") then demo_asked s others else None))))
