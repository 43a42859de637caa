-- The configuration that a text says for a program, or the text's first fault.
use Rattle.std.specs.Prelude.{◌≡◌, ℕ, ◌+◌, Bool, ◌&&◌, ◌||◌, not, nat_le, ◌==◌, List, [], ◌∷◌, ◌++◌, map, Option, Some, None, Result, Ok, Err, slice_get, if◌then◌else◌}
use Rattle.std.specs.List.{list_all, position_from}
use Rattle.std.specs.Option.{option_map, option_and_then, option_map_or}
use Rattle.std.specs.Str.{bytes_eq}
use Rattle.std.specs.Str.Lines.{lines}
use Rattle.pb_program.specs.Trees.{ProgTransform}
use Rattle.pb_program.specs.Configs.{SiteValue, SelectorValue, EntryValue, ConfigValue, has_site, is_in, is_rising, rule_writes}
use Rattle.pb_config.specs.Parts.{is_blank, past_blanks, begins}
use Rattle.pb_config.specs.Choices.{Names, ChoiceText, choice_of}
use Rattle.pb_config.specs.declared.refusal.ConfigRefusal.{ConfigRefusal}
use Rattle.pb_config.specs.declared.refusal.ConfigRefusal.TheVariants.{BadLine, UnknownPlace, NotInSet, CutoffsNotRising, Twice, Memory}

-- the number of the first transform of this name
abbrev pub transform_named : List ℕ → List ProgTransform → Option ℕ
transform_named name p = position_from (λ t. bytes_eq name t.name.bytes) 0 p

abbrev pub matrix_named : List ℕ → ProgTransform → Option ℕ
matrix_named name t = position_from (λ d. bytes_eq name d.name.bytes) 0 t.matrices

-- the matrix, if it isn't given and each rule of the set is there and writes it
abbrev pub if_written : ProgTransform → List ℕ → ℕ → Option ℕ
if_written t set matrix = if nat_le t.inputs matrix && list_all (rule_writes t matrix) set then Some matrix else None

-- the number of the matrix of this name, if it is so
abbrev pub matrix_of : List ℕ → List ℕ → ProgTransform → Option ℕ
matrix_of name set t = option_and_then (if_written t set) (matrix_named name t)

abbrev pub site_of : List ProgTransform → Names → List ℕ → Option SiteValue
site_of p names set = option_and_then
    (λ number. option_and_then
    (λ t. option_map (λ matrix. record { transform = number; matrix = matrix; set = set }) (matrix_of names.matrix set t)) (slice_get p number))
    (transform_named names.transform p)

-- each level's rule is in the set
abbrev pub rules_are_in : List ℕ → SelectorValue → Bool
rules_are_in set s = is_in set s.first && list_all (λ l. is_in set l.1) s.levels

abbrev pub cutoffs_rise : SelectorValue → Bool
cutoffs_rise s = is_rising (map (λ l. l.0) s.levels)

-- the entry of a site after others, in this line
abbrev pub entry_at : List EntryValue → ℕ → SelectorValue → SiteValue → Result EntryValue ConfigRefusal
entry_at before line selector site =
    if not (rules_are_in site.set selector) then Err (NotInSet line)
    else if not (cutoffs_rise selector) then Err (CutoffsNotRising line)
    else if has_site site before then Err (Twice line)
    else Ok (record { site = site; selector = selector })

abbrev pub entry_by : List ProgTransform → List EntryValue → ℕ → ChoiceText → Result EntryValue ConfigRefusal
entry_by p before line c = option_map_or (entry_at before line c.selector) (site_of p c.names c.set) (Err (UnknownPlace line))

-- the entry that a line says, or the first of its faults
abbrev pub entry_of : List ProgTransform → List EntryValue → ℕ → List ℕ → Result EntryValue ConfigRefusal
entry_of p before line text = option_map_or (entry_by p before line) (choice_of text) (Err (BadLine line))

-- a line that says nothing: blank, or with a `#` first
abbrev pub is_passed : List ℕ → Bool
is_passed text = list_all is_blank text || begins (λ b. b == 35) (past_blanks text)

-- a step after one that didn't fail
abbrev pub and_then : {A B : Type 0} → (A → Result B ConfigRefusal) → Result A ConfigRefusal → Result B ConfigRefusal
and_then f (Ok x) = f x
and_then f (Err e) = Err e

-- what lines say after the entries of the lines before them; the first of them has this number
abbrev pub lines_read : List ProgTransform → List EntryValue → ℕ → List (List ℕ) → Result ConfigValue ConfigRefusal
lines_read p before line [] = Ok (record { entries = before })
lines_read p before line (text ∷ rest) =
    if is_passed text then lines_read p before (line + 1) rest
    else and_then (λ e. lines_read p (before ++ e ∷ []) (line + 1) rest) (entry_of p before line text)

-- the configuration, or the refusal of the first faulty line
abbrev pub config_read : List ProgTransform → List ℕ → Result ConfigValue ConfigRefusal
config_read p text = lines_read p [] 1 (lines text)

-- an error is what reading fails with, unless memory ran out
abbrev pub Fails : {A : Type 0} → ConfigRefusal → Result A ConfigRefusal → Type 0
Fails Memory read = Unit {0}
Fails e read = read ≡ Err e
