-- What a line says: `choose T.M {0,1} = 0 until 4 then 1`.
use Rattle.std.specs.Prelude.{ℕ, zero, suc, List, [], ◌∷◌, Option, Some, None, codes, if◌then◌else◌}
use Rattle.std.specs.List.{list_all}
use Rattle.std.specs.Option.{option_map, option_and_then, option_map_or}
use Rattle.pb_syntax.specs.declared.limits.TheConstants.{MOST_RULES}
use Rattle.pb_program.specs.Configs.{SelectorValue, is_cutoff, is_rising}
use Rattle.pb_config.specs.Parts.{is_blank, after, name_next, number_next}
use Rattle.pb_config.specs.declared.choice.TheConstants.{MOST_CUTOFFS}

-- an item before those that were read, and what stands after them
abbrev pub put_first : {A : Type 0} → A → List A × List ℕ → List A × List ℕ
put_first x rest = (x ∷ rest.0, rest.1)

-- rules with commas between them, at most so many, and a `}`
unfoldable pub rules_next : ℕ → List ℕ → Option (List ℕ × List ℕ)
rules_next zero text = None
rules_next (suc more) text = option_and_then
    (λ r. option_map_or (λ next. option_map (put_first r.0) (rules_next more next)) (after (codes ",") r.1)
    (option_map (λ end. (r.0 ∷ [], end)) (after (codes "}") r.1)))
    (number_next text)

abbrev pub if_rising : List ℕ × List ℕ → Option (List ℕ × List ℕ)
if_rising r = if is_rising r.0 then Some r else None

-- the set
abbrev pub set_next : List ℕ → Option (List ℕ × List ℕ)
set_next text = option_and_then (λ next. option_and_then if_rising (rules_next MOST_RULES next)) (after (codes "{") text)

-- a cutoff, and what stands after it
abbrev pub if_cutoff : ℕ × List ℕ → Option (ℕ × List ℕ)
if_cutoff r = if is_cutoff r.0 then Some r else None

abbrev pub cutoff_next : List ℕ → Option (ℕ × List ℕ)
cutoff_next text = option_and_then (λ next. option_and_then if_cutoff (number_next next)) (after (codes "until") text)

-- a cutoff with its rule
abbrev pub level_next : List ℕ → Option ((ℕ × ℕ) × List ℕ)
level_next text = option_and_then
    (λ c. option_and_then (λ next. option_map (λ r. ((c.0, r.0), r.1)) (number_next next)) (after (codes "then") c.1))
    (cutoff_next text)

-- cutoffs with their rules, at most so many, to the end of the line
unfoldable pub levels_of : ℕ → List ℕ → Option (List (ℕ × ℕ))
levels_of zero text = if list_all is_blank text then Some [] else None
levels_of (suc more) text =
    if list_all is_blank text then Some []
    else option_and_then (λ l. option_map (λ rest. l.0 ∷ rest) (levels_of more l.1)) (level_next text)

-- the selector, to the end of the line
abbrev pub selector_of : List ℕ → Option SelectorValue
selector_of text = option_and_then
    (λ next. option_and_then (λ r. option_map (λ ls. record { first = r.0; levels = ls }) (levels_of MOST_CUTOFFS r.1)) (number_next next))
    (after (codes "=") text)

-- the names of a transform and of its matrix
pub record Names : Type 0 where
  pub transform : List ℕ
  pub matrix : List ℕ

abbrev pub names_next : List ℕ → Option (Names × List ℕ)
names_next text = option_and_then
    (λ next. option_and_then
    (λ t. option_and_then (λ dot. option_map (λ m. (record { transform = t.0; matrix = m.0 }, m.1)) (name_next dot)) (after (codes ".") t.1))
    (name_next next))
    (after (codes "choose") text)

pub record ChoiceText : Type 0 where
  pub names : Names
  pub set : List ℕ
  pub selector : SelectorValue

-- what a line says, if it is of this form
abbrev pub choice_of : List ℕ → Option ChoiceText
choice_of line = option_and_then
    (λ n. option_and_then (λ s. option_map (λ selector. record { names = n.0; set = s.0; selector = selector }) (selector_of s.1)) (set_next n.1))
    (names_next line)
