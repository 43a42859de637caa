-- A configuration with one more level at a site.
use Rattle.std.specs.Prelude.{ℕ, Bool, false, ◌||◌, ◌==◌, nat_le, List, [], ◌∷◌, ◌++◌, length, Option, Some, None, slice_index, slice_set, if◌then◌else◌}
use Rattle.std.specs.List.{find, last_or, position_or_len}
use Rattle.std.specs.Option.{option_map_or}
use Rattle.pb_program.specs.Configs.{SiteValue, SelectorValue, EntryValue, ConfigValue, has_site, same_site}
use Rattle.pb_config.specs.declared.choice.TheConstants.{MOST_CUTOFFS}

-- the levels at a site: those of its entry, or else the first rule of its set alone
abbrev pub selector_at : ConfigValue → SiteValue → SelectorValue
selector_at c site =
    option_map_or (λ e. e.selector) (find (λ e. same_site site e.site) c.entries) (record { first = slice_index site.set 0; levels = [] })

-- the last cutoff and the rule from there on, if there is a cutoff
abbrev pub last_level : SelectorValue → Option (ℕ × ℕ)
last_level s = last_or None s.levels

-- the rule of the last level
abbrev pub last_rule : SelectorValue → ℕ
last_rule s = option_map_or (λ l. l.1) (last_level s) s.first

-- the last cutoff is at least the size
abbrev pub reaches : ℕ → SelectorValue → Bool
reaches size s = option_map_or (λ l. nat_le size l.0) (last_level s) false

-- nothing new: the last level has this rule, 8 levels are there, or the last cutoff is at least the size
abbrev pub is_nothing_new : SelectorValue → ℕ → ℕ → Bool
is_nothing_new s size rule = last_rule s == rule || (nat_le MOST_CUTOFFS (length s.levels) || reaches size s)

-- a level after the others
abbrev pub with_level : ℕ → ℕ → SelectorValue → SelectorValue
with_level size rule s = record { first = s.first; levels = s.levels ++ (size, rule) ∷ [] }

-- entries with this one: in the place of that of its site, or after all others
abbrev pub with_entry : EntryValue → List EntryValue → List EntryValue
with_entry e entries =
    if has_site e.site entries then slice_set entries (position_or_len (λ old. same_site e.site old.site) entries) e else entries ++ e ∷ []

-- the configuration with these levels at a site
abbrev pub with_selector : ConfigValue → SiteValue → SelectorValue → ConfigValue
with_selector c site s = record { entries = with_entry (record { site = site; selector = s }) c.entries }

-- the configuration that also says the rule for the sizes from this one on, if that is new
abbrev pub extended : ConfigValue → SiteValue → ℕ → ℕ → Option ConfigValue
extended c site size rule =
    if is_nothing_new (selector_at c site) size rule then None
    else Some (with_selector c site (with_level size rule (selector_at c site)))
