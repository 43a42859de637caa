-- Configurations: which rule one chooses, and when one is valid for a program.
use Rattle.std.specs.Prelude.{◌≡◌, ℕ, ◌≤◌, Bool, true, false, ◌&&◌, ◌==◌, nat_le, nat_lt, IsTrue, List, [], ◌∷◌, length, map, filter, Some, slice_get, slice_index}
use Rattle.std.specs.List.{AllByRecursion, list_all, list_any, find}
use Rattle.std.specs.Option.{option_map_or}
use Rattle.std.specs.Str.{bytes_eq}
use Rattle.pb_syntax.specs.declared.limits.TheConstants.{MOST_RULES}
use Rattle.pb_syntax.specs.WithinLimits.{Counts}
use Rattle.pb_program.specs.Trees.{ProgRule, ProgTransform}

-- the levels: each cutoff, and the rule from there on
pub record SelectorValue : Type 0 where
  pub first : ℕ
  pub levels : List (ℕ × ℕ)

pub record SiteValue : Type 0 where
  pub transform : ℕ
  pub matrix : ℕ
  pub set : List ℕ

pub record EntryValue : Type 0 where
  pub site : SiteValue
  pub selector : SelectorValue

pub record ConfigValue : Type 0 where
  pub entries : List EntryValue

-- the last of some numbers, or the first argument where there is none
abbrev pub last_of : ℕ → List ℕ → ℕ
last_of n [] = n
last_of n (x ∷ xs) = last_of x xs

-- the rule of the last level whose cutoff is at most the size, or else the first rule
abbrev pub picked : SelectorValue → ℕ → ℕ
picked s size = last_of s.first (map (λ l. l.1) (filter (λ l. nat_le l.0 size) s.levels))

abbrev pub same_site : SiteValue → SiteValue → Bool
same_site a b = (a.transform == b.transform && a.matrix == b.matrix) && bytes_eq a.set b.set

-- what the entry of a site says at a size, or else the first rule of the set
abbrev pub chosen : ConfigValue → SiteValue → ℕ → ℕ
chosen c site size =
    option_map_or (λ e. picked e.selector size) (find (λ e. same_site site e.site) c.entries) (slice_index site.set 0)

-- some output of the rule is a view of the matrix
abbrev pub writes : ℕ → ProgRule → Bool
writes matrix r = list_any (λ o. o.matrix == matrix) r.outs

-- the rule of this number is there and writes the matrix
abbrev pub rule_writes : ProgTransform → ℕ → ℕ → Bool
rule_writes t matrix rule = option_map_or (writes matrix) (slice_get t.rules rule) false

-- a matrix after `through` or `to`
abbrev pub is_made : ProgTransform → ℕ → Bool
is_made t matrix = nat_le t.inputs matrix && nat_lt matrix (length t.matrices)

-- each number is above the one before it
abbrev pub is_rising : List ℕ → Bool
is_rising [] = true
is_rising (a ∷ []) = true
is_rising (a ∷ b ∷ rest) = nat_lt a b && is_rising (b ∷ rest)

abbrev pub is_in : List ℕ → ℕ → Bool
is_in set rule = list_any (λ r. r == rule) set

-- a cutoff
abbrev pub is_cutoff : ℕ → Bool
is_cutoff n = nat_le 1 n && nat_le n 1048576

-- rules, rising, that all write the matrix, which isn't given
pub record IsSite (p : List ProgTransform) (s : SiteValue) : Type 0 where
  pub transform : ProgTransform
  pub there : slice_get p s.transform ≡ Some transform
  pub made : IsTrue (is_made transform s.matrix)
  pub count : Counts 1 MOST_RULES (length s.set)
  pub rising : IsTrue (is_rising s.set)
  pub written : IsTrue (list_all (rule_writes transform s.matrix) s.set)

-- 1 to 8 levels with the first, whose rules are in the set and whose cutoffs rise
pub record IsSelector (set : List ℕ) (s : SelectorValue) : Type 0 where
  pub first : IsTrue (is_in set s.first)
  pub rules : IsTrue (list_all (λ l. is_in set l.1) s.levels)
  pub few : length s.levels ≤ 7
  pub cutoffs : IsTrue (list_all (λ l. is_cutoff l.0) s.levels)
  pub rising : IsTrue (is_rising (map (λ l. l.0) s.levels))

pub record IsEntry (p : List ProgTransform) (e : EntryValue) : Type 0 where
  pub site : IsSite p e.site
  pub selector : IsSelector e.site.set e.selector

-- an entry of this site is among some entries
abbrev pub has_site : SiteValue → List EntryValue → Bool
has_site s entries = list_any (λ e. same_site s e.site) entries

-- no entry has the site of an earlier one
abbrev pub HaveDistinctSites : List EntryValue → Type 0
HaveDistinctSites [] = Unit {0}
HaveDistinctSites (e ∷ rest) = (list_any (λ later. same_site later.site e.site) rest ≡ false) × HaveDistinctSites rest

-- a configuration is valid for a program
pub record IsValid (p : List ProgTransform) (c : ConfigValue) : Type 0 where
  pub entries : AllByRecursion (IsEntry p) c.entries
  pub distinct : HaveDistinctSites c.entries
