-- What a configuration with one more level chooses.
use Rattle.std.proofs.Common.{◌≡◌, ℕ, suc, ◌+◌, ◌<◌, Bool, true, false, ◌&&◌, not, nat_le, List, [], ◌∷◌, ◌++◌, length, map, Option, Some, None, if◌then◌else◌, slice_index, slice_set, inl, inr, refl, subst, sym, ap, ◌∙◌, arith}
use Rattle.std.specs.Prelude.{filter}
use Rattle.std.specs.List.{find, list_any, position_or_len}
use Rattle.std.specs.Option.{option_map_or}
use Rattle.std.proofs.lemmas.Bool.{cases_lt}
use Rattle.std.proofs.lemmas.List.{append-nil, map-append}
use Rattle.std.proofs.lemmas.List.Elements.{filter-append}
use Rattle.std.proofs.lemmas.List.Folds.{find-set}
use Rattle.pb_program.specs.Configs.{SiteValue, SelectorValue, EntryValue, ConfigValue, chosen, has_site, last_of, picked, same_site}
use Rattle.pb_config.specs.Extension.{extended, is_nothing_new, selector_at, with_entry, with_level, with_selector}
use Rattle.pb_config.proofs.ExtensionLemmas.{place, place_unknown, same_is, site_same}
use Rattle.pb_config.proofs.ValidLemmas.{neither}

-- the rule of one more level
last_push : (n : ℕ) (xs : List ℕ) (x : ℕ) → last_of n (xs ++ x ∷ []) ≡ x
last_push n [] x = refl
last_push n (y ∷ ys) x = last_push y ys x

picked_push : (s : SelectorValue) (size rule n : ℕ) → picked (with_level size rule s) n ≡ (if nat_le size n then rule else picked s n)
picked_push s size rule n = ap (λ ls. last_of s.first (map (λ l. l.1) ls)) (filter-append (λ l. nat_le l.0 n) s.levels ((size, rule) ∷ [])) ∙ by (nat_le size n)
  where
    passed : List (ℕ × ℕ)
    passed = filter (λ l. nat_le l.0 n) s.levels

    by : (b : Bool) → last_of s.first (map (λ l. l.1) (passed ++ (if b then (size, rule) ∷ [] else []))) ≡ (if b then rule else picked s n)
    by true = ap (last_of s.first) (map-append (λ l. l.1) passed ((size, rule) ∷ [])) ∙ last_push s.first (map (λ l. l.1) passed) rule
    by false = ap (λ ls. last_of s.first (map (λ l. l.1) ls)) (append-nil passed)

-- what a configuration chooses is what the levels at the site say
chosen_by_levels : (c : ConfigValue) (site : SiteValue) (n : ℕ) → chosen c site n ≡ picked (selector_at c site) n
chosen_by_levels c site n = by (find (λ e. same_site site e.site) c.entries)
  where
    alone : SelectorValue
    alone = record { first = slice_index site.set 0; levels = [] }

    by : (o : Option EntryValue) → option_map_or (λ e. picked e.selector n) o (slice_index site.set 0) ≡ picked (option_map_or (λ e. e.selector) o alone) n
    by None = refl
    by (Some e) = refl

-- the entry of this site
module _ (test : EntryValue → Bool) where
  find_pushed : (es : List EntryValue) (e : EntryValue) → list_any test es ≡ false → test e ≡ true → find test (es ++ e ∷ []) ≡ Some e
  find_pushed [] e none here = rw here refl
  find_pushed (x ∷ es) e none here = let parts = neither (test x) (list_any test es) none in rw parts.0 (find_pushed es e parts.1 here)

  find_past : (es : List EntryValue) (e : EntryValue) → test e ≡ false → find test (es ++ e ∷ []) ≡ find test es
  find_past [] e other = rw other refl
  find_past (x ∷ es) e other = ap (λ r. if test x then Some x else r) (find_past es e other)

  find_beside : (own : EntryValue → Bool) → ((x : EntryValue) → own x ≡ true → test x ≡ false) → (es : List EntryValue) (e : EntryValue) → test e ≡ false
      → find test (slice_set es (position_or_len own es) e) ≡ find test es
  find_beside own apart [] e other = refl
  find_beside own apart (x ∷ es) e other = by (own x) refl (find_beside own apart es e other)
    where
      by : (b : Bool) → own x ≡ b → find test (slice_set es (position_or_len own es) e) ≡ find test es
          → find test (slice_set (x ∷ es) (if not b then 1 + position_or_len own es else 0) e) ≡ find test (x ∷ es)
      by true is ih = rw (other, apart x is) refl
      by false is ih =
          let next : 1 + position_or_len own es ≡ suc (position_or_len own es) = omega arith in
          subst (λ k. find test (slice_set (x ∷ es) k e) ≡ find test (x ∷ es)) (sym next) (ap (λ r. if test x then Some x else r) ih)

place_within : {A : Type 0} (test : A → Bool) (xs : List A) → list_any test xs ≡ true → position_or_len test xs < length xs
place_within test xs some = elim (cases_lt (position_or_len test xs) (length xs)) [ inl within ↦ within | inr past ↦ absurd (let none = place_unknown test xs past in cc) ]

found_own : (e : EntryValue) (es : List EntryValue) → find (λ x. same_site e.site x.site) (with_entry e es) ≡ Some e
found_own e es = by (has_site e.site es) refl
  where
    by : (b : Bool) → has_site e.site es ≡ b → find (λ x. same_site e.site x.site) (if b then slice_set es (place e es) e else es ++ e ∷ []) ≡ Some e
    by true known = find-set (λ x. same_site e.site x.site) es (place e es) e refl (place_within (λ x. same_site e.site x.site) es known) (site_same e.site)
    by false known = find_pushed (λ x. same_site e.site x.site) es e known (site_same e.site)

found_other : (at : SiteValue) (e : EntryValue) (es : List EntryValue) → same_site at e.site ≡ false
    → find (λ x. same_site at x.site) (with_entry e es) ≡ find (λ x. same_site at x.site) es
found_other at e es other = by (has_site e.site es)
  where
    by : (b : Bool) → find (λ x. same_site at x.site) (if b then slice_set es (place e es) e else es ++ e ∷ []) ≡ find (λ x. same_site at x.site) es
    by true = find_beside (λ x. same_site at x.site) (λ x. same_site e.site x.site)
        (λ x same. subst (λ s. same_site at s ≡ false) (same_is e.site x.site same) other) es e other
    by false = find_past (λ x. same_site at x.site) es e other

-- the choice
module _ (c : ConfigValue) (site : SiteValue) (size rule : ℕ) where
  abbrev more : ConfigValue
  more = with_selector c site (with_level size rule (selector_at c site))

  chosen_here : (n : ℕ) → chosen more site n ≡ (if nat_le size n then rule else chosen c site n)
  chosen_here n =
      ap (λ o. option_map_or (λ e. picked e.selector n) o (slice_index site.set 0)) (found_own (record { site = site; selector = with_level size rule (selector_at c site) }) c.entries)
      ∙ picked_push (selector_at c site) size rule n
      ∙ ap (λ r. if nat_le size n then rule else r) (sym (chosen_by_levels c site n))

  chosen_there : (at : SiteValue) (n : ℕ) → same_site at site ≡ false → chosen more at n ≡ chosen c at n
  chosen_there at n other =
      ap (λ o. option_map_or (λ e. picked e.selector n) o (slice_index at.set 0))
      (found_other at (record { site = site; selector = with_level size rule (selector_at c site) }) c.entries other)

  chosen_more : (at : SiteValue) (n : ℕ) → chosen more at n ≡ (if same_site at site && nat_le size n then rule else chosen c at n)
  chosen_more at n = by (same_site at site) refl
    where
      by : (b : Bool) → same_site at site ≡ b → chosen more at n ≡ (if b && nat_le size n then rule else chosen c at n)
      by true same = subst (λ s. chosen more s n ≡ (if nat_le size n then rule else chosen c s n)) (sym (same_is at site same)) (chosen_here n)
      by false other = chosen_there at n other

  pub chosen_from : (e : ConfigValue) → extended c site size rule ≡ Some e → (at : SiteValue) (n : ℕ)
      → chosen e at n ≡ (if same_site at site && nat_le size n then rule else chosen c at n)
  chosen_from e is at n = by (is_nothing_new (selector_at c site) size rule) is
    where
      by : (b : Bool) → (if b then None else Some more) ≡ Some e → chosen e at n ≡ (if same_site at site && nat_le size n then rule else chosen c at n)
      by true is = absurd (cc)
      by false is = let same : more ≡ e = cc in subst (λ x. chosen x at n ≡ (if same_site at site && nat_le size n then rule else chosen c at n)) same (chosen_more at n)
