-- What a valid configuration chooses is in the set that it chooses from.
use Rattle.std.proofs.Common.{◌≡◌, refl, sym, subst, inl, inr, ◌≢◌, ℕ, Bool, true, false, ◌&&◌, List, [], ◌∷◌, map, Option}
use Rattle.std.specs.Prelude.{◌==◌, filter, nat_le, slice_index}
use Rattle.std.specs.List.{AllByRecursion, Contains, find, list_any}
use Rattle.std.specs.Option.{option_map_or}
use Rattle.std.specs.Str.{bytes_eq}
use Rattle.std.proofs.lemmas.Bool.{and_parts, eqb-true, or_cases}
use Rattle.std.proofs.lemmas.Slice.Eq.{bytes_eq-Decides}
use Rattle.pb_program.specs.Configs.{ConfigValue, EntryValue, IsEntry, IsSelector, IsValid, SelectorValue, SiteValue, chosen, is_in, last_of, picked, same_site}
use Rattle.pb_program.specs.Trees.{ProgTransform}
use Rattle.pb_model.specs.Cells.{Cell}
use Rattle.pb_model.specs.Chosen.{chosen_rule, instance_size}
use Rattle.pb_model.specs.Lawful.{IsLawful, lawful}
use Rattle.pb_model.proofs.LawfulLemmas.{lawful_in}
use Rattle.pb_base.proofs.ListLemmas.{all_each, filter_in, in_cases, in_head, in_tail, map_in}

in_set : (set : List ℕ) (k : ℕ) → is_in set k ≡ true → Contains set k
in_set [] k h = absurd (let e : false ≡ true = h in cc)
in_set (x ∷ xs) k h = elim (or_cases (x == k) (list_any (λ r. r == k) xs) h) [
  | inl here ↦ subst (Contains (x ∷ xs)) (eqb-true x k here) (in_head x xs)
  | inr later ↦ in_tail x k xs (in_set xs k later)
]

-- the last of some numbers is one of them, or the first argument
last_in : (n : ℕ) (xs : List ℕ) → Contains (n ∷ xs) (last_of n xs)
last_in n [] = in_head n []
last_in n (x ∷ xs) = in_tail n (last_of x xs) (x ∷ xs) (last_in x xs)

module _ (set : List ℕ) (s : SelectorValue) (h : IsSelector set s) (size : ℕ) where
  abbrev passed : List (ℕ × ℕ)
  passed = filter (λ (l : ℕ × ℕ). nat_le l.0 size) s.levels

  of_level : (k : ℕ) → Contains (map (λ (l : ℕ × ℕ). l.1) passed) k → Contains set k
  of_level k c =
      let l = map_in (λ (l : ℕ × ℕ). l.1) passed k c in
      let there = (filter_in (λ (l : ℕ × ℕ). nat_le l.0 size) s.levels l.0 l.1).0 in
      subst (Contains set) l.2 (in_set set l.0.1 (all_each (λ (l : ℕ × ℕ). is_in set l.1) s.levels l.0 h.rules there))

  picked_in : Contains set (picked s size)
  picked_in = elim (in_cases s.first (picked s size) (map (λ (l : ℕ × ℕ). l.1) passed) (last_in s.first (map (λ (l : ℕ × ℕ). l.1) passed))) [
    | inl first ↦ subst (Contains set) first (in_set set s.first h.first)
    | inr level ↦ of_level (picked s size) level
  ]

same_list : (a b : List ℕ) → bytes_eq a b ≡ true → a ≡ b
same_list a b h = (bytes_eq-Decides a b).0 h

first_in : (xs : List ℕ) → xs ≢ [] → Contains xs (slice_index xs 0)
first_in [] some = absurd (some refl)
first_in (x ∷ xs) some = in_head x xs

module _ (p : List ProgTransform) (site : SiteValue) (size : ℕ) (some : site.set ≢ []) where
  abbrev said : Option EntryValue → ℕ
  said o = option_map_or (λ (e : EntryValue). picked e.selector size) o (slice_index site.set 0)

  of_site : (e : EntryValue) → same_site site e.site ≡ true → e.site.set ≡ site.set
  of_site e h = sym (same_list site.set e.site.set (and_parts (site.transform == e.site.transform && site.matrix == e.site.matrix) (bytes_eq site.set e.site.set) h).1)

  by_entry : (e : EntryValue) (es : List EntryValue) (b : Bool) → same_site site e.site ≡ b → IsEntry p e → Contains site.set (said (find (λ (x : EntryValue). same_site site x.site) es))
      → Contains site.set (said (find (λ (x : EntryValue). same_site site x.site) (e ∷ es)))
  by_entry e es true h is later = rw h (subst (λ set. Contains set (picked e.selector size)) (of_site e h) (picked_in e.site.set e.selector is.selector size))
  by_entry e es false h is later = rw h later

  found_in : (es : List EntryValue) → AllByRecursion (IsEntry p) es → Contains site.set (option_map_or (λ (e : EntryValue). picked e.selector size) (find (λ (e : EntryValue). same_site site e.site) es) (slice_index site.set 0))
  found_in [] all = first_in site.set some
  found_in (e ∷ es) all = by_entry e es (same_site site e.site) refl all.0 (found_in es all.1)

  pub chosen_in : (c : ConfigValue) → IsValid p c → Contains site.set (chosen c site size)
  chosen_in c valid = found_in c.entries valid.entries

pub chosen_lawful : (p : List ProgTransform) (config : ConfigValue) (number : ℕ) (t : ProgTransform) (sizes : List ℕ) (c : Cell) → IsValid p config → lawful t sizes c ≢ []
    → IsLawful t sizes c (chosen_rule config number t sizes c)
unfolding chosen_rule
chosen_lawful p config number t sizes c valid some =
    lawful_in t sizes c (chosen config (record { transform = number; matrix = c.matrix; set = lawful t sizes c }) (instance_size sizes))
    (chosen_in p (record { transform = number; matrix = c.matrix; set = lawful t sizes c }) (instance_size sizes) some config valid)
