-- One more level at a site: what is put where, and that a configuration stays valid.
use Rattle.std.proofs.Common.{◌≡◌, ℕ, zero, suc, ◌+◌, ◌-◌, ◌<◌, ◌≤◌, Bool, true, false, ◌&&◌, ◌||◌, not, nat_le, nat_lt, ◌==◌, List, [], ◌∷◌, ◌++◌, length, map, Some, None, if◌then◌else◌, slice_get, slice_index, slice_set, eq-eqb, length-append, refl, subst, sym, ap, ◌∙◌, arith}
use Rattle.std.specs.List.{AllByRecursion, find, last_or, list_any, position_or_len}
use Rattle.std.specs.Option.{option_map_or}
use Rattle.std.specs.Str.{bytes_eq}
use Rattle.std.proofs.lemmas.Bool.{eqb-true, leb-false, lt-leb, lt-ltb, ne_eqb}
use Rattle.std.proofs.lemmas.Cmp.{nat_list_eq_equiv}
use Rattle.std.proofs.lemmas.List.Folds.{list_all-append}
use Rattle.std.proofs.lemmas.Slice.Eq.{bytes_eq-Decides}
use Rattle.pb_program.specs.Trees.{ProgTransform}
use Rattle.pb_program.specs.Configs.{SiteValue, SelectorValue, EntryValue, ConfigValue, IsSite, IsSelector, IsEntry, IsValid, HaveDistinctSites, has_site, same_site, is_cutoff, is_in, is_rising}
use Rattle.pb_config.specs.Extension.{extended, is_nothing_new, last_level, reaches, selector_at, last_rule, with_entry, with_level, with_selector}
use Rattle.pb_config.proofs.ValidLemmas.{all_push, both, distinct_push, neither}

-- the last level
at_last : {A : Type 0} (x : A) (xs : List A) → slice_get (x ∷ xs) (length xs) ≡ last_or (Some x) xs
at_last x [] = refl
at_last x (y ∷ ys) = at_last y ys

pub last_there : {A : Type 0} (xs : List A) → slice_get xs (length xs - 1) ≡ last_or None xs
last_there [] = refl
last_there (x ∷ xs) = let e : length (x ∷ xs) - 1 ≡ length xs = omega arith in rw e (at_last x xs)

-- whether it says what a further one would
module _ (s : SelectorValue) (size rule : ℕ) (l : ℕ × ℕ) (ls : List (ℕ × ℕ)) (same : ls ≡ s.levels) (few : length ls < 7) (there : Some l ≡ slice_get ls (length ls - 1)) where
  is_last : last_level s ≡ Some l
  is_last = sym (there ∙ last_there ls ∙ ap (last_or None) same)

  has_room : nat_le 7 (length s.levels) ≡ false
  has_room = lt-leb 7 (length s.levels) (subst (λ x. length x < 7) same few)

  pub told_rule : l.1 ≡ rule → (l.1 == rule) ≡ is_nothing_new s size rule
  told_rule last = rw (is_last, has_room, eq-eqb l.1 rule last) refl

  pub told_cutoff : (l.1 ≡ rule → ⊥) → nat_le size l.0 ≡ is_nothing_new s size rule
  told_cutoff other = rw (is_last, has_room, ne_eqb l.1 rule other) refl

-- where an entry is put
place_known : {A : Type 0} (test : A → Bool) (xs : List A) → position_or_len test xs < length xs → list_any test xs ≡ true
place_known test [] within = absurd (omega arith)
place_known test (x ∷ xs) within = by (test x) (place_known test xs) within
  where
    by : (b : Bool) → (position_or_len test xs < length xs → list_any test xs ≡ true) → (if not b then 1 + position_or_len test xs else 0) < length (x ∷ xs)
        → (b || list_any test xs) ≡ true
    by true ih within = refl
    by false ih within = ih (omega (arith, within))

pub place_unknown : {A : Type 0} (test : A → Bool) (xs : List A) → length xs ≤ position_or_len test xs → list_any test xs ≡ false
place_unknown test [] past = refl
place_unknown test (x ∷ xs) past = by (test x) (place_unknown test xs) past
  where
    by : (b : Bool) → (length xs ≤ position_or_len test xs → list_any test xs ≡ false) → length (x ∷ xs) ≤ (if not b then 1 + position_or_len test xs else 0)
        → (b || list_any test xs) ≡ false
    by true ih past = absurd (omega (arith, past))
    by false ih past = ih (omega (arith, past))

abbrev pub place : EntryValue → List EntryValue → ℕ
place e es = position_or_len (λ old. same_site e.site old.site) es

module _ (e own : EntryValue) (es all : List EntryValue) (k : ℕ) (is : own ≡ e) (at : k ≡ place e es) (same : all ≡ es) where
  pub in_place : k < length es → slice_set all k own ≡ with_entry e es
  in_place within =
      let known = place_known (λ old. same_site e.site old.site) es (subst (λ n. n < length es) at within) in rw (known, is, same, at) refl

  pub at_end : length es ≤ k → all ++ own ∷ [] ≡ with_entry e es
  at_end past =
      let unknown = place_unknown (λ old. same_site e.site old.site) es (subst (λ n. length es ≤ n) at past) in rw (unknown, is, same) refl

-- equal sites
pub same_is : (a b : SiteValue) → same_site a b ≡ true → a ≡ b
same_is a b e =
    let parts = both (a.transform == b.transform && a.matrix == b.matrix) (bytes_eq a.set b.set) e in
    let numbers = both (a.transform == b.transform) (a.matrix == b.matrix) parts.0 in
    let transform = eqb-true a.transform b.transform numbers.0 in
    let matrix = eqb-true a.matrix b.matrix numbers.1 in
    let set = (bytes_eq-Decides a.set b.set).0 parts.1 in
    λ i. record { transform = transform i; matrix = matrix i; set = set i }

pub site_same : (s : SiteValue) → same_site s s ≡ true
site_same s = rw (eq-eqb s.transform s.transform refl, eq-eqb s.matrix s.matrix refl, nat_list_eq_equiv.refl s.set) refl

-- a write
set_all : {A : Type 0} (P : A → Type 0) (xs : List A) (i : ℕ) (x : A) → AllByRecursion P xs → P x → AllByRecursion P (slice_set xs i x)
set_all P [] i x all here = tt
set_all P (y ∷ ys) zero x all here = (here, all.1)
set_all P (y ∷ ys) (suc i) x all here = (all.0, set_all P ys i x all.1 here)

set_none : {A : Type 0} (test : A → Bool) (xs : List A) (i : ℕ) (x : A) → list_any test xs ≡ false → test x ≡ false → list_any test (slice_set xs i x) ≡ false
set_none test [] i x none other = refl
set_none test (y ∷ ys) zero x none other = rw other (neither (test y) (list_any test ys) none).1
set_none test (y ∷ ys) (suc i) x none other =
    let parts = neither (test y) (list_any test ys) none in rw parts.0 (set_none test ys i x parts.1 other)

set_distinct : (e : EntryValue) (es : List EntryValue) → HaveDistinctSites es → HaveDistinctSites (slice_set es (place e es) e)
set_distinct e [] distinct = tt
set_distinct e (x ∷ es) distinct = by (same_site e.site x.site) refl (set_distinct e es distinct.1)
  where
    by : (b : Bool) → same_site e.site x.site ≡ b → HaveDistinctSites (slice_set es (place e es) e)
        → HaveDistinctSites (slice_set (x ∷ es) (if not b then 1 + place e es else 0) e)
    by true same ih = (subst (λ s. list_any (λ later. same_site later.site s) es ≡ false) (sym (same_is e.site x.site same)) distinct.0, distinct.1)
    by false same ih =
        let next : 1 + place e es ≡ suc (place e es) = omega arith in
        subst (λ k. HaveDistinctSites (slice_set (x ∷ es) k e)) (sym next) (set_none (λ later. same_site later.site x.site) es (place e es) e distinct.0 same, ih)

-- an entry put in the place of that of its site, or at the end
put_valid : (p : List ProgTransform) (es : List EntryValue) (e : EntryValue) → IsValid p (record { entries = es }) → IsEntry p e → IsValid p (record { entries = with_entry e es })
put_valid p es e valid is = by (has_site e.site es) refl
  where
    by : (b : Bool) → has_site e.site es ≡ b → IsValid p (record { entries = if b then slice_set es (place e es) e else es ++ e ∷ [] })
    by true known = record { entries = set_all (IsEntry p) es (place e es) e valid.entries is; distinct = set_distinct e es valid.distinct }
    by false known = record { entries = all_push (IsEntry p) es e valid.entries is; distinct = distinct_push es e valid.distinct known }

-- the levels at a site
first_in : (set : List ℕ) (rule : ℕ) → is_in set rule ≡ true → is_in set (slice_index set 0) ≡ true
first_in [] rule there = absurd (cc)
first_in (r ∷ set) rule there = rw (eq-eqb r r refl) refl

found_fits : (p : List ProgTransform) (site : SiteValue) (es : List EntryValue) (none : SelectorValue) → AllByRecursion (IsEntry p) es → IsSelector site.set none
    → IsSelector site.set (option_map_or (λ e. e.selector) (find (λ e. same_site site e.site) es) none)
found_fits p site [] none all fits = fits
found_fits p site (e ∷ es) none all fits = by (same_site site e.site) refl (found_fits p site es none all.1 fits)
  where
    by : (b : Bool) → same_site site e.site ≡ b → IsSelector site.set (option_map_or (λ e. e.selector) (find (λ e. same_site site e.site) es) none)
        → IsSelector site.set (option_map_or (λ e. e.selector) (if b then Some e else find (λ e. same_site site e.site) es) none)
    by true same ih = subst (λ s. IsSelector s.set e.selector) (sym (same_is site e.site same)) all.0.selector
    by false same ih = ih

-- a level after the others
push_rising : (ls : List (ℕ × ℕ)) (size rule : ℕ) → is_rising (map (λ l. l.0) ls) ≡ true → option_map_or (λ l. nat_le size l.0) (last_or None ls) false ≡ false
    → is_rising (map (λ l. l.0) (ls ++ (size, rule) ∷ [])) ≡ true
push_rising [] size rule rising below = refl
push_rising (l ∷ []) size rule rising below = rw (lt-ltb l.0 size (leb-false size l.0 below)) refl
push_rising (l ∷ m ∷ ls) size rule rising below =
    let parts = both (nat_lt l.0 m.0) (is_rising (map (λ l. l.0) (m ∷ ls))) rising in rw parts.0 (push_rising (m ∷ ls) size rule parts.1 below)

level_fits : (set : List ℕ) (s : SelectorValue) (size rule : ℕ) → IsSelector set s → is_in set rule ≡ true → is_cutoff size ≡ true → is_nothing_new s size rule ≡ false
    → IsSelector set (with_level size rule s)
level_fits set s size rule is there cutoff new =
    let rest = neither (last_rule s == rule) (nat_le 7 (length s.levels) || reaches size s) new in
    let parts = neither (nat_le 7 (length s.levels)) (reaches size s) rest.1 in
    record {
      first = is.first;
      rules = rw (list_all-append (λ l. is_in set l.1) s.levels ((size, rule) ∷ []), is.rules, there) refl;
      few = omega (arith, length-append s.levels ((size, rule) ∷ []), leb-false 7 (length s.levels) parts.0);
      cutoffs = rw (list_all-append (λ l. is_cutoff l.0) s.levels ((size, rule) ∷ []), is.cutoffs, cutoff) refl;
      rising = push_rising s.levels size rule is.rising parts.1;
    }

-- what the code makes of the levels at a site
module _ (c : ConfigValue) (site : SiteValue) (size rule first : ℕ) (levels pushed : List (ℕ × ℕ)) (s : SelectorValue) (e : ConfigValue)
    (view : record { first = first; levels = levels } ≡ s) (at : s ≡ selector_at c site) (new : is_nothing_new s size rule ≡ false)
    (push : pushed ≡ levels ++ (size, rule) ∷ []) (is : e ≡ with_selector c site (record { first = first; levels = pushed })) where
  made : e ≡ with_selector c site (with_level size rule s)
  made = is ∙ (λ i. with_selector c site (record { first = first; levels = push i })) ∙ ap (λ t. with_selector c site (with_level size rule t)) view

  pub said : Some e ≡ extended c site size rule
  said = rw (made, at) (rw (rw at at new) refl)

  pub stays_valid : is_in site.set rule ≡ true → is_cutoff size ≡ true → (p : List ProgTransform) → IsValid p c → IsSite p site → IsValid p e
  stays_valid there cutoff p valid fits =
      let alone : IsSelector site.set (record { first = slice_index site.set 0; levels = [] }) =
      record { first = first_in site.set rule there; rules = refl; few = omega arith; cutoffs = refl; rising = refl } in
      let old = found_fits p site c.entries _ valid.entries alone in
      let fit = level_fits site.set s size rule (subst (IsSelector site.set) (sym at) old) there cutoff new in
      subst (IsValid p) (sym made) (put_valid p c.entries (record { site = site; selector = with_level size rule s }) valid (record { site = fits; selector = fit }))
