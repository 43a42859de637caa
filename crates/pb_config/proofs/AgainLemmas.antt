-- What is printed of a valid configuration is read as that configuration.
use Rattle.std.proofs.Common.{◌≡◌, ℕ, zero, suc, ◌+◌, ◌<◌, ◌≤◌, Bool, true, false, ◌||◌, nat_lt, nat_le, List, [], ◌∷◌, ◌++◌, length, map, flat_map, codes, Option, Some, None, Ok, slice_get, ◌==◌, refl, ap, sym, ◌∙◌, arith, rules}
use Rattle.std.specs.List.{AllByRecursion, list_all, list_any, position_from}
use Rattle.std.specs.Option.{option_map_or}
use Rattle.std.specs.Str.{bytes_eq}
use Rattle.std.specs.Str.Lines.{lines}
use Rattle.std.proofs.lemmas.Bool.{eqb-true, ltb-true}
use Rattle.std.proofs.lemmas.Cmp.{nat_list_eq_equiv}
use Rattle.std.proofs.lemmas.List.{append_assoc, append-nil}
use Rattle.std.proofs.lemmas.Option.{slice_get_within}
use Rattle.pb_values.specs.Name.{NameValue}
use Rattle.pb_syntax.specs.Limits.{is_known}
use Rattle.pb_program.specs.Trees.{ProgRule, ProgTransform}
use Rattle.pb_program.specs.WellFormed.{AreDistinct, IsTransform, IsDecl, IsWellFormed}
use Rattle.pb_program.specs.Configs.{EntryValue, ConfigValue, IsSelector, IsEntry, IsValid, HaveDistinctSites, has_site, same_site, is_cutoff, is_in, rule_writes, writes}
use Rattle.pb_config.specs.Choices.{ChoiceText, choice_of}
use Rattle.pb_config.specs.Reading.{config_read, entry_of, lines_read, matrix_named, matrix_of, site_of}
use Rattle.pb_config.specs.Texts.{config_text, entry_text}
use Rattle.pb_config.proofs.AgainParts.{IsFew, IsFine, IsPrinted, choice_text, choice_read}
use Rattle.pb_config.proofs.AgainLines.{line_first}
use Rattle.pb_config.proofs.SiteLemmas.{all_at, site_found}
use Rattle.pb_config.proofs.ValidLemmas.{both, neither, none_push}

-- an element within the list
get_there : {A : Type 0} (xs : List A) (k : ℕ) → k < length xs → (x : A) × (slice_get xs k ≡ Some x)
get_there [] k within = absurd (omega arith)
get_there (x ∷ xs) zero within = (x, refl)
get_there (x ∷ xs) (suc k) within = get_there xs k (omega arith)

-- names that are distinct
unlike : {A : Type 0} (name : A → NameValue) (n : List ℕ) (xs : List A) (k : ℕ) (x : A) → is_known n (map (λ m. m.bytes) (map name xs)) ≡ false → slice_get xs k ≡ Some x
    → bytes_eq n (name x).bytes ≡ false
unlike name n [] k x known there = absurd (cc)
unlike name n (y ∷ xs) zero x known there = let e : y ≡ x = cc in rw e at (neither (bytes_eq n (name y).bytes) (is_known n (map (λ m. m.bytes) (map name xs))) known).0
unlike name n (y ∷ xs) (suc k) x known there = unlike name n xs k x (neither (bytes_eq n (name y).bytes) (is_known n (map (λ m. m.bytes) (map name xs))) known).1 there

position_there : {A : Type 0} (name : A → NameValue) (xs : List A) (k i : ℕ) (x : A) → AreDistinct (map name xs) → slice_get xs k ≡ Some x
    → position_from (λ y. bytes_eq (name x).bytes (name y).bytes) i xs ≡ Some (i + k)
position_there name [] k i x distinct there = absurd (cc)
position_there name (y ∷ xs) zero i x distinct there =
    let e : y ≡ x = cc in
    let same : bytes_eq (name x).bytes (name y).bytes ≡ true = rw e (nat_list_eq_equiv.refl (name x).bytes) in
    rw same (ap Some (omega arith))
position_there name (y ∷ xs) (suc k) i x distinct there =
    let other = nat_list_eq_equiv.symm (name x).bytes (name y).bytes ∙ unlike name (name y).bytes xs k x distinct.0 there in
    rw other (position_there name xs k (i + 1) x distinct.1 there ∙ ap Some (omega arith))

named_there : {A : Type 0} (name : A → NameValue) (xs : List A) (k : ℕ) (x : A) → AreDistinct (map name xs) → slice_get xs k ≡ Some x
    → position_from (λ y. bytes_eq (name x).bytes (name y).bytes) 0 xs ≡ Some k
named_there name xs k x distinct there = position_there name xs k 0 x distinct there ∙ ap Some (omega arith)

-- numbers of few digits
rule_there : (t : ProgTransform) (matrix rule : ℕ) → rule_writes t matrix rule ≡ true → rule < length t.rules
rule_there t matrix rule written = by (slice_get t.rules rule) refl written
  where
    by : (o : Option ProgRule) → slice_get t.rules rule ≡ o → option_map_or (writes matrix) o false ≡ true → rule < length t.rules
    by None there written = absurd (cc)
    by (Some r) there written = slice_get_within t.rules rule r there

few_rules : (t : ProgTransform) (matrix : ℕ) (set : List ℕ) → length t.rules ≤ 32 → list_all (rule_writes t matrix) set ≡ true → AllByRecursion IsFew set
few_rules t matrix [] few written = tt
few_rules t matrix (r ∷ set) few written =
    let parts = both (rule_writes t matrix r) (list_all (rule_writes t matrix) set) written in
    (omega (arith, rule_there t matrix r parts.0), few_rules t matrix set few parts.1)

few_in : (set : List ℕ) (rule : ℕ) → AllByRecursion IsFew set → is_in set rule ≡ true → IsFew rule
few_in [] rule few there = absurd (cc)
few_in (r ∷ set) rule few there = by (r == rule) refl there (few_in set rule few.1)
  where
    by : (t : Bool) → (r == rule) ≡ t → (t || is_in set rule) ≡ true → (is_in set rule ≡ true → IsFew rule) → IsFew rule
    by true e there ih = let same : r ≡ rule = eqb-true r rule e in omega (arith, few.0)
    by false e there ih = ih there

fine_levels : (set : List ℕ) (ls : List (ℕ × ℕ)) → AllByRecursion IsFew set → list_all (λ l. is_in set l.1) ls ≡ true → list_all (λ l. is_cutoff l.0) ls ≡ true → AllByRecursion IsFine ls
fine_levels set [] few rules cutoffs = tt
fine_levels set (l ∷ ls) few rules cutoffs =
    let here = both (is_in set l.1) (list_all (λ l. is_in set l.1) ls) rules in
    let cuts = both (is_cutoff l.0) (list_all (λ l. is_cutoff l.0) ls) cutoffs in
    (record { cutoff = cuts.0; rule = few_in set l.1 few here.0 }, fine_levels set ls few here.1 cuts.1)

-- no entry that is left has the site of one before
abbrev AreNew : List EntryValue → List EntryValue → Type 0
AreNew before es = AllByRecursion (λ e. has_site e.site before ≡ false) es

new_first : (es : List EntryValue) → AreNew [] es
new_first [] = tt
new_first (e ∷ es) = (refl, new_first es)

new_push : (before es : List EntryValue) (e : EntryValue) → AreNew before es → list_any (λ later. same_site later.site e.site) es ≡ false → AreNew (before ++ e ∷ []) es
new_push before [] e new other = tt
new_push before (x ∷ es) e new other =
    let parts = neither (same_site x.site e.site) (list_any (λ later. same_site later.site e.site) es) other in
    (none_push (λ y. same_site x.site y.site) before e new.0 parts.0, new_push before es e new.1 parts.1)

module _ (p : List ProgTransform) (well : IsWellFormed p) where
  -- what is printed of an entry
  record Printed (e : EntryValue) : Type 0 where
    choice : ChoiceText
    is : IsPrinted choice
    text : entry_text p e ≡ choice_text choice ++ codes "\n"
    site : site_of p choice.names choice.set ≡ Some e.site
    selector : choice.selector ≡ e.selector

  printed : (e : EntryValue) → IsEntry p e → Printed e
  printed e is =
      let t = is.site.transform in
      let fit : IsTransform (length p) t = all_at (IsTransform (length p)) p e.site.transform t well.transforms is.site.there in
      let made = both (nat_le t.inputs e.site.matrix) (nat_lt e.site.matrix (length t.matrices)) is.site.made in
      let decl = get_there t.matrices e.site.matrix (ltb-true e.site.matrix (length t.matrices) made.1) in
      let d = decl.0 in
      let d_fits : IsDecl (length t.sizes) d = all_at (IsDecl (length t.sizes)) t.matrices e.site.matrix d fit.matrices decl.1 in
      let few = few_rules t e.site.matrix e.site.set fit.few_rules is.site.written in
      let named : matrix_named d.name.bytes t ≡ Some e.site.matrix = named_there (λ m. m.name) t.matrices e.site.matrix d fit.distinct decl.1 in
      let of : matrix_of d.name.bytes e.site.set t ≡ Some e.site.matrix = rw (named, made.0, is.site.written) refl in
      record {
        choice = record { names = record { transform = t.name.bytes; matrix = d.name.bytes }; set = e.site.set; selector = e.selector };
        is = record {
          transform = fit.name.0;
          matrix = d_fits.name.0;
          some = is.site.count.0;
          few = is.site.count.1;
          rising = is.site.rising;
          rules = few;
          selector = record {
            first = few_in e.site.set e.selector.first few is.selector.first;
            few = is.selector.few;
            levels = fine_levels e.site.set e.selector.levels few is.selector.rules is.selector.cutoffs;
          };
        };
        text = rw (is.site.there, decl.1) (simp append_assoc);
        site = site_found p (record { transform = t.name.bytes; matrix = d.name.bytes }) e.site.set e.site.transform t (Some e.site.matrix)
            (named_there (λ m. m.name) p e.site.transform t well.distinct is.site.there) is.site.there of;
        selector = refl;
      }

  -- an entry's line says it
  entry_said : (before : List EntryValue) (line : ℕ) (text : List ℕ) (c : ChoiceText) (e : EntryValue) → choice_of text ≡ Some c → site_of p c.names c.set ≡ Some e.site
      → c.selector ≡ e.selector → IsSelector e.site.set e.selector → has_site e.site before ≡ false → entry_of p before line text ≡ Ok e
  entry_said before line text c e says site same is new = rw (says, site, same, is.first, is.rules, is.rising, new) refl

  entries_read : (es before : List EntryValue) (line : ℕ) → AllByRecursion (IsEntry p) es → AreNew before es → HaveDistinctSites es
      → lines_read p before line (lines (flat_map (entry_text p) es)) ≡ Ok (record { entries = before ++ es })
  entries_read [] before line all new distinct = ap (λ l. Ok (record { entries = l })) (sym (append-nil before))
  entries_read (e ∷ es) before line all new distinct =
      let it = printed e all.0 in
      let rest = flat_map (entry_text p) es in
      let first : lines (entry_text p e ++ rest) ≡ choice_text it.choice ∷ lines rest = ap (λ t. lines (t ++ rest)) it.text ∙ line_first it.choice rest it.is in
      let said = entry_said before line (choice_text it.choice) it.choice e (choice_read it.choice it.is) it.site it.selector all.0.selector new.0 in
      let ih = entries_read es (before ++ e ∷ []) (line + 1) all.1 (new_push before es e new.1 distinct.0) distinct.1 in
      ap (lines_read p before line) first ∙ rw said (ih ∙ ap (λ l. Ok (record { entries = l })) (append_assoc before (e ∷ []) es))

pub read_again : (p : List ProgTransform) (c : ConfigValue) → IsWellFormed p → IsValid p c → config_read p (config_text p c) ≡ Ok c
read_again p c well valid = entries_read p well c.entries [] 1 valid.entries (new_first c.entries) valid.distinct
