-- What is read is valid.
use Rattle.std.proofs.Common.{◌≡◌, ℕ, zero, suc, ◌+◌, ◌≤◌, Bool, true, false, ◌&&◌, ◌||◌, not, nat_le, nat_lt, ◌<◌, List, [], ◌∷◌, ◌++◌, length, Option, Some, None, Result, Ok, Err, if◌then◌else◌, slice_get, refl, subst, sym, ap, ◌∙◌, arith}
use Rattle.std.specs.Prelude.{codes}
use Rattle.std.specs.List.{AllByRecursion, list_all, list_any, position_from}
use Rattle.std.specs.Option.{option_map, option_and_then, option_map_or}
use Rattle.std.specs.Str.Lines.{lines}
use Rattle.std.proofs.lemmas.Option.{option_and_then_some}
use Rattle.std.proofs.lemmas.Bool.{lt-ltb}
use Rattle.pb_syntax.specs.WithinLimits.{Counts}
use Rattle.pb_program.specs.Trees.{ProgTransform}
use Rattle.pb_program.specs.Configs.{SiteValue, SelectorValue, EntryValue, ConfigValue, IsSite, IsEntry, IsValid, HaveDistinctSites, has_site, same_site, is_cutoff, is_in, is_made, is_rising, rule_writes}
use Rattle.pb_config.specs.Parts.{is_blank, after, number_next}
use Rattle.pb_config.specs.Choices.{ChoiceText, Names, choice_of, cutoff_next, if_cutoff, level_next, levels_of, names_next, put_first, rules_next, if_rising, selector_of, set_next}
use Rattle.pb_config.specs.Reading.{and_then, config_read, cutoffs_rise, entry_at, entry_by, entry_of, if_written, is_passed, lines_read, matrix_named, matrix_of, rules_are_in, site_of, transform_named}
use Rattle.pb_config.specs.declared.refusal.ConfigRefusal.{ConfigRefusal}
use Rattle.pb_config.specs.declared.refusal.ConfigRefusal.TheVariants.{BadLine, UnknownPlace}

-- steps that gave something
map_some : {A B P : Type 0} (f : A → B) (o : Option A) (y : B) → option_map f o ≡ Some y → ((x : A) → o ≡ Some x → f x ≡ y → P) → P
map_some f None y e use_it = absurd (cc)
map_some f (Some x) y e use_it = use_it x refl (cc)

some_same : {A : Type 0} (x y : A) → Some x ≡ Some y → x ≡ y
some_same x y e = cc

if_some : {A : Type 0} (b : Bool) (x y : A) → (if b then Some x else None) ≡ Some y → (b ≡ true) × (x ≡ y)
if_some true x y e = (refl, cc)
if_some false x y e = absurd (cc)

pub both : (a b : Bool) → (a && b) ≡ true → (a ≡ true) × (b ≡ true)
both true b e = (refl, e)
both false b e = absurd (cc)

-- at least one rule, and at most so many
abbrev Counting : ℕ → Type 0
Counting more = (text : List ℕ) (r : List ℕ × List ℕ) → rules_next more text ≡ Some r → Counts 1 more (length r.0)

rules_count : (more : ℕ) → Counting more
unfolding rules_next
rules_count zero text r e = absurd (cc)
rules_count (suc more) text r e = by_number (rules_count more) (number_next text) e
  where
    by_rest : Counting more → (rule : ℕ) (next : List ℕ) (o : Option (List ℕ × List ℕ)) → rules_next more next ≡ o → option_map (put_first rule) o ≡ Some r → Counts 1 (suc more) (length r.0)
    by_rest ih rule next None here e = absurd (cc)
    by_rest ih rule next (Some s) here e =
        let counted : Counts 1 more (length s.0) = ih next s here in
        let size : suc (length s.0) ≡ length r.0 = ap (λ x. length x.0) (some_same (rule ∷ s.0, s.1) r e) in
        (omega arith, omega (arith, counted.1))

    by_end : (rule : ℕ) (o : Option (List ℕ)) → option_map (λ (end : List ℕ). (rule ∷ [], end)) o ≡ Some r → Counts 1 (suc more) (length r.0)
    by_end rule None e = absurd (cc)
    by_end rule (Some end) e =
        let size : 1 ≡ length r.0 = ap (λ x. length x.0) (some_same (rule ∷ [], end) r e) in
        (omega arith, omega arith)

    by_comma : Counting more → (n : ℕ × List ℕ) (o : Option (List ℕ))
        → option_map_or (λ next. option_map (put_first n.0) (rules_next more next)) o (option_map (λ end. (n.0 ∷ [], end)) (after (codes "}") n.1)) ≡ Some r
        → Counts 1 (suc more) (length r.0)
    by_comma ih n None e = by_end n.0 (after (codes "}") n.1) e
    by_comma ih n (Some next) e = by_rest ih n.0 next (rules_next more next) refl e

    by_number : Counting more → (o : Option (ℕ × List ℕ))
        → option_and_then (λ n. option_map_or (λ next. option_map (put_first n.0) (rules_next more next)) (after (codes ",") n.1)
        (option_map (λ end. (n.0 ∷ [], end)) (after (codes "}") n.1))) o ≡ Some r
        → Counts 1 (suc more) (length r.0)
    by_number ih None e = absurd (cc)
    by_number ih (Some n) e = by_comma ih n (after (codes ",") n.1) e

-- the set
pub record IsSet (set : List ℕ) : Type 0 where
  pub count : Counts 1 32 (length set)
  pub rising : is_rising set ≡ true

set_fits : (text : List ℕ) (r : List ℕ × List ℕ) → set_next text ≡ Some r → IsSet r.0
set_fits text r e = option_and_then_some _ (after (codes "{") text) r e
    (λ next at e1. option_and_then_some if_rising (rules_next 32 next) r e1
    (λ s here e2. let parts = if_some (is_rising s.0) s r e2 in
    subst (λ x. IsSet x.0) parts.1 (record { count = rules_count 32 next s here; rising = parts.0 })))

-- the levels
pub record AreLevels (most : ℕ) (ls : List (ℕ × ℕ)) : Type 0 where
  pub few : length ls ≤ most
  pub cutoffs : list_all (λ l. is_cutoff l.0) ls ≡ true

level_fits : (text : List ℕ) (l : (ℕ × ℕ) × List ℕ) → level_next text ≡ Some l → is_cutoff l.0.0 ≡ true
level_fits text l e = option_and_then_some _ (cutoff_next text) l e
    (λ c read e1. option_and_then_some _ (after (codes "then") c.1) l e1
    (λ next at e2. map_some _ (number_next next) l e2
    (λ r number e3. ap (λ x. is_cutoff x.0.0) (sym e3) ∙ cutoff_fits c read)))
  where
    cutoff_fits : (c : ℕ × List ℕ) → cutoff_next text ≡ Some c → is_cutoff c.0 ≡ true
    cutoff_fits c e = option_and_then_some _ (after (codes "until") text) c e
        (λ next at e1. option_and_then_some if_cutoff (number_next next) c e1
        (λ n here e2. let parts = if_some (is_cutoff n.0) n c e2 in ap (λ x. is_cutoff x.0) (sym parts.1) ∙ parts.0))

abbrev Fitting : ℕ → Type 0
Fitting more = (text : List ℕ) (ls : List (ℕ × ℕ)) → levels_of more text ≡ Some ls → AreLevels more ls

levels_fit : (more : ℕ) → Fitting more
unfolding levels_of
levels_fit zero text ls e =
    let parts = if_some (list_all is_blank text) [] ls e in subst (AreLevels 0) parts.1 (record { few = omega arith; cutoffs = refl })
levels_fit (suc more) text ls e = by (levels_fit more) (list_all is_blank text) e
  where
    by_rest : Fitting more → (l : (ℕ × ℕ) × List ℕ) → is_cutoff l.0.0 ≡ true → (o : Option (List (ℕ × ℕ))) → levels_of more l.1 ≡ o
        → option_map (λ rest. l.0 ∷ rest) o ≡ Some ls → AreLevels (suc more) ls
    by_rest ih l cutoff None here e = absurd (cc)
    by_rest ih l cutoff (Some rest) here e =
        let fit : AreLevels more rest = ih l.1 rest here in
        subst (AreLevels (suc more)) (some_same (l.0 ∷ rest) ls e) (record { few = omega (arith, fit.few); cutoffs = rw (cutoff, fit.cutoffs) refl })

    by : Fitting more → (b : Bool) → (if b then Some [] else option_and_then (λ l. option_map (λ rest. l.0 ∷ rest) (levels_of more l.1)) (level_next text)) ≡ Some ls
        → AreLevels (suc more) ls
    by ih true e = subst (AreLevels (suc more)) (some_same [] ls e) (record { few = omega arith; cutoffs = refl })
    by ih false e = option_and_then_some _ (level_next text) ls e (λ l here e1. by_rest ih l (level_fits text l here) (levels_of more l.1) refl e1)

pub record IsChoice (c : ChoiceText) : Type 0 where
  pub set : IsSet c.set
  pub levels : AreLevels 7 c.selector.levels

choice_fits : (text : List ℕ) (c : ChoiceText) → choice_of text ≡ Some c → IsChoice c
choice_fits text c e = option_and_then_some _ (names_next text) c e
    (λ n at e1. option_and_then_some _ (set_next n.1) c e1
    (λ s set e2. map_some _ (selector_of s.1) c e2
    (λ selector read e3. subst IsChoice e3 (record { set = set_fits n.1 s set; levels = selector_fits s.1 selector read }))))
  where
    selector_fits : (text : List ℕ) (s : SelectorValue) → selector_of text ≡ Some s → AreLevels 7 s.levels
    selector_fits text s e = option_and_then_some _ (after (codes "=") text) s e
        (λ next at e1. option_and_then_some _ (number_next next) s e1
        (λ r number e2. map_some _ (levels_of 7 r.1) s e2
        (λ ls here e3. subst (λ x. AreLevels 7 x.levels) e3 (levels_fit 7 r.1 ls here))))

-- the site
position_within : {A : Type 0} (test : A → Bool) (i : ℕ) (xs : List A) (k : ℕ) → position_from test i xs ≡ Some k → k < i + length xs
position_within test i [] k e = absurd (cc)
position_within test i (x ∷ xs) k e = by (test x) (position_within test (i + 1) xs k) e
  where
    by : (b : Bool) → (position_from test (i + 1) xs ≡ Some k → k < (i + 1) + length xs) → (if b then Some i else position_from test (i + 1) xs) ≡ Some k
        → k < i + length (x ∷ xs)
    by true ih e = let here : i ≡ k = some_same i k e in omega arith
    by false ih e = omega (arith, ih e)

matrix_fits : (t : ProgTransform) (name set : List ℕ) (m : ℕ) → matrix_of name set t ≡ Some m
    → (is_made t m ≡ true) × (list_all (rule_writes t m) set ≡ true)
matrix_fits t name set m e = option_and_then_some (if_written t set) (matrix_named name t) m e
    (λ k named e1. let parts = if_some (nat_le t.inputs k && list_all (rule_writes t k) set) k m e1 in
    let tests = both (nat_le t.inputs k) (list_all (rule_writes t k) set) parts.0 in
    let within : nat_lt k (length t.matrices) ≡ true = lt-ltb k (length t.matrices) (omega (arith, position_within _ 0 t.matrices k named)) in
    subst (λ n. (is_made t n ≡ true) × (list_all (rule_writes t n) set ≡ true)) parts.1 (rw (tests.0, within) refl, tests.1))

site_fits : (p : List ProgTransform) (names : Names) (set : List ℕ) (s : SiteValue) → IsSet set → site_of p names set ≡ Some s → IsSite p s
site_fits p names set s fit e = option_and_then_some _ (transform_named names.transform p) s e
    (λ number named e1. option_and_then_some _ (slice_get p number) s e1
    (λ t there e2. map_some _ (matrix_of names.matrix set t) s e2
    (λ m found e3. let parts = matrix_fits t names.matrix set m found in
    subst (IsSite p) e3 (record { transform = t; there = there; made = parts.0; count = fit.count; rising = fit.rising; written = parts.1 }))))

-- the entry
judged : (a b c : Bool) (n m t : ConfigRefusal) (x e : EntryValue) → (if not a then Err n else if not b then Err m else if c then Err t else Ok x) ≡ Ok e
    → (a ≡ true) × (b ≡ true) × (c ≡ false) × (x ≡ e)
judged true true false n m t x e h = (refl, refl, refl, cc)
judged true true true n m t x e h = absurd (cc)
judged true false c n m t x e h = absurd (cc)
judged false b c n m t x e h = absurd (cc)

-- an entry that may stand after others
pub record IsNext (p : List ProgTransform) (before : List EntryValue) (e : EntryValue) : Type 0 where
  pub fits : IsEntry p e
  pub new : has_site e.site before ≡ false

entry_at_fits : (p : List ProgTransform) (before : List EntryValue) (line : ℕ) (s : SiteValue) (selector : SelectorValue) (e : EntryValue)
    → IsSite p s → AreLevels 7 selector.levels → entry_at before line selector s ≡ Ok e → IsNext p before e
entry_at_fits p before line s selector e site levels h =
    let parts = judged (rules_are_in s.set selector) (cutoffs_rise selector) (has_site s before) _ _ _ (record { site = s; selector = selector }) e h in
    let rules = both (is_in s.set selector.first) (list_all (λ l. is_in s.set l.1) selector.levels) parts.0 in
    subst (IsNext p before) parts.3 (record {
      fits = record {
        site = site;
        selector = record { first = rules.0; rules = rules.1; few = levels.few; cutoffs = levels.cutoffs; rising = parts.1 };
      };
      new = parts.2;
    })

by_site : (p : List ProgTransform) (before : List EntryValue) (line : ℕ) (c : ChoiceText) (e : EntryValue) → IsChoice c → (o : Option SiteValue)
    → site_of p c.names c.set ≡ o → option_map_or (entry_at before line c.selector) o (Err (UnknownPlace line)) ≡ Ok e → IsNext p before e
by_site p before line c e fit None at h = absurd (cc)
by_site p before line c e fit (Some s) at h = entry_at_fits p before line s c.selector e (site_fits p c.names c.set s fit.set at) fit.levels h

by_choice : (p : List ProgTransform) (before : List EntryValue) (line : ℕ) (text : List ℕ) (e : EntryValue) (o : Option ChoiceText)
    → choice_of text ≡ o → option_map_or (entry_by p before line) o (Err (BadLine line)) ≡ Ok e → IsNext p before e
by_choice p before line text e None said h = absurd (cc)
by_choice p before line text e (Some c) said h = by_site p before line c e (choice_fits text c said) (site_of p c.names c.set) refl h

-- the entries
pub all_push : {A : Type 0} (P : A → Type 0) (xs : List A) (x : A) → AllByRecursion P xs → P x → AllByRecursion P (xs ++ x ∷ [])
all_push P [] x all here = (here, tt)
all_push P (y ∷ ys) x all here = (all.0, all_push P ys x all.1 here)

pub none_push : {A : Type 0} (test : A → Bool) (xs : List A) (x : A) → list_any test xs ≡ false → test x ≡ false → list_any test (xs ++ x ∷ []) ≡ false
none_push test [] x none other = rw other refl
none_push test (y ∷ ys) x none other = by (test y) none (none_push test ys x)
  where
    by : (b : Bool) → (b || list_any test ys) ≡ false → (list_any test ys ≡ false → test x ≡ false → list_any test (ys ++ x ∷ []) ≡ false)
        → (b || list_any test (ys ++ x ∷ [])) ≡ false
    by true none ih = absurd (cc)
    by false none ih = ih none other

pub neither : (a b : Bool) → (a || b) ≡ false → (a ≡ false) × (b ≡ false)
neither true b e = absurd (cc)
neither false b e = (refl, e)

pub distinct_push : (es : List EntryValue) (x : EntryValue) → HaveDistinctSites es → has_site x.site es ≡ false → HaveDistinctSites (es ++ x ∷ [])
distinct_push [] x distinct new = (refl, tt)
distinct_push (e ∷ es) x distinct new =
    let parts = neither (same_site x.site e.site) (has_site x.site es) new in
    (none_push (λ later. same_site later.site e.site) es x distinct.0 parts.0, distinct_push es x distinct.1 parts.1)

same_ok : (r : Result ConfigValue ConfigRefusal) (x y : ConfigValue) → r ≡ Ok x → r ≡ Ok y → x ≡ y
same_ok r x y a b = cc

module _ (p : List ProgTransform) where
  abbrev Lines : List (List ℕ) → Type 0
  Lines ls = (before : List EntryValue) (line : ℕ) (c : ConfigValue) → IsValid p (record { entries = before }) → lines_read p before line ls ≡ Ok c → IsValid p c

  lines_fit : (ls : List (List ℕ)) → Lines ls
  lines_fit [] before line c valid e = subst (IsValid p) (same_ok (lines_read p before line []) (record { entries = before }) c refl e) valid
  lines_fit (text ∷ rest) before line c valid e = by (is_passed text) (lines_fit rest) e
    where
      by_entry : Lines rest → (r : Result EntryValue ConfigRefusal) → entry_of p before line text ≡ r
          → and_then (λ e. lines_read p (before ++ e ∷ []) (line + 1) rest) r ≡ Ok c → IsValid p c
      by_entry ih (Err refusal) said h = absurd (cc)
      by_entry ih (Ok x) said h =
          let next = by_choice p before line text x (choice_of text) refl said in
          ih (before ++ x ∷ []) (line + 1) c
          (record { entries = all_push (IsEntry p) before x valid.entries next.fits; distinct = distinct_push before x valid.distinct next.new }) h

      by : (b : Bool) → Lines rest
          → (if b then lines_read p before (line + 1) rest else and_then (λ e. lines_read p (before ++ e ∷ []) (line + 1) rest) (entry_of p before line text)) ≡ Ok c
          → IsValid p c
      by true ih h = ih before (line + 1) c valid h
      by false ih h = by_entry ih (entry_of p before line text) refl h

  pub read_is_valid : (text : List ℕ) (c : ConfigValue) → config_read p text ≡ Ok c → IsValid p c
  read_is_valid text c e = lines_fit (lines text) [] 1 c (record { entries = tt; distinct = tt }) e

  -- at the end of the lines
  pub at_end : (entries items : List EntryValue) (line : ℕ) (rest text : List ℕ) → lines_read p entries line (lines rest) ≡ config_read p text
      → length rest ≡ 0 → items ≡ entries → IsValid p (record { entries = items })
  at_end entries items line [] text e none same = read_is_valid text (record { entries = items }) (sym e ∙ ap (λ l. Ok (record { entries = l })) (sym same))
  at_end entries items line (b ∷ rest) text e none same = absurd (omega arith)
