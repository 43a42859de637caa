-- The size variables of a transform: each stands alone as a dimension of a matrix that is given, and has its number.
use Rattle.std.proofs.Common.{◌≡◌, ℕ, zero, suc, ◌+◌, ◌<◌, ◌≤◌, ℤ, pos, ◌+ℤ◌, Bool, true, false, if◌then◌else◌, ◌&&◌, ◌==◌, List, [], ◌∷◌, ◌++◌, map, take, drop, length, Option, Some, None, is_some, ◌⊎◌, inl, inr, refl, ap, subst, sym, ◌∙◌, arith, add-one}
use Rattle.std.specs.List.{AllByRecursion}
use Rattle.pb_values.specs.Name.{NameValue}
use Rattle.pb_syntax.specs.declared.tree.form.TermText.{TermText}
use Rattle.pb_syntax.specs.Forms.{FormValue, DeclValue}
use Rattle.pb_syntax.specs.Limits.{alone, alone_in}
use Rattle.pb_syntax.specs.WithinLimits.{DeclWithin, DimsWithin, FormWithin, IsNamed, NameFits, TermWithin}
use Rattle.pb_program.specs.declared.meaning.Meaning.{Meaning}
use Rattle.pb_program.specs.declared.meaning.Meaning.TheVariants as meaning
use Rattle.pb_program.specs.Forms.{constant_numbers, no_coefficients, nothing}
use Rattle.pb_linear.specs.Numbers.{coefficient}
use Rattle.pb_program.specs.WellFormed.{IsBound, size_numbers}
use Rattle.pb_names.specs.Names.{look}
use Rattle.pb_names.specs.Sums.{add_found, add_size, add_to, collected}
use Rattle.pb_names.specs.Rules.{decl_of}
use Rattle.pb_names.specs.Transforms.{entries, put_size, sizes_in, sizes_of}
use Rattle.pb_names.proofs.ListFits.{all_push}
use Rattle.pb_names.proofs.FormsFit.{all_zero}
use Rattle.pb_names.proofs.LookLemmas.{alone_is, look_kept, look_last, none_found}
use Rattle.pb_names.proofs.SizeNames.{entries_more}

-- the name stands alone among these forms, or as a dimension of these matrices
abbrev pub IsAmong : NameValue → List FormValue → Type 0
IsAmong n [] = ⊥
IsAmong n (f ∷ fs) = (alone f ≡ Some n) ⊎ IsAmong n fs

abbrev pub Stands : NameValue → List DeclValue → Type 0
Stands n [] = ⊥
Stands n (d ∷ ds) = IsAmong n d.dims ⊎ Stands n ds

-- what holds of each name that stands alone holds of each size
module _ (P : NameValue → Type 0) where
  put_all : (known : List NameValue) (o : Option NameValue) → AllByRecursion P known → ((n : NameValue) → o ≡ Some n → P n)
      → AllByRecursion P (put_size known o)
  put_all known None h k = h
  put_all known (Some n) h k = by (is_some (look n.bytes (entries 0 known)))
    where
      by : (b : Bool) → AllByRecursion P (if b then known else known ++ n ∷ [])
      by true = h
      by false = all_push P known n h (k n refl)

  in_all : (known : List NameValue) (fs : List FormValue) → AllByRecursion P known → ((n : NameValue) → IsAmong n fs → P n)
      → AllByRecursion P (sizes_in known fs)
  in_all known [] h k = h
  in_all known (f ∷ fs) h k = in_all (put_size known (alone f)) fs (put_all known (alone f) h (λ n e. k n (inl e))) (λ n s. k n (inr s))

  pub of_all : (known : List NameValue) (ds : List DeclValue) → AllByRecursion P known → ((n : NameValue) → Stands n ds → P n)
      → AllByRecursion P (sizes_of known ds)
  of_all known [] h k = h
  of_all known (d ∷ ds) h k = of_all (sizes_in known d.dims) ds (in_all known d.dims h (λ n s. k n (inl s))) (λ n s. k n (inr s))

-- each size is found under its number
abbrev Numbered : List (List ℕ × Meaning) → ℕ → List NameValue → Type 0
Numbered names k [] = Unit {0}
Numbered names k (n ∷ ns) = (look n.bytes names ≡ Some (meaning.Size k)) × Numbered names (k + 1) ns

numbered_more : (names others : List (List ℕ × Meaning)) (k : ℕ) (ns : List NameValue) (n : NameValue) → Numbered names k ns
    → look n.bytes (names ++ others) ≡ Some (meaning.Size (k + length ns)) → Numbered (names ++ others) k (ns ++ n ∷ [])
numbered_more names others k [] n h e = (e ∙ ap (λ i. Some (meaning.Size i)) (omega arith), tt {0})
numbered_more names others k (m ∷ ns) n h e =
    (look_kept m.bytes (meaning.Size k) names others h.0, numbered_more names others (k + 1) ns n h.1 (e ∙ ap (λ i. Some (meaning.Size i)) (omega arith)))

put_numbered : (known : List NameValue) (o : Option NameValue) → Numbered (entries 0 known) 0 known
    → Numbered (entries 0 (put_size known o)) 0 (put_size known o)
put_numbered known None h = h
put_numbered known (Some n) h = by (is_some (look n.bytes (entries 0 known))) refl
  where
    by : (b : Bool) → is_some (look n.bytes (entries 0 known)) ≡ b
        → Numbered (entries 0 (if b then known else known ++ n ∷ [])) 0 (if b then known else known ++ n ∷ [])
    by true e = h
    by false e =
        let last : List (List ℕ × Meaning) = (n.bytes, meaning.Size (length known)) ∷ [] in
        let found = look_last n.bytes (meaning.Size (length known)) (entries 0 known) (none_found (look n.bytes (entries 0 known)) e) in
        subst (λ names. Numbered names 0 (known ++ n ∷ [])) (sym (entries_more known n))
        (numbered_more (entries 0 known) last 0 known n h (found ∙ ap (λ i. Some (meaning.Size i)) (omega arith)))

in_numbered : (known : List NameValue) (fs : List FormValue) → Numbered (entries 0 known) 0 known
    → Numbered (entries 0 (sizes_in known fs)) 0 (sizes_in known fs)
in_numbered known [] h = h
in_numbered known (f ∷ fs) h = in_numbered (put_size known (alone f)) fs (put_numbered known (alone f) h)

of_numbered : (known : List NameValue) (ds : List DeclValue) → Numbered (entries 0 known) 0 known
    → Numbered (entries 0 (sizes_of known ds)) 0 (sizes_of known ds)
of_numbered known [] h = h
of_numbered known (d ∷ ds) h = of_numbered (sizes_in known d.dims) ds (in_numbered known d.dims h)

-- a name alone is a name of the grammar
module _ (n : NameValue) where
  named_by : (b : Bool) (o : Option NameValue) (q : ℕ) → (if b then o else None) ≡ Some n → NameFits o q → IsNamed n
  named_by true o q e h = subst (λ m. NameFits m q) e h
  named_by false o q e h = cc

  named_in : (minus : Bool) (ts : List TermText) → alone_in minus ts ≡ Some n → AllByRecursion TermWithin ts → IsNamed n
  named_in false (t ∷ []) e w = named_by (t.factor == 1 && (t.quotient == 0)) t.name t.quotient e w.0.name
  named_in false [] e w = cc
  named_in false (t ∷ u ∷ ts) e w = cc
  named_in true ts e w = cc

  named_among : (fs : List FormValue) → AllByRecursion FormWithin fs → IsAmong n fs → IsNamed n
  named_among (f ∷ fs) w (inl e) = named_in f.minus f.terms e w.0.terms
  named_among (f ∷ fs) w (inr s) = named_among fs w.1 s
  named_among [] w s = elim s [ ]

  pub named_there : (ds : List DeclValue) → AllByRecursion DeclWithin ds → Stands n ds → IsNamed n
  named_there (d ∷ ds) w (inl s) = named_among d.dims w.0.dims.1 s
  named_there (d ∷ ds) w (inr s) = named_there ds w.1 s
  named_there [] w s = elim s [ ]

-- the form of a size variable alone
one_more : (row : List ℤ) (k : ℕ) → k < length row → AllByRecursion (λ z. z ≡ pos 0) row
    → (coefficient (add_to row k (pos 1)) k ≡ pos 1) × AllByRecursion (λ z. z ≡ pos 0) (take k (add_to row k (pos 1)))
    × AllByRecursion (λ z. z ≡ pos 0) (drop (suc k) (add_to row k (pos 1)))
one_more [] k within h = absurd (omega arith)
one_more (z ∷ zs) zero within h = (ap (λ y. y +ℤ pos 1) h.0, tt {0}, h.1)
one_more (z ∷ zs) (suc k) within h = let r = one_more zs k (omega arith) h.1 in (r.0, (h.0, r.1), r.2)

one_size : (k : ℕ) → k < 8 → size_numbers k (add_size (constant_numbers (pos 0)) k 0 (pos 1))
one_size k h = let r = one_more no_coefficients k h all_zero in (refl, r.0, r.1, rw add-one r.2, all_zero, all_zero, all_zero)

module _ (names : List (List ℕ × Meaning)) (n : NameValue) (k : ℕ) (few : k < 8) (found : look n.bytes names ≡ Some (meaning.Size k)) where
  alone_size : (f : FormValue) → alone f ≡ Some n → size_numbers k (collected names f).rest
  alone_size f e = subst (λ c. size_numbers k c.rest) (sym (alone_is names n f e ∙ ap (λ o. add_found nothing o 0 (pos 1)) found)) (one_size k few)

  bound_by : (m : NameValue) (fs : List FormValue) → DimsWithin fs → IsAmong n fs
      → size_numbers k (decl_of names m fs).w ⊎ size_numbers k (decl_of names m fs).h
  bound_by m (f ∷ []) w (inl e) = inl (alone_size f e)
  bound_by m (f ∷ g ∷ fs) w (inl e) = inl (alone_size f e)
  bound_by m (f ∷ g ∷ fs) w (inr (inl e)) = inr (alone_size g e)
  bound_by m (f ∷ g ∷ h ∷ fs) w (inr (inr s)) = let few = w.0.1 in absurd (omega arith)
  bound_by m (f ∷ g ∷ []) w (inr (inr s)) = elim s [ ]
  bound_by m (f ∷ []) w (inr s) = elim s [ ]
  bound_by m [] w s = elim s [ ]

  pub bound_there : (ds : List DeclValue) → AllByRecursion DeclWithin ds → Stands n ds → IsBound (map (λ d. decl_of names d.name d.dims) ds) k
  bound_there (d ∷ ds) w (inl s) = record { place = 0; decl = decl_of names d.name d.dims; there = refl; alone = bound_by d.name d.dims w.0.dims s }
  bound_there (d ∷ ds) w (inr s) = let b = bound_there ds w.1 s in record { place = suc b.place; decl = b.decl; there = b.there; alone = b.alone }
  bound_there [] w s = elim s [ ]

-- the name at a place, and its number
at : (names : List (List ℕ × Meaning)) (P : NameValue → Type 0) (i : ℕ) (ns : List NameValue) (k : ℕ) → Numbered names i ns → AllByRecursion P ns
    → k < length ns
    → (n : NameValue) × (look n.bytes names ≡ Some (meaning.Size (i + k))) × P n
at names P i [] k h w within = absurd (omega arith)
at names P i (n ∷ ns) zero h w within = (n, h.0 ∙ ap (λ j. Some (meaning.Size j)) (omega arith), w.0)
at names P i (n ∷ ns) (suc k) h w within =
    let r = at names P (i + 1) ns k h.1 w.1 (omega arith) in
    (r.0, r.1 ∙ ap (λ j. Some (meaning.Size j)) (omega arith), r.2)

module _ (ds : List DeclValue) (w : AllByRecursion DeclWithin ds) where
  pub sizes_named : AllByRecursion IsNamed (sizes_of [] ds)
  sizes_named = of_all IsNamed [] ds (tt {0}) (λ n s. named_there n ds w s)

  pub sizes_bound : (k : ℕ) → k < length (sizes_of [] ds) → length (sizes_of [] ds) ≤ 8
      → IsBound (map (λ d. decl_of (entries 0 (sizes_of [] ds)) d.name d.dims) ds) k
  sizes_bound k within few =
      let names = entries 0 (sizes_of [] ds) in
      let stands : AllByRecursion (λ n. Stands n ds) (sizes_of [] ds) = of_all (λ n. Stands n ds) [] ds (tt {0}) (λ n s. s) in
      let n = at names (λ n. Stands n ds) 0 (sizes_of [] ds) k (of_numbered [] ds (tt {0})) stands within in
      bound_there names n.0 k (omega arith) (n.1 ∙ ap (λ j. Some (meaning.Size j)) (omega arith)) ds w n.2
