-- A map of names as the list of its entries.
use Rattle.std.proofs.Common.{◌≡◌, ℕ, Bool, true, false, cond, List, [], ◌∷◌, ◌++◌, map, take, Option, Some, None, refl, ap, ◌∙◌, sym}
use Rattle.std.proofs.lemmas.List.{map-append}
use Rattle.std.specs.List.{take-map}
use Rattle.std.specs.Map.{lookup}
use Rattle.indexmap.specs.IndexMap.{insert_entry}

module _ {K V : Type 0} (f : K → List ℕ) where
  abbrev pub shown : List (K × V) → List (List ℕ × V)
  shown es = map (λ e. (f e.0, e.1)) es

  lookup-shown : (test : List ℕ → Bool) (es : List (K × V)) → lookup test (shown es) ≡ lookup (λ k. test (f k)) es
  lookup-shown test [] = refl
  lookup-shown test (e ∷ es) = ap (cond (test (f e.0)) (Some e.1)) (lookup-shown test es)

  -- what is found in the map is what is found in the list
  pub find_shown : (test : List ℕ → Bool) (es : List (K × V)) (names : List (List ℕ × V)) (r : Option V)
      → r ≡ lookup (λ k. test (f k)) es → shown es ≡ names → r ≡ lookup test names
  find_shown test es names r found same = found ∙ sym (lookup-shown test es) ∙ ap (lookup test) same

  -- the first entries of the map are the first of the list
  pub take_shown : (n : ℕ) (es kept : List (K × V)) (names : List (List ℕ × V)) → kept ≡ take n es → shown es ≡ names → shown kept ≡ take n names
  take_shown n es kept names cut same = ap shown cut ∙ sym (take-map (λ e. (f e.0, e.1)) n es) ∙ ap (take n) same

  more : (b : Bool) (e : K × V) (k : K) (v : V) (es put : List (K × V)) (rest : Option V) → cond b (Some e.1) rest ≡ None → (rest ≡ None → put ≡ es ++ (k, v) ∷ [])
      → cond b ((e.0, v) ∷ es) (e ∷ put) ≡ e ∷ (es ++ (k, v) ∷ [])
  more true e k v es put rest none later = cc
  more false e k v es put rest none later = ap (λ l. e ∷ l) (later none)

  -- a name that wasn't there goes last
  insert_last : (eq : K → K → Bool) (k : K) (v : V) (es : List (K × V)) → lookup (eq k) es ≡ None → insert_entry eq es k v ≡ es ++ (k, v) ∷ []
  insert_last eq k v [] none = refl
  insert_last eq k v (e ∷ es) none = more (eq k e.0) e k v es (insert_entry eq es k v) (lookup (eq k) es) none (insert_last eq k v es)

  pub add_shown : (test : List ℕ → List ℕ → Bool) (k : K) (v : V) (es after : List (K × V)) (names : List (List ℕ × V))
      → lookup (test (f k)) names ≡ None → after ≡ insert_entry (λ a b. test (f a) (f b)) es k v → shown es ≡ names → shown after ≡ names ++ (f k, v) ∷ []
  add_shown test k v es after names none put same =
      ap shown (put ∙ insert_last (λ a b. test (f a) (f b)) k v es (sym (lookup-shown (test (f k)) es) ∙ ap (lookup (test (f k))) same ∙ none))
      ∙ map-append (λ e. (f e.0, e.1)) es ((k, v) ∷ []) ∙ ap (λ l. l ++ (f k, v) ∷ []) same
