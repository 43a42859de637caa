-- The first fault of what is read in several steps.
use Rattle.std.proofs.Common.{◌≡◌, ℕ, ◌+◌, ◌<◌, List, [], ◌∷◌, ◌++◌, length, get_or, drop, map, refl, ap, subst, ◌∙◌, sym, add-one, append_assoc}
use Rattle.std.proofs.lemmas.List.{map-append}
use Rattle.std.proofs.lemmas.Grind.{flat_map-append}
use Rattle.std.specs.List.{flat_map}
use Rattle.std.proofs.Math.Seq.{drop-cons}
use Rattle.pb_names.specs.declared.fault.Fault.{Fault}
use Rattle.pb_names.specs.declared.fault.Fault.TheVariants.{Memory}
use Rattle.pb_names.specs.Faults.{Fails, by_memory, by_first}

pub fails_memory : (f : Fault) (xs : List Fault) → f ≡ Memory → Fails f xs
fails_memory f xs e = by_memory e

pub fails_left : (f : Fault) (xs ys : List Fault) → Fails f xs → Fails f (xs ++ ys)
fails_left f xs ys (by_memory e) = by_memory e
fails_left f [] ys (by_first first) = elim first [ ]
fails_left f (x ∷ xs) ys (by_first first) = by_first first

pub fails_right : (f : Fault) (xs ys : List Fault) → xs ≡ [] → Fails f ys → Fails f (xs ++ ys)
fails_right f xs ys none h = subst (λ zs. Fails f (zs ++ ys)) (sym none) h

module _ {A : Type 0} (faults : A → List Fault) where
  -- what is left of a list begins with its next item
  left_at : (xs : List A) (i : ℕ) (x : A) → i < length xs → x ≡ get_or xs i x → flat_map faults (drop i xs) ≡ faults x ++ flat_map faults (drop (i + 1) xs)
  left_at xs i x within here = rw (add-one, drop-cons xs i x) (rw (← here) refl)

  -- a fault of the next item is the first, where those before it have none
  pub fails_next : (xs : List A) (i : ℕ) (x : A) (f : Fault) → flat_map faults (drop i xs) ≡ flat_map faults xs → Fails f (faults x)
      → i < length xs → x ≡ get_or xs i x → Fails f (flat_map faults xs)
  fails_next xs i x f left fails within here = subst (Fails f) (sym (left_at xs i x within here) ∙ left) (fails_left f (faults x) (flat_map faults (drop (i + 1) xs)) fails)

  pub faultless_next : (xs : List A) (i : ℕ) (x : A) → flat_map faults (drop i xs) ≡ flat_map faults xs → faults x ≡ []
      → i < length xs → x ≡ get_or xs i x → flat_map faults (drop (i + 1) xs) ≡ flat_map faults xs
  faultless_next xs i x left none within here = sym (ap (λ l. l ++ flat_map faults (drop (i + 1) xs)) none) ∙ sym (left_at xs i x within here) ∙ left

-- what is built so far, and what is left to build, is the whole
pub built_next : {A B C : Type 0} (seen : B → C) (made : A → C) (old new : List B) (y : B) (xs : List A) (i : ℕ) (x : A) → map seen old ++ map made (drop i xs) ≡ map made xs
    → seen y ≡ made x → new ≡ old ++ y ∷ [] → i < length xs → x ≡ get_or xs i x → map seen new ++ map made (drop (i + 1) xs) ≡ map made xs
built_next seen made old new y xs i x before same put within here =
    ap (λ l. map seen l ++ map made (drop (i + 1) xs)) put ∙ ap (λ l. l ++ map made (drop (i + 1) xs)) (map-append seen old (y ∷ [])) ∙ append_assoc (map seen old) (seen y ∷ []) (map made (drop (i + 1) xs))
    ∙ ap (λ z. map seen old ++ z ∷ map made (drop (i + 1) xs)) same ∙ ap (λ l. map seen old ++ l) (sym left) ∙ before
  where
    left : map made (drop i xs) ≡ made x ∷ map made (drop (i + 1) xs)
    left = rw (add-one, drop-cons xs i x) (rw (← here) refl)

-- the faults of four parts, two by two
module _ {A : Type 0} (faults : A → List Fault) (a b c d : A) where
  four : flat_map faults (a ∷ b ∷ c ∷ d ∷ []) ≡ flat_map faults (a ∷ b ∷ []) ++ flat_map faults (c ∷ d ∷ [])
  four = flat_map-append faults (a ∷ b ∷ []) (c ∷ d ∷ [])

  pub four_first : (f : Fault) → Fails f (flat_map faults (a ∷ b ∷ [])) → Fails f (flat_map faults (a ∷ b ∷ c ∷ d ∷ []))
  four_first f h = subst (Fails f) (sym four) (fails_left f (flat_map faults (a ∷ b ∷ [])) (flat_map faults (c ∷ d ∷ [])) h)

  pub four_second : (f : Fault) → flat_map faults (a ∷ b ∷ []) ≡ [] → Fails f (flat_map faults (c ∷ d ∷ [])) → Fails f (flat_map faults (a ∷ b ∷ c ∷ d ∷ []))
  four_second f none h = subst (Fails f) (sym four) (fails_right f (flat_map faults (a ∷ b ∷ [])) (flat_map faults (c ∷ d ∷ [])) none h)

  pub four_faultless : flat_map faults (a ∷ b ∷ []) ≡ [] → flat_map faults (c ∷ d ∷ []) ≡ [] → flat_map faults (a ∷ b ∷ c ∷ d ∷ []) ≡ []
  four_faultless none others = four ∙ ap (λ l. l ++ flat_map faults (c ∷ d ∷ [])) none ∙ others
