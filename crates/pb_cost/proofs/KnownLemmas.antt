-- Calls that are found in a map, and put there.
use Rattle.std.proofs.Common.{◌≡◌, ◌∙◌, refl, sym, ap, subst, inl, inr, ◌⊎◌, ℕ, Bool, true, false, List, [], ◌∷◌, map, Option, Some, None}
use Rattle.std.specs.Prelude.{if◌then◌else◌, IfSome}
use Rattle.std.specs.List.{Contains}
use Rattle.std.specs.Map.{lookup}
use Rattle.indexmap.specs.IndexMap.{insert_entry}
use Rattle.pb_base.proofs.ListLemmas.{in_cases, in_head, in_none, in_tail}
use Rattle.pb_counts.proofs.MemoLemmas.{Key, same_is, same_key}
use Rattle.pb_cost.specs.Known.{KnownCall}

abbrev pub Costed : Type 0
Costed = Key × Option ℕ

abbrev pub known : Costed → KnownCall
known e = record { depth = e.0.0; transform = e.0.1; count = e.0.2; of = e.0.3; cost = e.1 }

found : (k : Key) (es : List Costed) (v : Option ℕ) → lookup (same_key k) es ≡ Some v → Contains (map known es) (known (k, v))
found k [] v e = absurd (let wrong : None ≡ Some v = e in cc)
found k (x ∷ es) v e = step (same_key k x.0) refl e (found k es v)
  where
    step : (b : Bool) → same_key k x.0 ≡ b → (if b then Some x.1 else lookup (same_key k) es) ≡ Some v → (lookup (same_key k) es ≡ Some v → Contains (map known es) (known (k, v))) → Contains (map known (x ∷ es)) (known (k, v))
    step true same e rest = let some : Some x.1 ≡ Some v = e in let value : x.1 ≡ v = cc in subst (Contains (map known (x ∷ es))) (λ i. known (sym (same_is k x.0 same) i, value i)) (in_head (known x) (map known es))
    step false same e rest = in_tail (known x) (known (k, v)) (map known es) (rest e)

pub added : (k : Key) (v : Option ℕ) (es : List Costed) (c : KnownCall) → Contains (map known (insert_entry same_key es k v)) c → Contains (map known es) c ⊎ (c ≡ known (k, v))
added k v [] c h = elim (in_cases (known (k, v)) c [] h) [
  | inl same ↦ inr (sym same)
  | inr none ↦ absurd (in_none c none)
]
added k v (x ∷ es) c h = step (same_key k x.0) refl h (added k v es c)
  where
    step : (b : Bool) → same_key k x.0 ≡ b → Contains (map known (if b then (x.0, v) ∷ es else x ∷ insert_entry same_key es k v)) c → (Contains (map known (insert_entry same_key es k v)) c → Contains (map known es) c ⊎ (c ≡ known (k, v)))
        → Contains (map known (x ∷ es)) c ⊎ (c ≡ known (k, v))
    step true same h rest = elim (in_cases (known (x.0, v)) c (map known es) h) [
      | inl here ↦ inr (sym here ∙ ap (λ (a : Key). known (a, v)) (sym (same_is k x.0 same)))
      | inr there ↦ inl (in_tail (known x) c (map known es) there)
    ]
    step false same h rest = elim (in_cases (known x) c (map known (insert_entry same_key es k v)) h) [
      | inl here ↦ inl (subst (Contains (map known (x ∷ es))) here (in_head (known x) (map known es)))
      | inr there ↦ later (rest there)
    ]
      where
        later : Contains (map known es) c ⊎ (c ≡ known (k, v)) → Contains (map known (x ∷ es)) c ⊎ (c ≡ known (k, v))
        later (inl old) = inl (in_tail (known x) c (map known es) old)
        later (inr new) = inr new

pub if_found : (o : Option (Option ℕ)) (k : Key) (es : List Costed) → o ≡ lookup (same_key k) es → IfSome o (λ v. Contains (map known es) (known (k, v)))
if_found None k es e = tt
if_found (Some v) k es e = found k es v (sym e)
