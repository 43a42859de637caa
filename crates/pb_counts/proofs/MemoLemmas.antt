-- Calls that are found in a map, and put there.
use Rattle.std.proofs.Common.{◌≡◌, ◌∙◌, refl, sym, ap, subst, inl, inr, ◌⊎◌, ℕ, Bool, true, false, ◌&&◌, nat_eq, List, [], ◌∷◌, map, Option, Some, None}
use Rattle.std.specs.Prelude.{if◌then◌else◌, IfSome}
use Rattle.std.specs.Cmp.Lexicographic.{pointwise}
use Rattle.std.specs.List.{Contains}
use Rattle.std.specs.Map.{lookup}
use Rattle.std.proofs.lemmas.Bool.{and_parts, eqb-true}
use Rattle.indexmap.specs.IndexMap.{insert_entry}
use Rattle.pb_base.proofs.ListLemmas.{in_cases, in_head, in_none, in_tail}
use Rattle.pb_counts.specs.declared.tally.Tally.{Tally}
use Rattle.pb_counts.specs.Memos.{KnownCall}

abbrev pub Key : Type 0
Key = ℕ × ℕ × ℕ × List ℕ

abbrev pub known : Key × Tally → KnownCall
known e = record { depth = e.0.0; transform = e.0.1; count = e.0.2; of = e.0.3; tally = e.1 }

module _ (is_same : Key → Key → Bool) (exact : (a b : Key) → is_same a b ≡ true → a ≡ b) where
  pub found : (k : Key) (es : List (Key × Tally)) (v : Tally) → lookup (is_same k) es ≡ Some v → Contains (map known es) (known (k, v))
  found k [] v e = absurd (let wrong : None ≡ Some v = e in cc)
  found k (x ∷ es) v e = step (is_same k x.0) refl e (found k es v)
    where
      step : (b : Bool) → is_same k x.0 ≡ b → (if b then Some x.1 else lookup (is_same k) es) ≡ Some v → (lookup (is_same k) es ≡ Some v → Contains (map known es) (known (k, v))) → Contains (map known (x ∷ es)) (known (k, v))
      step true same e rest = let some : Some x.1 ≡ Some v = e in let value : x.1 ≡ v = cc in subst (Contains (map known (x ∷ es))) (λ i. known (sym (exact k x.0 same) i, value i)) (in_head (known x) (map known es))
      step false same e rest = in_tail (known x) (known (k, v)) (map known es) (rest e)

  pub added : (k : Key) (v : Tally) (es : List (Key × Tally)) (c : KnownCall) → Contains (map known (insert_entry is_same es k v)) c → Contains (map known es) c ⊎ (c ≡ known (k, v))
  added k v [] c h = elim (in_cases (known (k, v)) c [] h) [
    | inl same ↦ inr (sym same)
    | inr none ↦ absurd (in_none c none)
  ]
  added k v (x ∷ es) c h = step (is_same k x.0) refl h (added k v es c)
    where
      step : (b : Bool) → is_same k x.0 ≡ b → Contains (map known (if b then (x.0, v) ∷ es else x ∷ insert_entry is_same es k v)) c → (Contains (map known (insert_entry is_same es k v)) c → Contains (map known es) c ⊎ (c ≡ known (k, v)))
          → Contains (map known (x ∷ es)) c ⊎ (c ≡ known (k, v))
      step true same h rest = elim (in_cases (known (x.0, v)) c (map known es) h) [
        | inl here ↦ inr (sym here ∙ ap (λ (a : Key). known (a, v)) (sym (exact k x.0 same)))
        | inr there ↦ inl (in_tail (known x) c (map known es) there)
      ]
      step false same h rest = elim (in_cases (known x) c (map known (insert_entry is_same es k v)) h) [
        | inl here ↦ inl (subst (Contains (map known (x ∷ es))) here (in_head (known x) (map known es)))
        | inr there ↦ later (rest there)
      ]
        where
          later : Contains (map known es) c ⊎ (c ≡ known (k, v)) → Contains (map known (x ∷ es)) c ⊎ (c ≡ known (k, v))
          later (inl old) = inl (in_tail (known x) c (map known es) old)
          later (inr new) = inr new

-- ---- the keys' own test
abbrev pub same_key : Key → Key → Bool
same_key a b = ((nat_eq a.0 b.0 && nat_eq a.1 b.1) && nat_eq a.2 b.2) && pointwise nat_eq a.3 b.3

same_list : (xs ys : List ℕ) → pointwise nat_eq xs ys ≡ true → xs ≡ ys
same_list [] [] e = refl
same_list [] (y ∷ ys) e = absurd (let wrong : false ≡ true = e in cc)
same_list (x ∷ xs) [] e = absurd (let wrong : false ≡ true = e in cc)
same_list (x ∷ xs) (y ∷ ys) e = let both = and_parts (nat_eq x y) (pointwise nat_eq xs ys) e in λ i. eqb-true x y both.0 i ∷ same_list xs ys both.1 i

pub same_is : (a b : Key) → same_key a b ≡ true → a ≡ b
same_is a b e =
    let all = and_parts ((nat_eq a.0 b.0 && nat_eq a.1 b.1) && nat_eq a.2 b.2) (pointwise nat_eq a.3 b.3) e in
    let three = and_parts (nat_eq a.0 b.0 && nat_eq a.1 b.1) (nat_eq a.2 b.2) all.0 in
    let two = and_parts (nat_eq a.0 b.0) (nat_eq a.1 b.1) three.0 in
    λ i. (eqb-true a.0 b.0 two.0 i, eqb-true a.1 b.1 two.1 i, eqb-true a.2 b.2 three.1 i, same_list a.3 b.3 all.1 i)

pub if_found : (o : Option Tally) (k : Key) (es : List (Key × Tally)) → o ≡ lookup (same_key k) es → IfSome o (λ v. Contains (map known es) (known (k, v)))
if_found None k es e = tt
if_found (Some v) k es e = found same_key same_is k es v (sym e)
