-- Lists in which nothing stands twice.
use Rattle.std.proofs.Common.{◌≡◌, ◌∙◌, refl, sym, ap, subst, ℕ, ◌+◌, List, map, get_or, slice_get, Some}
use Rattle.std.specs.List.{Contains, flat_map, range_with_len}
use Rattle.std.proofs.lemmas.Option.{slice_get-get_or}
use Rattle.pb_base.proofs.ListLemmas.{in_at}
use Rattle.pb_taskgraph.specs.Graphs.{EachOnce}
use Rattle.pb_plan.proofs.FlatLemmas.{at_flat, start}
use Rattle.pb_plan.proofs.JobLemmas.{map_at}
use Rattle.pb_plan.proofs.RiseLemmas.{rises_one, rises_range}

-- by elements
abbrev pub Once : {A : Type 0} → List A → Type 0
Once {A} xs = (i j : ℕ) (x : A) → slice_get xs i ≡ Some x → slice_get xs j ≡ Some x → i ≡ j

pub once_each : (xs : List ℕ) → Once xs → EachOnce xs
once_each xs h i j below_i below_j same = h i j (get_or xs i 0) (slice_get-get_or xs i 0 below_i) (slice_get-get_or xs j 0 below_j ∙ ap Some (sym same))

pub once_range : (n : ℕ) → Once (range_with_len 0 n)
once_range n i j x e f = rises_one (λ (k : ℕ). k) (range_with_len 0 n) (rises_range 0 n) i j x x e f refl

pub once_map : {A B : Type 0} (f : A → B) (xs : List A) → Once xs → ((x y : A) → Contains xs x → Contains xs y → f x ≡ f y → x ≡ y) → Once (map f xs)
once_map f xs once same i j b e g =
    let p = map_at f xs i b e in
    let q = map_at f xs j b g in
    once i j q.0 (p.1 ∙ ap Some (same p.0 q.0 (in_at xs i p.0 p.1) (in_at xs j q.0 q.1) (p.2 ∙ sym q.2))) q.1

pub once_flat : {A B : Type 0} (f : A → List B) (xs : List A) → ((k : ℕ) (x : A) → slice_get xs k ≡ Some x → Once (f x))
    → ((k l : ℕ) (x y : A) (b : B) → slice_get xs k ≡ Some x → slice_get xs l ≡ Some y → Contains (f x) b → Contains (f y) b → k ≡ l) → Once (flat_map f xs)
once_flat {A} f xs each apart i j b e g =
    let p = at_flat f xs i b e in
    let q = at_flat f xs j b g in
    let same = apart p.number q.number p.of q.of b p.there q.there (in_at (f p.of) p.place b p.is) (in_at (f q.of) q.place b q.is) in
    let of : p.of ≡ q.of = some_same p.of q.of (sym p.there ∙ ap (slice_get xs) same ∙ q.there) in
    let place = each q.number q.of q.there p.place q.place b (subst (λ (x : A). slice_get (f x) p.place ≡ Some b) of p.is) q.is in
    p.at ∙ ap (λ k. start f xs k + p.place) same ∙ ap (λ k. start f xs q.number + k) place ∙ sym q.at
  where
    some_same : (x y : A) → Some x ≡ Some y → x ≡ y
    some_same x y h = cc
