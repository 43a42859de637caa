-- Where nothing stands twice in a list of lists, nothing does in one of them, or in two.
use Rattle.std.proofs.Common.{◌≡◌, ◌∙◌, ap, ⊎_elim, ℕ, ◌+◌, ◌<◌, List, map, slice_get, Some, arith}
use Rattle.std.specs.List.{Contains, flat_map}
use Rattle.std.proofs.lemmas.Bool.{cases_order}
use Rattle.pb_base.proofs.ListLemmas.{at_in}
use Rattle.pb_plan.proofs.OnceLemmas.{Once}
use Rattle.pb_plan.proofs.FlatLemmas.{flat_at, start, start_before, within}
use Rattle.pb_plan.proofs.JobLemmas.{at_map}

module _ {A B : Type 0} (f : A → List B) (xs : List A) (once : Once (flat_map f xs)) where
  pub once_part : (k : ℕ) (x : A) → slice_get xs k ≡ Some x → Once (f x)
  once_part k x there i j b at_i at_j =
      let same = once (start f xs k + i) (start f xs k + j) b (flat_at f xs k x i b there at_i) (flat_at f xs k x j b there at_j) in
      omega (arith, same)

  pub once_apart : (k l : ℕ) (x y : A) (b : B) → slice_get xs k ≡ Some x → slice_get xs l ≡ Some y → Contains (f x) b → Contains (f y) b → k ≡ l
  once_apart k l x y b at_k at_l in_x in_y =
      let i = at_in (f x) b in_x in
      let j = at_in (f y) b in_y in
      let same = once (start f xs k + i.0) (start f xs l + j.0) b (flat_at f xs k x i.0 b at_k i.1) (flat_at f xs l y j.0 b at_l j.1) in
      ⊎_elim
      (λ equal. equal)
      (⊎_elim
      (λ (less : k < l). absurd (let before = start_before f xs k l x i.0 j.0 at_k (within (f x) i.0 b i.1) less in omega (arith, before, same)))
      (λ (more : l < k). absurd (let before = start_before f xs l k y j.0 i.0 at_l (within (f y) j.0 b j.1) more in omega (arith, before, same))))
      (cases_order k l)

-- what is mapped to one is one
pub once_mapped : {A B : Type 0} (f : A → B) (xs : List A) → Once (map f xs) → (k l : ℕ) (x y : A) → slice_get xs k ≡ Some x → slice_get xs l ≡ Some y → f x ≡ f y → k ≡ l
once_mapped f xs once k l x y at_k at_l same = once k l (f y) (at_map f xs k x at_k ∙ ap (λ z. Some z) same) (at_map f xs l y at_l)
