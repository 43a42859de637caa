-- The greatest value of a side's negative says whether the side is negative somewhere.
use Rattle.std.proofs.Common.{◌≡◌, ◌∙◌, ap, ℕ, List, ℤ, pos, negsuc, ◌*ℤ◌, ◌<ℤ◌, ◌≤ℤ◌, subst, ◌+◌, ◌<◌, ◌≤◌, take, length, get_or, arith}
use Rattle.std.specs.List.{All}
use Rattle.std.proofs.lemmas.Int.{ints}
use Rattle.std.proofs.lemmas.List.{take_all}
use Rattle.std.proofs.lemmas.List.Elements.{All-more}
use Rattle.pb_linear.specs.Form.{numbers, value}
use Rattle.pb_linear.specs.Most.{Most}
use Rattle.pb_linear.specs.Numbers.{Numbers, exact_value, multiple}
use Rattle.pb_linear.specs.Sizes.{sizes_of}
use Rattle.pb_linear.specs.declared.form.Form.{Form}
use Rattle.pb_linear.specs.declared.sizes.Sizes.{Sizes}
use Rattle.pb_linear.proofs.Values.{exact_value-multiple}
use Rattle.pb_linear.specs.Held.{AreHeld}
use Rattle.pb_region.specs.Dims.{IsNegative, IsNeverNegative}

module _ (leasts : List ℕ) (n : Numbers) (f : Form) (m : ℤ) (s : Sizes) (same : numbers f ≡ multiple (negsuc 0) n) (most : Most (value f) leasts m (sizes_of s)) where
  value_of : (t : List ℕ) → value f t ≡ negsuc 0 *ℤ exact_value n t
  value_of t = ap (λ k. exact_value k t) same ∙ exact_value-multiple (negsuc 0) n t

  most_of : Most (λ t. negsuc 0 *ℤ exact_value n t) leasts m (sizes_of s)
  most_of = subst (λ (v : List ℕ → ℤ). Most v leasts m (sizes_of s)) (λ i t. value_of t i) most

  pub negative_somewhere : AreHeld (length leasts) s → pos 0 <ℤ m → IsNegative leasts n s
  negative_somewhere held above = record { held = held; most = m; above = above; greatest = most_of }

  pub never_negative : m ≤ℤ pos 0 → IsNeverNegative leasts n
  never_negative below t r = omega (arith, ints, most_of.greatest t r)

-- one more element, and the end of a list
pub all_more : {X : Type 0} (P : X → Type 0) (xs : List X) (i : ℕ) (x : X) → All P (take i xs) → i < length xs → x ≡ get_or xs i x → P x → All P (take (i + 1) xs)
all_more P xs i x h below here p = All-more P xs i x below h (subst P here p)

pub all_end : {X : Type 0} (P : X → Type 0) (xs : List X) (i : ℕ) → All P (take i xs) → length xs ≤ i → All P xs
all_end P xs i h end = subst (All P) (take_all i xs end) h
