-- The transform of a name among those of a program.
use Rattle.std.proofs.Common.{◌≡◌, ◌∙◌, ap, sym, subst, ◌≢◌, inl, inr, ◌+◌, ◌<◌, ◌≤◌, ℕ, List, [], ◌∷◌, length, map, take, get_or, Some, None, arith}
use Rattle.std.proofs.lemmas.List.{get_or-take, length-take-le, take_all}
use Rattle.std.proofs.lemmas.Bool.{cases_lt}
use Rattle.std.proofs.lemmas.Option.{get_or_from_slice_get, slice_get-get_or, slice_get_within}
use Rattle.pb_program.specs.Transforms.{TransformValue}
use Rattle.pb_program.specs.Trees.{ProgTransform, bare_transform}
use Rattle.pb_region.proofs.RuleLemmas.{held_at}
use Rattle.pb_check.specs.Accepting.{HasName, IsNowhere}

-- none of the first transforms has the name
abbrev pub IsNotAmong : List TransformValue → List ℕ → ℕ → Type 0
IsNotAmong ts name k = IsNowhere (take k (map bare_transform ts)) name

pub named_here : (ts : List TransformValue) (name : List ℕ) (k : ℕ) (x : TransformValue) → k < length ts → x ≡ get_or ts k x → x.name.bytes ≡ name → HasName (map bare_transform ts) name k
named_here ts name k x below is named = record { transform = bare_transform x; there = held_at bare_transform ts k x below is; named = named }

pub none_first : (ts : List TransformValue) (name : List ℕ) → IsNotAmong ts name 0
none_first ts name t x h = let none : None ≡ Some x = h in absurd (cc)

pub none_more : (ts : List TransformValue) (name : List ℕ) (k : ℕ) (x : TransformValue) → IsNotAmong ts name k → k < length ts → x ≡ get_or ts k x → x.name.bytes ≢ name → IsNotAmong ts name (k + 1)
none_more ts name k x before below is other t y at =
    let xs = map bare_transform ts in
    let here = held_at bare_transform ts k x below is in
    let within = slice_get_within xs k (bare_transform x) here in
    let long = length-take-le (k + 1) xs (omega (arith, within)) in
    let inside = slice_get_within (take (k + 1) xs) t y at in
    let of_all : get_or xs t y ≡ y = sym (get_or-take (k + 1) xs t y (omega (arith, inside, long))) ∙ get_or_from_slice_get (take (k + 1) xs) t y y at in
    elim (cases_lt t k) [
      | inl earlier ↦
          let short = length-take-le k xs (omega (arith, within)) in
          let there = slice_get-get_or (take k xs) t y (omega (arith, short)) in
          before t y (there ∙ ap (λ z. Some z) (get_or-take k xs t y earlier ∙ of_all))
      | inr later ↦
          let e : t ≡ k = omega (arith, inside, long) in
          let same : bare_transform x ≡ y = sym (get_or_from_slice_get xs k (bare_transform x) y here) ∙ ap (λ n. get_or xs n y) (sym e) ∙ of_all in
          λ named. other (ap (λ (z : ProgTransform). z.name.bytes) same ∙ named)
    ]

length_map : (ts : List TransformValue) → length (map bare_transform ts) ≡ length ts
length_map [] = omega arith
length_map (t ∷ ts) = omega (arith, length_map ts)

pub named_nowhere : (ts : List TransformValue) (name : List ℕ) (k : ℕ) → IsNotAmong ts name k → length ts ≤ k → IsNowhere (map bare_transform ts) name
named_nowhere ts name k before end = subst (λ xs. IsNowhere xs name) (take_all k (map bare_transform ts) (omega (arith, end, length_map ts))) before
