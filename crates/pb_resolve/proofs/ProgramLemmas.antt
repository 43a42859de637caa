-- Transforms one after the other.
use Rattle.std.proofs.Common.{◌≡◌, ℕ, ◌+◌, ◌<◌, ◌≤◌, List, [], ◌∷◌, ◌++◌, length, get_or, drop, map, refl, ap, subst, ◌∙◌, sym, add-one, ◌⊎◌, inl, inr}
use Rattle.std.specs.List.{AllByRecursion}
use Rattle.std.proofs.Math.Seq.{drop-cons}
use Rattle.std.proofs.lemmas.List.{drop_all}
use Rattle.pb_syntax.specs.Transforms.{TransformValue}
use Rattle.pb_syntax.specs.Trees.{TransformTree, bare_transform}
use Rattle.pb_syntax.specs.WithinLimits.{TransformWithin}
use Rattle.pb_resolve.specs.Programs.{IsTransformWithin, first_in, named_faults_in, next_in, transform_in}
use Rattle.pb_names.specs.Transforms.{all_names, first_names, named_faults, next_transform, transform_of, refusal_of, faults_of, IsResolved, IsRefused, IsRefusedFor}
use Rattle.pb_syntax.specs.declared.refusal.Refusal.{Refusal}
use Rattle.pb_syntax.specs.declared.refusal.Refusal.TheVariants.{Memory}
use Rattle.pb_program.specs.Trees.{ProgTransform}
use Rattle.pb_names.specs.declared.fault.Fault.{Fault}
use Rattle.pb_names.specs.Faults.{Fails, by_memory, by_first, IsFirst}
use Rattle.pb_names.specs.Turns.{turns, turn_faults}

module _ (now known : List (List ℕ × ℕ)) (ts : List TransformValue) (i : ℕ) (left : first_names i now (map bare_transform (drop i ts)) ≡ first_names 0 known (map bare_transform ts)) where
  pub first_next : (t : TransformValue) (later : List (List ℕ × ℕ)) → i < length ts → t ≡ get_or ts i t → later ≡ first_in i now t
      → first_names (i + 1) later (map bare_transform (drop (i + 1) ts)) ≡ first_names 0 known (map bare_transform ts)
  unfolding first_in
  first_next t later within here put = ap (λ l. first_names (i + 1) l (map bare_transform (drop (i + 1) ts))) put ∙ sym (ap (λ l. first_names i now (map bare_transform l)) next_is) ∙ left
    where
      next_is : drop i ts ≡ t ∷ drop (i + 1) ts
      next_is = rw (add-one, drop-cons ts i t) (rw (← here) refl)

  pub first_end : length ts ≤ i → now ≡ first_names 0 known (map bare_transform ts)
  first_end end = sym (ap (λ l. first_names i now (map bare_transform l)) (drop_all i ts end)) ∙ left

transforms_are : (all known : List (List ℕ × ℕ)) (ts : List TransformValue) → turns next_in (λ _ t. transform_in all t) known ts ≡ map (transform_of all) (map bare_transform ts)
unfolding transform_in
transforms_are all known [] = refl
transforms_are all known (t ∷ ts) = ap (λ l. transform_in all t ∷ l) (transforms_are all (next_in known t) ts)

faults_are : (all known : List (List ℕ × ℕ)) (ts : List TransformValue) → turn_faults next_in (named_faults_in all) known ts ≡ turn_faults next_transform (named_faults all) known (map bare_transform ts)
unfolding named_faults_in next_in
faults_are all known [] = refl
faults_are all known (t ∷ ts) = ap (λ l. named_faults_in all known t ++ l) (faults_are all (next_in known t) ts)

pub all_within : (ts : List TransformValue) → AllByRecursion TransformWithin (map bare_transform ts) → AllByRecursion IsTransformWithin ts
unfolding IsTransformWithin
all_within [] h = h
all_within (t ∷ ts) h = (h.0, all_within ts h.1)

module _ (ts : List TransformValue) (all : List (List ℕ × ℕ)) (named : all ≡ all_names (map bare_transform ts)) where
  pub resolved : (p : List ProgTransform) → p ≡ turns next_in (λ _ t. transform_in all t) [] ts → turn_faults next_in (named_faults_in all) [] ts ≡ [] → IsResolved (map bare_transform ts) p
  resolved p made none = record {
    faultless = sym (faults_are all [] ts ∙ ap (λ a. turn_faults next_transform (named_faults a) [] (map bare_transform ts)) named) ∙ none;
    program = made ∙ transforms_are all [] ts ∙ ap (λ a. map (transform_of a) (map bare_transform ts)) named;
  }

  pub faults_told : (f : Fault) → Fails f (turn_faults next_in (named_faults_in all) [] ts) → Fails f (faults_of (map bare_transform ts))
  faults_told f fails = subst (Fails f) (faults_are all [] ts ∙ ap (λ a. turn_faults next_transform (named_faults a) [] (map bare_transform ts)) named) fails

first_is : (f : Fault) (faults : List Fault) → IsFirst f faults → IsRefusedFor faults (refusal_of f)
first_is f [] first = first
first_is f (g ∷ rest) first = ap refusal_of first

pub refused : (tree : List TransformTree) (f : Fault) (e : Refusal) → Fails f (faults_of tree) → e ≡ refusal_of f → (e ≡ Memory) ⊎ IsRefused tree e
refused tree f e (by_memory m) is = inl (is ∙ ap refusal_of m)
refused tree f e (by_first first) is = inr (subst (IsRefused tree) (sym is) (first_is f (faults_of tree) first))
