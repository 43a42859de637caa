-- Counts that are added up one by one.
use Rattle.std.proofs.Common.{◌≡◌, ◌∙◌, refl, sym, ap, ℕ, ◌+◌, ◌<◌, ◌≤◌, List, [], ◌∷◌, ◌++◌, length, map, take, get_or, arith}
use Rattle.std.specs.Prelude.{max}
use Rattle.std.proofs.lemmas.List.{map_more, take_all}
use Rattle.pb_recursion.specs.Counts.{Counted, all_of, both, nothing}
use Rattle.pb_counts.specs.Tallies.{capped}

both_first : (a : Counted) → both a nothing ≡ both nothing a
both_first a = λ i. record {
  calls = (let e : a.calls + 0 ≡ 0 + a.calls = omega arith in e) i;
  side = (let e : max a.side 0 ≡ max 0 a.side = omega arith in e) i;
  cells = (let e : a.cells + 0 ≡ 0 + a.cells = omega arith in e) i;
}

both_nested : (a b c : Counted) → both a (both b c) ≡ both (both a b) c
both_nested a b c = λ i. record {
  calls = (let e : a.calls + (b.calls + c.calls) ≡ a.calls + b.calls + c.calls = omega arith in e) i;
  side = (let e : max a.side (max b.side c.side) ≡ max (max a.side b.side) c.side = omega arith in e) i;
  cells = (let e : a.cells + (b.cells + c.cells) ≡ a.cells + b.cells + c.cells = omega arith in e) i;
}

all_push : (xs : List Counted) (y : Counted) → all_of (xs ++ y ∷ []) ≡ both (all_of xs) y
all_push [] y = both_first y
all_push (x ∷ xs) y = ap (both x) (all_push xs y) ∙ both_nested x (all_of xs) y

pub capped_both : (a b : Counted) → capped (both (capped a) (capped b)) ≡ capped (both a b)
capped_both a b = grind arith

module _ {A : Type 0} (f : A → Counted) (xs : List A) (i : ℕ) where
  pub count_next : (x : A) → i < length xs → (tally one sum : Counted) → tally ≡ capped (all_of (map f (take i xs))) → one ≡ capped (f (get_or xs i x)) → sum ≡ capped (both tally one) → sum ≡ capped (all_of (map f (take (i + 1) xs)))
  count_next x below tally one sum before is next =
      let before_all = all_of (map f (take i xs)) in
      let item = f (get_or xs i x) in
      let after : all_of (map f (take (i + 1) xs)) ≡ both before_all item = ap all_of (map_more f xs i x below) ∙ all_push (map f (take i xs)) item in
      next ∙ ap (λ c. capped (both c one)) before ∙ ap (λ c. capped (both (capped before_all) c)) is ∙ capped_both before_all item ∙ ap capped (sym after)

  pub count_end : (tally : Counted) → length xs ≤ i → tally ≡ capped (all_of (map f (take i xs))) → tally ≡ capped (all_of (map f xs))
  count_end tally past before = before ∙ ap (λ l. capped (all_of (map f l))) (take_all i xs past)

pub map_twice : {A B C : Type 0} (f : A → B) (g : B → C) (xs : List A) → map g (map f xs) ≡ map (λ x. g (f x)) xs
map_twice f g [] = refl
map_twice f g (x ∷ xs) = ap (λ l. g (f x) ∷ l) (map_twice f g xs)
