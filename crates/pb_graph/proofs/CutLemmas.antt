-- What the edges inside of layers allow, with one more edge.
use Rattle.std.proofs.Common.{◌≡◌, ◌≢◌, ◌∙◌, refl, sym, ap, inl, inr, ℕ, ◌+◌, ◌<◌, Bool, true, false, ◌&&◌, ◌||◌, not, List, length, take, get_or, arith}
use Rattle.std.proofs.Math.ListN.{set}
use Rattle.std.specs.Prelude.{◌==◌, slice_index}
use Rattle.std.proofs.lemmas.Bool.{cases_eq}
use Rattle.std.proofs.lemmas.Bool.Decides.{nat_tests}
use Rattle.std.proofs.Math.Bool.{cond}
use Rattle.std.proofs.lemmas.List.{get_or_default, get_or-set_other, get_or-set_same}
use Rattle.pb_graph.specs.declared.seen.EdgeSides.{EdgeSides}
use Rattle.pb_graph.specs.declared.seen.Sides.{Sides}
use Rattle.pb_graph.specs.Cuts.{all_inside, all_sides, allowed_at, both_sides, is_inside}
use Rattle.pb_graph.proofs.ListLemmas.{all_more, and_true}

both_all : (s : Sides) → both_sides s all_sides ≡ s
both_all s = rw (and_true s.x_plus, and_true s.x_minus, and_true s.y_plus, and_true s.y_minus) refl

eq_true : (a b : ℕ) → a ≡ b → (a == b) ≡ true
eq_true a b e = grind (arith, nat_tests)

not_both : (a b place : ℕ) → a ≢ b → ((a == place) && (b == place)) ≡ false
not_both a b place ne = grind (arith, nat_tests)

not_first : (a b place : ℕ) → place ≢ a → ((a == place) && (b == place)) ≡ false
not_first a b place ne = grind (arith, nat_tests)

module _ (layer : List ℕ) (es : List EdgeSides) (i : ℕ) (d : EdgeSides) (here : i < length es) where
  abbrev e : EdgeSides
  e = get_or es i d

  one_test : (place : ℕ) (b : Bool) → is_inside layer place e ≡ b → (test : Sides → Bool) → test all_sides ≡ true → all_inside layer place (take (i + 1) es) test ≡ (all_inside layer place (take i es) test && test (cond b e.sides all_sides))
  one_test place b is test all =
      all_more (λ e. not (is_inside layer place e) || test e.sides) es i d here
      ∙ ap (λ (t : Bool). all_inside layer place (take i es) test && t) (ap (λ (t : Bool). not t || test e.sides) is ∙ by_test b)
    where
      by_test : (b : Bool) → (not b || test e.sides) ≡ test (cond b e.sides all_sides)
      by_test true = refl
      by_test false = sym all

  inside : (place : ℕ) (b : Bool) → is_inside layer place e ≡ b → allowed_at layer place (take (i + 1) es) ≡ both_sides (allowed_at layer place (take i es)) (cond b e.sides all_sides)
  inside place b is =
      let one = one_test place b is in
      rw (one (λ s. s.x_plus) refl, one (λ s. s.x_minus) refl, one (λ s. s.y_plus) refl, one (λ s. s.y_minus) refl) refl

  outside : (place : ℕ) → is_inside layer place e ≡ false → allowed_at layer place (take (i + 1) es) ≡ allowed_at layer place (take i es)
  outside place is = inside place false is ∙ both_all (allowed_at layer place (take i es))

  pub narrow_miss : (old : List Sides) (count : ℕ) → (slice_index layer e.reader ≢ slice_index layer e.source) → ((place : ℕ) → place < count → get_or old place all_sides ≡ allowed_at layer place (take i es)) → (place : ℕ) → place < count → get_or old place all_sides ≡ allowed_at layer place (take (i + 1) es)
  narrow_miss old count ne inv place below = inv place below ∙ sym (outside place (not_both (slice_index layer e.reader) (slice_index layer e.source) place ne))

  pub narrow_hit : (old new : List Sides) (count : ℕ) (now b : Sides) → (slice_index layer e.reader ≡ slice_index layer e.source) → length old ≡ count → slice_index layer e.reader < count → now ≡ get_or old (slice_index layer e.reader) now → b ≡ both_sides now e.sides → new ≡ set old (slice_index layer e.reader) b → ((place : ℕ) → place < count → get_or old place all_sides ≡ allowed_at layer place (take i es)) → (place : ℕ) → place < count → get_or new place all_sides ≡ allowed_at layer place (take (i + 1) es)
  narrow_hit old new count now b same room low is made put inv place below =
      let p : ℕ = slice_index layer e.reader in
      let there : p < length old = omega arith in
      elim (cases_eq place p) [
        | inl at ↦
            let both : is_inside layer p e ≡ true = rw (← same, eq_true p p refl) refl in
            let before : now ≡ allowed_at layer p (take i es) = is ∙ get_or_default old p now all_sides there ∙ inv p low in
            ap (λ k. get_or new k all_sides) at ∙ ap (λ l. get_or l p all_sides) put ∙ get_or-set_same old p b all_sides there ∙ made ∙ ap (λ s. both_sides s e.sides) before ∙ sym (inside p true both) ∙ ap (λ k. allowed_at layer k (take (i + 1) es)) (sym at)
        | inr ne ↦
            ap (λ l. get_or l place all_sides) put ∙ get_or-set_other old p place b all_sides ne ∙ inv place below ∙ sym (outside place (not_first p (slice_index layer e.source) place ne))
      ]

pub sides_read : (ss : List Sides) (place : ℕ) (now is : Sides) → now ≡ get_or ss place now → place < length ss → get_or ss place all_sides ≡ is → now ≡ is
sides_read ss place now is read below found = read ∙ get_or_default ss place now all_sides below ∙ found
