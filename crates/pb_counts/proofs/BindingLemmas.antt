-- The sizes that matrices bind, matrix by matrix.
use Rattle.std.proofs.Common.{◌≡◌, ◌∙◌, sym, ap, ℕ, ◌+◌, ◌<◌, ◌≤◌, List, drop, take, map, length, get_or, pos, Option, Some, None, arith}
use Rattle.std.specs.Prelude.{unwrap_or}
use Rattle.std.specs.List.{range_with_len, zip}
use Rattle.std.specs.Option.{option_or}
use Rattle.std.proofs.lemmas.List.{at_drop_all, at_drop_more, ext_get_or, get_or-map, get_or-take, get_or_default, length-take-le}
use Rattle.std.proofs.lemmas.List.FromFn.{get_or-range_with_len, length-map-range_with_len, length-range_with_len}
use Rattle.std.proofs.lemmas.Slice.Zip.{get_or-zip, length-zip}
use Rattle.pb_program.specs.Forms.{DeclValue}
use Rattle.pb_recursion.specs.Shapes.{Sides, first_side_for, side_for}

module _ (k : ℕ) (decls : List DeclValue) (given : List Sides) (i : ℕ) (before : first_side_for k (zip decls given) ≡ first_side_for k (drop i (zip decls given))) where
  abbrev gs : List (DeclValue × Sides)
  gs = zip decls given

  module _ (d : DeclValue) (at : d ≡ get_or decls i d) (in_decls : i < length decls) (in_given : i < length given) where
    abbrev g : DeclValue × Sides
    g = (d, get_or given i (pos 0, pos 0))

    abbrev rest : Option ℕ
    rest = first_side_for k (drop (i + 1) gs)

    pair : get_or gs i g ≡ g
    pair = get_or-zip decls given i g in_decls in_given ∙ (λ j. (sym at j, get_or_default given i g.1 (pos 0, pos 0) in_given j))

    step : first_side_for k gs ≡ option_or (side_for k g) rest
    step = before ∙ at_drop_more (first_side_for k) gs i g (omega (arith, length-zip decls given, in_decls, in_given)) ∙ ap (λ x. option_or (side_for k x) rest) pair

    pub found : (v : ℕ) → side_for k g ≡ Some v → v ≡ unwrap_or (first_side_for k gs) 0
    found v is = sym (ap (λ o. unwrap_or o 0) (step ∙ ap (λ o. option_or o rest) is))

    pub passed : None ≡ side_for k g → first_side_for k gs ≡ first_side_for k (drop (i + 1) gs)
    passed is = step ∙ ap (λ o. option_or o rest) (sym is)

  pub none_found : length gs ≤ i → 0 ≡ unwrap_or (first_side_for k gs) 0
  none_found past = sym (ap (λ o. unwrap_or o 0) (before ∙ at_drop_all (first_side_for k) gs i past))

-- so many values, held in an array
pub held : (f : ℕ → ℕ) (count : ℕ) (of : List ℕ) → count ≤ length of → ((k : ℕ) → k < count → get_or of k 0 ≡ f k) → take count of ≡ map f (range_with_len 0 count)
held f count of enough each =
    let long = length-take-le count of enough in
    let wide = length-map-range_with_len f 0 count in
    ext_get_or 0 (take count of) (map f (range_with_len 0 count)) (omega (arith, long, wide)) (λ k below.
    let low : k < count = omega (arith, below, long) in
    let there : get_or (range_with_len 0 count) k 0 ≡ k = get_or-range_with_len 0 count k 0 low ∙ omega arith in
    let value = get_or-map f (range_with_len 0 count) k 0 0 (omega (arith, low, length-range_with_len 0 count)) in
    get_or-take count of k 0 low ∙ each k low ∙ sym (value ∙ ap f there))
