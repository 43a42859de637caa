-- Terms over the first cells of reads.
use Rattle.std.proofs.Common.{◌≡◌, ◌∙◌, sym, ap, subst, ℕ, ◌<◌, ℤ, pos, List, [], ◌∷◌, Result, ◌+◌, ◌≤◌, length, take, get_or, Bool, true, IsTrue, Ok, arith}
use Rattle.std.specs.Prelude.{slice_index_or}
use Rattle.std.specs.List.{All}
use Rattle.std.proofs.lemmas.List.{get_or-map, length-map, take_all}
use Rattle.std.proofs.lemmas.List.Elements.{All-more}
use Rattle.std.proofs.lemmas.Bool.Decides.{nat_tests}
use Rattle.pb_syntax.specs.declared.tree.expression.Operator.{Operator}
use Rattle.pb_linear.specs.declared.sizes.Sizes.{Sizes}
use Rattle.pb_values.specs.Cells.{Turn}
use Rattle.pb_values.specs.Views.{cell_of}
use Rattle.pb_values.specs.declared.outcome.Kind.{Kind}
use Rattle.pb_values.specs.declared.view.View.{View}
use Rattle.pb_program.specs.declared.expression.Expr.{Expr}
use Rattle.pb_program.specs.Exprs.{bare}
use Rattle.pb_model.specs.Bodies.{Bindings, Store, if_ok, number_of, value, view_of}
use Rattle.pb_model.specs.Grids.{Grid, no_grid}
use Rattle.pb_eval.specs.FirstCells.{BeginAt, IsOfCell, TellsFirst, is_of_cell}
use Rattle.pb_eval.specs.Running.{names_of}
use Rattle.pb_statements.specs.Shown.{grid_told, number_told}
use Rattle.pb_eval.specs.Terms.{StandFor, TermsValue, steps_value, term_value, terms_value}
use Rattle.pb_statements.specs.Working.{value_in}
use Rattle.pb_eval.specs.declared.terms.Term.{Term}
use Rattle.pb_eval.specs.declared.terms.Term.TheVariants.{Number, Cell}
use Rattle.pb_statements.proofs.CellLemmas.{first_told}
use Rattle.pb_statements.proofs.SceneLemmas.{get_or_any}

module _ (b : Bindings) (st : Store) where
  pub number_is : (t : Term) (n m : ℤ) → t ≡ Number n → m ≡ n → term_value b st t ≡ Ok m
  unfolding term_value
  number_is t n m is same = ap (term_value b st) is ∙ ap Ok (sym same)

  pub cell_is : (turn : Turn) (cells : List ℕ) → TellsFirst turn cells b → (t : Term) (k d : ℕ) (n m : ℤ) → t ≡ Cell k → k < length cells → n ≡ number_told turn (get_or cells k d) → m ≡ n → term_value b st t ≡ Ok m
  unfolding term_value
  cell_is turn cells tells t k d n m is below told same =
      ap (term_value b st) is ∙ ap Ok (tells k below st ∙ ap (number_told turn) (get_or_any cells k 0 d below) ∙ sym told ∙ sym same)

pub cell_below : (reads : ℕ) (t : Term) (k : ℕ) → t ≡ Cell k → IsOfCell reads t → k < reads
cell_below reads t k is fits = below (subst (IsOfCell reads) is fits)
  where
    below : IsOfCell reads (Cell k) → k < reads
    below h = grind (arith, nat_tests, h)

-- ---- all terms
module _ (reads : ℕ) (rest items : List (Operator × Term)) (same : items ≡ rest) where
  pub more_of : (i : ℕ) (d : Operator × Term) (b : Bool) → i < length items → All (λ s. IsOfCell reads s.1) (take i rest) → b ≡ is_of_cell reads (get_or items i d).1 → b ≡ true → All (λ s. IsOfCell reads s.1) (take (i + 1) rest)
  more_of i d b below before is holds =
      let one : IsOfCell reads (get_or items i d).1 = sym is ∙ holds in
      subst (λ l. All (λ s. IsOfCell reads s.1) (take (i + 1) l)) same
      (All-more (λ (s : Operator × Term). IsOfCell reads s.1) items i d below (subst (λ l. All (λ s. IsOfCell reads s.1) (take i l)) (sym same) before) one)

  pub all_of : (i : ℕ) → length items ≤ i → All (λ s. IsOfCell reads s.1) (take i rest) → All (λ s. IsOfCell reads s.1) rest
  all_of i past are = subst (λ l. All (λ s. IsOfCell reads s.1) l) (take_all i rest (subst (λ l. length l ≤ i) same past)) are

pub terms_are : (b : Bindings) (st : Store) (t : TermsValue) (first : Term) (rest : List (Operator × Term)) (n m : ℤ) (r : Result ℤ Kind) → first ≡ t.first → rest ≡ t.rest → m ≡ n → term_value b st first ≡ Ok n → r ≡ steps_value b st m rest → r ≡ terms_value b st t
unfolding terms_value
terms_are b st t first rest n m r same_first same_rest same is made =
    made ∙ (λ i. steps_value b st (same i) (same_rest i)) ∙ sym (ap (λ q. if_ok q (λ a. steps_value b st a t.rest)) (ap (term_value b st) (sym same_first) ∙ is))

-- ---- what names stand for
pub tells_first : (turn : Turn) (sizes : Sizes) (x y : ℕ) (views : List View) (outs : List (ℕ × ℕ)) (cells : List ℕ) → BeginAt cells views → TellsFirst turn cells (names_of turn sizes x y views outs)
unfolding names_of number_of view_of
tells_first turn sizes x y [] outs cells h k below st = absurd (let none : length cells ≡ 0 = ap length (sym h.first) in omega (arith, below, none))
tells_first turn sizes x y (d ∷ vs) outs cells h k below st =
    let views = d ∷ vs in
    let there : k < length views = omega (arith, below, ap length (sym h.first), length-map views (λ (v : View). v.first)) in
    let v = get_or views k d in
    let some = h.some k d there in
    let start : cell_of v 0 0 ≡ get_or cells k 0 = omega (arith, sym (get_or-map (λ (u : View). u.first) views k d 0 there) ∙ ap (λ (l : List ℕ). get_or l k 0) h.first) in
    ap (λ (g : Grid ℤ). slice_index_or g.cells 0 (pos 0)) (get_or-map (grid_told turn) views k d no_grid there)
    ∙ first_told turn v some.0 some.1 ∙ ap (number_told turn) start

pub value_by_terms : (b : Bindings) (st : Store) (e : Expr) (t : TermsValue) (r : Result ℤ Kind) → IsTrue t.is_whole → StandFor e t → r ≡ terms_value b st t → value b st (bare e) ≡ r
unfolding value_in
value_by_terms b st e t r whole stands is = stands whole b st ∙ sym is
