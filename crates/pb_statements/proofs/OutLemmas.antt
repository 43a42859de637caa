-- The sides of outputs, output by output.
use Rattle.std.proofs.Common.{◌≡◌, ◌∙◌, sym, ap, ℕ, suc, ◌+◌, ◌*◌, ◌<◌, List, [], ◌∷◌, ◌++◌, length, drop, take, get_or, map, Some, subst, drop-cons, add-one, arith}
use Rattle.std.specs.List.{All}
use Rattle.std.specs.Option.{option_map_or}
use Rattle.std.proofs.Math.Seq.{take-suc}
use Rattle.std.proofs.lemmas.List.{map-append}
use Rattle.std.proofs.lemmas.Option.{slice_get-get_or}
use Rattle.pb_program.specs.declared.view.Read.{Read}
use Rattle.pb_program.specs.declared.view.ReadView.TheVariants as view
use Rattle.pb_program.specs.Forms.{DeclValue}
use Rattle.pb_statements.specs.Outputs.{free_by, free_sides, numbers_in}

pub sides_here : (matrices : List DeclValue) (sizes : List ℕ) (r : Read) (d : DeclValue) → r.matrix < length matrices → d ≡ get_or matrices r.matrix d → free_sides matrices sizes r ≡ free_by r.view sizes r d
unfolding free_sides
sides_here matrices sizes r d below is = ap (λ o. option_map_or (free_by r.view sizes r) o (0, 0)) (slice_get-get_or matrices r.matrix d below ∙ ap (λ z. Some z) (sym is))

pub lone_cell : (matrices : List DeclValue) (sizes : List ℕ) (r : Read) → r.view ≡ view.Cell → r.matrix < length matrices → free_sides matrices sizes r ≡ (1, 1)
unfolding free_sides
lone_cell [] sizes r cell below = absurd (omega arith)
lone_cell (d ∷ ds) sizes r cell below = ap (λ o. option_map_or (free_by r.view sizes r) o (0, 0)) (slice_get-get_or (d ∷ ds) r.matrix d below) ∙ ap (λ v. free_by v sizes r (get_or (d ∷ ds) r.matrix d)) cell

pub at_matrix : (matrices : List DeclValue) (outs : List Read) (i : ℕ) (out : Read) → i < length outs → out ≡ get_or outs i out → All (λ o. o.matrix < length matrices) outs → out.matrix < length matrices
at_matrix matrices outs i out below is all = subst (λ (o : Read). o.matrix < length matrices) (sym is) (all i out below)

module _ (F : Read → ℕ × ℕ) (outs : List Read) (i : ℕ) (out : Read) (below : i < length outs) (is : out ≡ get_or outs i out) where
  next : drop i outs ≡ out ∷ drop (i + 1) outs
  next = rw (add-one) (drop-cons outs i out below ∙ ap (λ z. z ∷ drop (suc i) outs) (sym is))

  pub rest_next : numbers_in (map F (drop i outs)) ≡ (F out).1 * (F out).0 + numbers_in (map F (drop (i + 1) outs))
  rest_next = ap (λ l. numbers_in (map F l)) next

  pub taken_next : map F (take (i + 1) outs) ≡ map F (take i outs) ++ F out ∷ []
  taken_next = ap (map F) (rw (add-one) (take-suc outs i out below ∙ ap (λ z. take i outs ++ z ∷ []) (sym is))) ∙ map-append F (take i outs) (out ∷ [])
