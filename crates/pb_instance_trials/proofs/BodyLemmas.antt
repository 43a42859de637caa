-- What `run_body` asks of a rule and its reads.
use Rattle.std.proofs.Common.{◌≡◌, ◌∙◌, ◌≢◌, refl, sym, ap, ℕ, ◌<◌, ◌≤◌, ℤ, pos, ◌-ℤ◌, List, [], ◌∷◌, length, map, get_or, Some, IsTrue, inl, arith}
use Rattle.std.proofs.lemmas.Int.{ints}
use Rattle.std.specs.Prelude.{is_some, slice_get}
use Rattle.std.specs.List.{All, flat_map}
use Rattle.std.specs.Option.{option_map_or}
use Rattle.std.proofs.lemmas.Option.{slice_get-get_or}
use Rattle.pb_linear.specs.Numbers.{exact_value}
use Rattle.pb_values.specs.declared.outcome.Outcome.{Outcome}
use Rattle.pb_values.specs.declared.view.View.{View}
use Rattle.pb_program.specs.declared.rule.RuleKind.TheVariants as kind
use Rattle.pb_program.specs.declared.view.Read.{Read}
use Rattle.pb_program.specs.declared.view.ReadView.{ReadView}
use Rattle.pb_program.specs.declared.view.ReadView.TheVariants as view
use Rattle.pb_program.specs.Areas.{area_by, area_of, from_start}
use Rattle.pb_program.specs.Forms.{DeclValue}
use Rattle.pb_program.specs.Trees.{ProgRule, ProgTransform}
use Rattle.pb_program.specs.WellFormed.{IsRule, IsTransform, IsWellFormed}
use Rattle.pb_model.specs.Cells.{Cell, natural}
use Rattle.pb_model.specs.Equations.{sides_by, view_sides}
use Rattle.pb_eval.specs.CanRun.{AreReads, IsRunnable, OfRule, shape_sides}
use Rattle.pb_eval.proofs.HeldLemmas.{of_rule}
use Rattle.pb_region.proofs.SmallLemmas.{at_place}
use Rattle.pb_values.specs.Views.{view_cells}
use Rattle.pb_values.specs.declared.shape.TheConstants.{MOST_SIDE}
use Rattle.pb_instance_trials.specs.Tables.{told_by}
use Rattle.pb_statements.specs.Outputs.{free_by}
use Rattle.pb_eval.proofs.CutLemmas.{sides_free}
use Rattle.pb_statements.proofs.OutLemmas.{sides_here}
use Rattle.pb_eval.proofs.RegionLemmas.{runnable}

pub two : (a b c d : ℕ) → a ≡ c → b ≡ d → ◌≡◌ {A = ℕ × ℕ} (a, b) (c, d)
two a b c d e f = λ i. (e i, f i)

extent_from : (z : ℤ) → natural (z -ℤ pos 0) ≡ natural z
extent_from z = let e : z -ℤ pos 0 ≡ z = omega (arith, ints) in ap natural e

module _ (matrices : List DeclValue) (sizes : List ℕ) (c : Cell) (r : Read) (d : DeclValue) (v : View) (below : r.matrix < length matrices) (is : d ≡ get_or matrices r.matrix d) where
  pub cell_fits : r.view ≡ view.Cell → shape_sides v ≡ (1, 1) → shape_sides v ≡ view_sides matrices sizes c r
  cell_fits e h = h ∙ sym (sides_free matrices sizes c r (inl e) below ∙ sides_here matrices sizes r d below is ∙ ap (λ (k : ReadView). free_by k sizes r d) e)

  here : view_sides matrices sizes c r ≡ sides_by r.view (area_of sizes (pos c.x) (pos c.y) r d)
  here = ap (λ o. sides_by r.view (option_map_or (area_of sizes (pos c.x) (pos c.y) r) o (record { x = from_start (pos 0); y = from_start (pos 0) }))) (slice_get-get_or matrices r.matrix d below ∙ ap (λ z. Some z) (sym is))

  pub whole_fits : r.view ≡ view.Whole → shape_sides v ≡ (natural (exact_value d.w sizes), natural (exact_value d.h sizes)) → shape_sides v ≡ view_sides matrices sizes c r
  whole_fits e h =
      h ∙ two (natural (exact_value d.w sizes)) (natural (exact_value d.h sizes)) _ _ (sym (extent_from (exact_value d.w sizes))) (sym (extent_from (exact_value d.h sizes)))
      ∙ sym (here ∙ ap (λ (k : ReadView). sides_by k (area_by sizes (pos c.x) (pos c.y) k r d)) e)

pub two_fit : (F : Read → ℕ × ℕ) (views : List View) (reads : List Read) (v w : View) (r q : Read) → views ≡ v ∷ w ∷ [] → reads ≡ r ∷ q ∷ [] → shape_sides v ≡ F r → shape_sides w ≡ F q → map shape_sides views ≡ map F reads
two_fit F views reads v w r q ev er a b = ap (map shape_sides) ev ∙ ap (λ s. s ∷ shape_sides w ∷ []) a ∙ ap (λ s. F r ∷ s ∷ []) b ∙ sym (ap (map F) er)

all_told : (outcomes : List Outcome) (cells : List ℕ) → All (λ cell. IsTrue (is_some ((told_by outcomes).outcomes cell))) cells
all_told outcomes cells k d below = refl

pub are_reads : (matrices : List DeclValue) (sizes : List ℕ) (c : Cell) (r : ProgRule) (views : List View) (outcomes : List Outcome) (reads : List Read) (ms : List DeclValue) → reads ≡ r.reads → ms ≡ matrices
    → map shape_sides views ≡ map (view_sides ms sizes c) reads → All (λ v. (v.shape.w ≤ MOST_SIDE) × (v.shape.h ≤ MOST_SIDE)) views → AreReads matrices sizes c r views (told_by outcomes)
are_reads matrices sizes c r views outcomes reads ms er em sides small = record {
  sides = sides ∙ ap (λ m. map (view_sides m sizes c) reads) em ∙ ap (map (view_sides matrices sizes c)) er;
  small = small;
  told = all_told outcomes (flat_map view_cells views);
}

pub can_run : (p : List ProgTransform) (t r : ℕ) (transform : ProgTransform) (rule : ProgRule) → IsWellFormed p → slice_get p t ≡ Some transform → slice_get transform.rules r ≡ Some rule → rule.kind ≢ kind.Plan
    → OfRule p t r (λ x y. IsRunnable x.matrices y)
can_run p t r transform rule well et er plain =
    let fits = at_place (IsTransform (length p)) p t transform well.transforms et in
    let is = at_place (IsRule (length transform.sizes) transform.inputs (length transform.matrices) (length p)) transform.rules r rule fits.rules er in
    of_rule p t r (λ x y. IsRunnable x.matrices y) transform rule et er (runnable (length transform.sizes) transform.inputs (length p) transform.matrices rule is plain)
