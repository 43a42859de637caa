-- A rule for regions has the same views, and gives the same, at each cell.
use Rattle.std.proofs.Common.{◌≡◌, ◌∙◌, refl, sym, ap, subst, ℕ, ◌<◌, ◌≤◌, ◌≢◌, ℤ, pos, Bool, List, [], ◌∷◌, ◌++◌, length, map, Option, Some, None, Ok, Err, Result, arith}
use Rattle.std.specs.Prelude.{◌==◌, if◌then◌else◌, slice_get}
use Rattle.std.proofs.lemmas.List.Elements.{All-cons, All-nil}
use Rattle.std.specs.List.{All, AllByRecursion, flat_map}
use Rattle.std.specs.Option.{option_map_or}
use Rattle.pb_values.specs.declared.outcome.Kind.{Kind}
use Rattle.pb_values.specs.declared.outcome.Outcome.{Outcome}
use Rattle.pb_values.specs.declared.outcome.Trap.{Trap}
use Rattle.pb_program.specs.declared.rule.RuleKind.TheVariants as kind
use Rattle.pb_program.specs.declared.view.Read.{Read}
use Rattle.pb_program.specs.declared.view.ReadView.{ReadView}
use Rattle.pb_program.specs.declared.view.ReadView.TheVariants as view
use Rattle.pb_program.specs.Areas.{Area, Span, area_by, area_of, from_start, one_place}
use Rattle.pb_program.specs.Forms.{CoordinateValue, DeclValue, coordinate_at}
use Rattle.pb_program.specs.Stmts.{stmts}
use Rattle.pb_program.specs.Trees.{ProgRule}
use Rattle.pb_program.specs.WellFormed.{IsFree, IsRule, IsView, KindFits, around, by_output, variables}
use Rattle.pb_model.specs.Bodies.{Store, left_by, outputs_from}
use Rattle.pb_model.specs.Cells.{Cell, cells_of, cells_of_view, natural, reads}
use Rattle.pb_model.specs.Equations.{after_body, bindings, corner, cut_up, first_trap, number_in, rule_gives, shown_area, sides_by, trap_of, trap_place, unless_trapped, view_sides}
use Rattle.pb_eval.specs.CanRun.{IsRunnable}
use Rattle.pb_eval.proofs.CutLemmas.{free_at}
use Rattle.pb_eval.proofs.SameLemmas.{left_same}

-- ---- no rule variable
none_bound : (outs : List Read) → AllByRecursion IsFree outs → variables outs ≡ 0
none_bound [] h = refl
none_bound (o ∷ []) h = ap (λ z. by_output z o.dims) h.0.0
none_bound (o ∷ p ∷ outs) h = refl

free_views : (n v matrices : ℕ) (rs : List Read) → v ≡ 0 → AllByRecursion (IsView n v matrices) rs → AllByRecursion IsFree rs
free_views n v matrices [] e h = tt
free_views n v matrices (r ∷ rs) e h =
    let few : v ≤ 1 = omega (arith, e) in
    ((h.0.x0.none e, h.0.x0.one few, h.0.y0.none e, h.0.y0.one few, h.0.x1.none e, h.0.x1.one few, h.0.y1.none e, h.0.y1.one few), free_views n v matrices rs e h.1)

-- ---- the same places
at_same : (c : CoordinateValue) (sizes : List ℕ) (x y x' y' : ℤ) → c.x ≡ pos 0 → c.y ≡ pos 0 → coordinate_at c sizes x y ≡ coordinate_at c sizes x' y'
at_same c sizes x y x' y' ex ey = free_at c sizes x y ex ey ∙ sym (free_at c sizes x' y' ex ey)

flat_same : (b : Bool) (s q : Span) → s ≡ q → (if b then one_place (pos 0) else s) ≡ (if b then one_place (pos 0) else q)
flat_same b s q e = ap (λ z. if b then one_place (pos 0) else z) e

area_same : (sizes : List ℕ) (x y x' y' : ℤ) (r : Read) (d : DeclValue) → IsFree r → (v : ReadView) → area_by sizes x y v r d ≡ area_by sizes x' y' v r d
area_same sizes x y x' y' r d f view.Cell =
    let ex = ap one_place (at_same r.x0 sizes x y x' y' f.0 f.1) in
    let ey = flat_same (r.dims == 1) _ _ (ap one_place (at_same r.y0 sizes x y x' y' f.2 f.3)) in
    λ i. record { x = ex i; y = ey i }
area_same sizes x y x' y' r d f view.Row = let ey = ap one_place (at_same r.y0 sizes x y x' y' f.2 f.3) in λ i. record { x = (area_by sizes x y view.Row r d).x; y = ey i }
area_same sizes x y x' y' r d f view.Column = let ex = ap one_place (at_same r.x0 sizes x y x' y' f.0 f.1) in λ i. record { x = ex i; y = (area_by sizes x y view.Column r d).y }
area_same sizes x y x' y' r d f view.Region =
    let x0 = at_same r.x0 sizes x y x' y' f.0 f.1 in
    let y0 = at_same r.y0 sizes x y x' y' f.2 f.3 in
    let x1 = at_same r.x1 sizes x y x' y' f.4 f.5 in
    let y1 = at_same r.y1 sizes x y x' y' f.6 f.7 in
    let ey = flat_same (r.dims == 1) (record { low = coordinate_at r.y0 sizes x y; high = coordinate_at r.y1 sizes x y }) (record { low = coordinate_at r.y0 sizes x' y'; high = coordinate_at r.y1 sizes x' y' }) (λ i. record { low = y0 i; high = y1 i }) in
    λ i. record { x = record { low = x0 i; high = x1 i }; y = ey i }
area_same sizes x y x' y' r d f view.Whole = refl

module _ (matrices : List DeclValue) (sizes : List ℕ) (c d : Cell) where
  pub shown_same : (r : Read) → IsFree r → shown_area matrices sizes c r ≡ shown_area matrices sizes d r
  shown_same r f = by (slice_get matrices r.matrix)
    where
      by : (o : Option DeclValue) → option_map_or (area_of sizes (pos c.x) (pos c.y) r) o (record { x = from_start (pos 0); y = from_start (pos 0) }) ≡ option_map_or (area_of sizes (pos d.x) (pos d.y) r) o (record { x = from_start (pos 0); y = from_start (pos 0) })
      by (Some m) = area_same sizes (pos c.x) (pos c.y) (pos d.x) (pos d.y) r m f r.view
      by None = refl

  pub all_shown : (rs : List Read) → AllByRecursion IsFree rs → map (shown_area matrices sizes c) rs ≡ map (shown_area matrices sizes d) rs
  all_shown [] h = refl
  all_shown (r ∷ rs) h = ap (λ a. a ∷ map (shown_area matrices sizes c) rs) (shown_same r h.0) ∙ ap (λ l. shown_area matrices sizes d r ∷ l) (all_shown rs h.1)

  pub sides_same : (rs : List Read) → AllByRecursion IsFree rs → map (view_sides matrices sizes c) rs ≡ map (view_sides matrices sizes d) rs
  sides_same [] h = refl
  sides_same (r ∷ rs) h = ap (λ a. sides_by r.view a ∷ map (view_sides matrices sizes c) rs) (shown_same r h.0) ∙ ap (λ l. view_sides matrices sizes d r ∷ l) (sides_same rs h.1)

  cells_same : (r : Read) → IsFree r → cells_of_view matrices sizes c r ≡ cells_of_view matrices sizes d r
  cells_same r f = by (slice_get matrices r.matrix)
    where
      by : (o : Option DeclValue) → option_map_or (λ m. cells_of r.matrix (area_of sizes (pos c.x) (pos c.y) r m)) o [] ≡ option_map_or (λ m. cells_of r.matrix (area_of sizes (pos d.x) (pos d.y) r m)) o []
      by (Some m) = ap (cells_of r.matrix) (area_same sizes (pos c.x) (pos c.y) (pos d.x) (pos d.y) r m f r.view)
      by None = refl

  all_cells : (rs : List Read) → AllByRecursion IsFree rs → flat_map (cells_of_view matrices sizes c) rs ≡ flat_map (cells_of_view matrices sizes d) rs
  all_cells [] h = refl
  all_cells (r ∷ rs) h = ap (λ a. a ++ flat_map (cells_of_view matrices sizes c) rs) (cells_same r h.0) ∙ ap (λ l. cells_of_view matrices sizes d r ++ l) (all_cells rs h.1)

  corner_same : (outs : List Read) → AllByRecursion IsFree outs → corner matrices sizes c outs ≡ corner matrices sizes d outs
  corner_same [] h = refl
  corner_same (o ∷ outs) h = ap (λ (a : Area). (natural a.x.low, natural a.y.low)) (shown_same o h.0)

  module _ (n inputs count transforms : ℕ) (r : ProgRule) (well : IsRule n inputs count transforms r) (wide : r.kind ≡ kind.Wide) where
    pub outs_are_free : AllByRecursion IsFree r.outs
    outs_are_free = subst (λ k. KindFits k r.outs) wide well.kind

    pub reads_are_free : AllByRecursion IsFree r.reads
    reads_are_free = free_views n (variables r.outs) count r.reads (none_bound r.outs outs_are_free) well.reads

    pub reads_same : reads matrices sizes c r ≡ reads matrices sizes d r
    unfolding reads
    reads_same = all_cells r.reads reads_are_free

    bindings_same : (numbers : List ℤ) → record { sizes = sizes; x = pos d.x; y = pos d.y; reads = (bindings matrices sizes c r numbers).reads; outs = (bindings matrices sizes c r numbers).outs } ≡ bindings matrices sizes d r numbers
    bindings_same numbers =
        let er = ap (λ l. cut_up l numbers) (sides_same r.reads reads_are_free) in
        let eo = sides_same r.outs outs_are_free in
        λ i. record { sizes = sizes; x = pos d.x; y = pos d.y; reads = er i; outs = eo i }

    body_same : (numbers : List ℤ) → left_by (bindings matrices sizes c r numbers) (stmts r.body) ≡ left_by (bindings matrices sizes d r numbers) (stmts r.body)
    body_same numbers =
        left_same (bindings matrices sizes c r numbers) (pos d.x) (pos d.y) (around n transforms r) (none_bound r.outs outs_are_free) (stmts r.body) well.body ∙ ap (λ b. left_by b (stmts r.body)) (bindings_same numbers)

    place_same : ◌≡◌ {A = ℕ × ℕ} (trap_place matrices sizes c r.kind r.outs) (trap_place matrices sizes d r.kind r.outs)
    place_same = ap (λ k. trap_place matrices sizes c k r.outs) wide ∙ corner_same r.outs outs_are_free ∙ ap (λ k. trap_place matrices sizes d k r.outs) (sym wide)

    trap_same : (t k : ℕ) (why : Kind) → trap_of matrices sizes c t k r why ≡ trap_of matrices sizes d t k r why
    trap_same t k why = ap (λ (p : ℕ × ℕ). record { kind = why; transform = t; rule = k; x = p.0; y = p.1 }) place_same

    after_same : (L : Result Store Kind) (F G : Store → List ℤ) (T U : Kind → Trap) → ((st : Store) → F st ≡ G st) → ((why : Kind) → T why ≡ U why) → after_body L F T ≡ after_body L G U
    after_same (Ok st) F G T U f u = ap (λ l. Ok l) (f st)
    after_same (Err why) F G T U f u = ap (λ t. Err t) (u why)

    pub gives_same : (t k : ℕ) (seen : List Outcome) → rule_gives matrices sizes c t k r seen ≡ rule_gives matrices sizes d t k r seen
    unfolding rule_gives
    gives_same t k seen =
        ap (λ L. unless_trapped (first_trap seen) (after_body L (λ st. outputs_from 0 st (map (view_sides matrices sizes c) r.outs)) (trap_of matrices sizes c t k r))) (body_same (map number_in seen))
        ∙ ap (unless_trapped (first_trap seen)) (after_same (left_by (bindings matrices sizes d r (map number_in seen)) (stmts r.body)) (λ st. outputs_from 0 st (map (view_sides matrices sizes c) r.outs)) (λ st. outputs_from 0 st (map (view_sides matrices sizes d) r.outs))
        (trap_of matrices sizes c t k r) (trap_of matrices sizes d t k r) (λ st. ap (outputs_from 0 st) (sides_same r.outs outs_are_free)) (trap_same t k))

-- ---- what `run_body` asks of a rule
views_there : (n v count : ℕ) (rs : List Read) → AllByRecursion (IsView n v count) rs → All (λ o. o.matrix < count) rs
views_there n v count [] h = All-nil (λ o. o.matrix < count)
views_there n v count (r ∷ rs) h = All-cons (λ o. o.matrix < count) r rs h.0.matrix (views_there n v count rs h.1)

pub runnable : (n inputs transforms : ℕ) (matrices : List DeclValue) (r : ProgRule) → IsRule n inputs (length matrices) transforms r → r.kind ≢ kind.Plan → IsRunnable matrices r
runnable n inputs transforms matrices r well plain = record { kind = plain; fits = well.kind; few = omega (arith, well.some_output); there = views_there n (variables r.outs) (length matrices) r.outs well.outs }
