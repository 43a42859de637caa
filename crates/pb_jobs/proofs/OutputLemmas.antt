-- The outputs of a rule that makes all its cells at once: where they lie, and how many numbers they have.
use Rattle.std.proofs.Common.{◌≡◌, ◌∙◌, ◌≢◌, refl, sym, ap, subst, ◌↔◌, ℕ, ◌-◌, ◌*◌, ◌^◌, ◌<◌, ◌≤◌, ℤ, pos, ◌≤ℤ◌, ◌<ℤ◌, Bool, true, false, ◌&&◌, List, [], ◌∷◌, length, map, slice_get, Option, Some, arith}
use Rattle.std.specs.Prelude.{◌==◌, int_le, int_lt, slice_index_or}
use Rattle.std.specs.List.{Contains}
use Rattle.std.specs.Option.{option_map_or}
use Rattle.std.proofs.lemmas.Bool.{and_parts, eq-eqb, eqb-true}
use Rattle.std.proofs.lemmas.Int.{ints}
use Rattle.std.proofs.lemmas.Option.{slice_get_within}
use Rattle.pb_linear.specs.Numbers.{exact_value}
use Rattle.pb_values.specs.Views.{HasPlace}
use Rattle.pb_values.specs.declared.rect.Rect.{Rect}
use Rattle.pb_values.specs.declared.shape.TheConstants.{MOST_SIDE}
use Rattle.pb_values.specs.declared.view.View.{View}
use Rattle.pb_base.proofs.ListLemmas.{at_in, in_at, in_head, in_tail}
use Rattle.pb_links.specs.declared.places.Spot.{Spot}
use Rattle.pb_program.specs.Areas.{Area, IsIn, area_of, from_start}
use Rattle.pb_program.specs.Forms.{DeclValue}
use Rattle.pb_program.specs.Trees.{ProgRule, ProgTransform, bare_prog}
use Rattle.pb_program.specs.WellFormed.{IsFree, IsOutput, IsRule}
use Rattle.pb_program.specs.declared.view.Read.{Read}
use Rattle.pb_program.specs.declared.view.ReadView.{ReadView}
use Rattle.pb_program.specs.declared.view.ReadView.TheVariants as view
use Rattle.pb_region.specs.Within.{IsWithin}
use Rattle.pb_region.proofs.SmallLemmas.{at_place}
use Rattle.pb_model.specs.Cells.{Cell, natural}
use Rattle.pb_model.specs.Equations.{extent, shown_area, sides_by, view_sides}
use Rattle.pb_model.specs.Lawful.{has, output_holds}
use Rattle.pb_eval.specs.CanRun.{at_variables, outs_needed}
use Rattle.pb_statements.specs.Outputs.{numbers_in}
use Rattle.pb_eval.proofs.RegionLemmas.{outs_are_free, shown_same, sides_same}
use Rattle.pb_views.specs.Layouts.{HasShortSides}
use Rattle.pb_views.specs.Windows.{IsRect, IsWindow, shown_by}
use Rattle.pb_views.specs.declared.window.Window.{Window}
use Rattle.pb_views.proofs.WindowLemmas.{shown_is}
use Rattle.pb_jobs.specs.Instances.{InstanceValue, IsReady, of_sizes, of_transform}
use Rattle.pb_jobs.specs.Outputs.{CanGive, LiesAt}
use Rattle.pb_jobs.specs.Shown.{AreWindows}
use Rattle.pb_jobs.proofs.InstanceLemmas.{out_declared, rule_fits}
use Rattle.pb_jobs.proofs.ListLemmas.{all_at, item_at, some_same, zip_both, zip_length}
use Rattle.pb_jobs.proofs.PlaceLemmas.{times_most}
use Rattle.pb_jobs.proofs.SpanLemmas.{along_extent, along_order, sides_short}

-- ---- a place of a rectangle, and of the area that it is
has_in : (a : Area) (x y : ℤ) → (has a x y ≡ true) ↔ IsIn a x y
has_in a x y = (
  λ h.
      let parts = and_parts (int_le a.x.low x && int_lt x a.x.high) (int_le a.y.low y && int_lt y a.y.high) h in
      let px = and_parts (int_le a.x.low x) (int_lt x a.x.high) parts.0 in
      let py = and_parts (int_le a.y.low y) (int_lt y a.y.high) parts.1 in
      record { left = (le_test a.x.low x).0 px.0; right = (lt_test x a.x.high).0 px.1; low = (le_test a.y.low y).0 py.0; high = (lt_test y a.y.high).0 py.1 },
  λ h. both _ _ (both _ _ ((le_test a.x.low x).1 h.left) ((lt_test x a.x.high).1 h.right)) (both _ _ ((le_test a.y.low y).1 h.low) ((lt_test y a.y.high).1 h.high)),
)
  where
    le_test : (a b : ℤ) → (int_le a b ≡ true) ↔ (a ≤ℤ b)
    le_test a b = (λ h. grind (arith, ints), λ h. grind (arith, ints))

    lt_test : (a b : ℤ) → (int_lt a b ≡ true) ↔ (a <ℤ b)
    lt_test a b = (λ h. grind (arith, ints), λ h. grind (arith, ints))

    both : (a b : Bool) → a ≡ true → b ≡ true → (a && b) ≡ true
    both a b ea eb = rw (ea, eb) refl

place_is : (a : Area) (r : Rect) → IsRect a r → (x y : ℕ) → HasPlace r x y ↔ IsIn a (pos x) (pos y)
place_is a r h x y = (
  λ p. record { left = omega (arith, ints, h.left, p.left); right = omega (arith, ints, h.right, p.right); low = omega (arith, ints, h.low, p.low); high = omega (arith, ints, h.high, p.high) },
  λ p. record { left = omega (arith, ints, h.left, p.left); right = omega (arith, ints, h.right, p.right); low = omega (arith, ints, h.low, p.low); high = omega (arith, ints, h.high, p.high) },
)

by_view : (v : ReadView) (a : Area) → v ≢ view.Column → ◌≡◌ {A = ℕ × ℕ} (sides_by v a) (extent a.x, extent a.y)
by_view view.Cell a h = refl
by_view view.Row a h = refl
by_view view.Column a h = absurd (h refl)
by_view view.Region a h = refl
by_view view.Whole a h = refl

two : (a b c d : ℕ) → a ≡ c → b ≡ d → ◌≡◌ {A = ℕ × ℕ} (a, b) (c, d)
two a b c d e f = λ i. (e i, f i)

module _ {v : InstanceValue} (is : IsReady v) {k : ℕ} (can : CanGive v k) where
  abbrev t : ProgTransform
  t = of_transform v

  abbrev sizes : List ℕ
  sizes = of_sizes v

  abbrev origin : Cell
  origin = at_variables 0 0

  pub same_rule : (r : ProgRule) → slice_get t.rules k ≡ Some r → can.rule ≡ r
  same_rule r there = some_same can.rule r (sym can.there ∙ there)

  fits : IsRule (length t.sizes) t.inputs (length t.matrices) (length (bare_prog v.program)) can.rule
  fits = rule_fits v is k can.rule can.there

  module _ (j : ℕ) (out : Read) (at : slice_get can.rule.outs j ≡ Some out) where
    declared : (d : DeclValue) × (slice_get t.matrices out.matrix ≡ Some d)
    declared = out_declared v is k can.rule can.there out (in_at can.rule.outs j out at)

    abbrev decl : DeclValue
    decl = declared.0

    abbrev area : Area
    area = shown_area t.matrices sizes origin out

    area_is : area ≡ area_of sizes (pos 0) (pos 0) out decl
    area_is = ap (λ o. option_map_or (area_of sizes (pos 0) (pos 0) out) o (record { x = from_start (pos 0); y = from_start (pos 0) })) declared.1

    within : IsWithin area (exact_value decl.w sizes) (exact_value decl.h sizes)
    within = subst (λ (a : Area). IsWithin a (exact_value decl.w sizes) (exact_value decl.h sizes)) (sym area_is) (can.within j out decl at declared.1)

    short : HasShortSides sizes decl
    short = all_at (HasShortSides sizes) t.matrices out.matrix decl is.sides declared.1

    few_sides : ((view_sides t.matrices sizes origin out).0 ≤ MOST_SIDE) × ((view_sides t.matrices sizes origin out).1 ≤ MOST_SIDE)
    few_sides = let some : 1 ≤ MOST_SIDE = omega arith in sides_short MOST_SIDE some out.view area (exact_value decl.w sizes) (exact_value decl.h sizes) within short.width short.height

    -- ---- as a window shows it
    module _ (ms : List View) (ms_are : ms ≡ v.views) where
      matrix : (m : View) × (slice_get v.views out.matrix ≡ Some m)
      matrix = is.laid.some out.matrix decl declared.1

      pub matrix_there : out.matrix < length ms
      matrix_there = omega (arith, slice_get_within v.views out.matrix matrix.0 matrix.1, ap length ms_are)

      pub view_at : (m : View) → m ≡ slice_index_or ms out.matrix m → slice_get v.views out.matrix ≡ Some m
      view_at m is_m = item_at ms v.views out.matrix m ms_are (slice_get_within v.views out.matrix matrix.0 matrix.1) is_m

    module _ (ws : List Window) (windows : AreWindows sizes can.rule.outs ws) where
      pub window_there : j < length ws
      window_there = omega (arith, slice_get_within can.rule.outs j out at, zip_length (λ r q. IsWindow r sizes q) can.rule.outs ws windows)

    module _ (ws : List Window) (windows : AreWindows sizes can.rule.outs ws) (w : Window) (is_w : w ≡ slice_index_or ws j w) (m : View) (at_m : slice_get v.views out.matrix ≡ Some m) where
      at_w : slice_get ws j ≡ Some w
      at_w = item_at ws ws j w refl (window_there ws windows) is_w

      shown : shown_by w m 0 0 w.view ≡ area
      shown = shown_is t.matrices sizes v.views origin out w decl m (zip_both (λ r q. IsWindow r sizes q) can.rule.outs ws windows j out w at at_w) is.laid declared.1 at_m ∙ sym area_is

      pub window_within : IsWithin (shown_by w m 0 0 w.view) (pos m.shape.w) (pos m.shape.h)
      window_within = subst (λ (a : Area). IsWithin a (pos m.shape.w) (pos m.shape.h)) (sym shown)
          (subst (λ z. IsWithin area (pos m.shape.w) z) (sym (is.laid.height out.matrix decl m declared.1 at_m)) (subst (λ z. IsWithin area z (exact_value decl.h sizes)) (sym (is.laid.width out.matrix decl m declared.1 at_m)) within))

      pub lies_at : (s : Spot) → s.base ≡ out.matrix → IsRect (shown_by w m 0 0 w.view) s.rect → (r : ProgRule) → slice_get t.rules k ≡ Some r → LiesAt t.matrices sizes r.outs j s
      lies_at s base h r there = subst (λ (q : ProgRule). LiesAt t.matrices sizes q.outs j s) (same_rule r there) (record { out = out; there = at; base = base; rect = subst (λ (a : Area). IsRect a s.rect) shown h })

  -- ---- all together have few numbers
  sum_few : (rs : List Read) → ((q : Read) → Contains rs q → Contains can.rule.outs q) → numbers_in (map (view_sides t.matrices sizes origin) rs) ≤ length rs * 2 ^ 44
  sum_few [] same = omega arith
  sum_few (q ∷ rs) same =
      let p = at_in can.rule.outs q (same q (in_head q rs)) in
      let f = few_sides p.0 q p.1 in
      let one : (view_sides t.matrices sizes origin q).1 * (view_sides t.matrices sizes origin q).0 ≤ 2 ^ 44 = times_most _ _ MOST_SIDE MOST_SIDE f.0 f.1 in
      omega (arith, one, sum_few rs (λ x h. same x (in_tail q x rs h)))

  pub all_few : outs_needed t.matrices sizes origin can.rule ≤ 2 ^ 48
  all_few = omega (arith, sum_few can.rule.outs (λ q h. h), fits.some_output)

  pub all_few_at : (x y : ℕ) → outs_needed t.matrices sizes (at_variables x y) can.rule ≤ 2 ^ 48
  all_few_at x y = omega (
    arith,
    all_few,
    ap numbers_in (sides_same t.matrices sizes (at_variables x y) origin can.rule.outs
        (outs_are_free t.matrices sizes origin origin (length t.sizes) t.inputs (length t.matrices) (length (bare_prog v.program)) can.rule fits can.wide)),
  )

  -- ---- a rectangle that an output is
  module _ {j : ℕ} {s : Spot} (lies : LiesAt t.matrices sizes can.rule.outs j s) where
    abbrev own : Area
    own = area j lies.out lies.there

    pub across : s.rect.x0 ≤ s.rect.x1
    across = along_order own.x _ (within j lies.out lies.there).x s.rect.x0 s.rect.x1 lies.rect.left lies.rect.right

    pub down : s.rect.y0 ≤ s.rect.y1
    down = along_order own.y _ (within j lies.out lies.there).y s.rect.y0 s.rect.y1 lies.rect.low lies.rect.high

    -- it is the same for all rule variables
    shown_free : (c : Cell) → shown_area t.matrices sizes c lies.out ≡ own
    shown_free c = shown_same t.matrices sizes c origin lies.out (at_place IsFree can.rule.outs j lies.out (outs_are_free t.matrices sizes origin origin (length t.sizes) t.inputs (length t.matrices) (length (bare_prog v.program)) can.rule fits can.wide) lies.there)

    pub corner_x : (c : Cell) → natural (shown_area t.matrices sizes c lies.out).x.low ≡ s.rect.x0
    corner_x c = ap (λ (a : Area). natural a.x.low) (shown_free c) ∙ ap natural (sym lies.rect.left)

    pub corner_y : (c : Cell) → natural (shown_area t.matrices sizes c lies.out).y.low ≡ s.rect.y0
    corner_y c = ap (λ (a : Area). natural a.y.low) (shown_free c) ∙ ap natural (sym lies.rect.low)

    pub sides_at : (c : Cell) → view_sides t.matrices sizes c lies.out ≡ (s.rect.x1 - s.rect.x0, s.rect.y1 - s.rect.y0)
    sides_at c =
        ap (sides_by lies.out.view) (shown_free c) ∙ by_view lies.out.view own (at_place (IsOutput t.inputs (length can.rule.outs)) can.rule.outs j lies.out fits.outputs lies.there).no_column
        ∙ two _ _ _ _ (along_extent own.x _ (within j lies.out lies.there).x s.rect.x0 s.rect.x1 lies.rect.left lies.rect.right) (along_extent own.y _ (within j lies.out lies.there).y s.rect.y0 s.rect.y1 lies.rect.low lies.rect.high)

    abbrev test : Cell → Option DeclValue → Bool
    test c o = option_map_or (λ (d : DeclValue). has (area_of sizes (pos 0) (pos 0) lies.out d) (pos c.x) (pos c.y)) o false

    test_is : (c : Cell) → test c (slice_get t.matrices lies.out.matrix) ≡ has own (pos c.x) (pos c.y)
    test_is c = ap (test c) (declared j lies.out lies.there).1 ∙ ap (λ (a : Area). has a (pos c.x) (pos c.y)) (sym (area_is j lies.out lies.there))

    pub holds_at : (c : Cell) → s.base ≡ c.matrix → HasPlace s.rect c.x c.y → output_holds t.matrices sizes c lies.out ≡ true
    holds_at c same place =
        let here : (lies.out.matrix == c.matrix) ≡ true = eq-eqb lies.out.matrix c.matrix (sym lies.base ∙ same) in
        let there : test c (slice_get t.matrices lies.out.matrix) ≡ true = test_is c ∙ (has_in own (pos c.x) (pos c.y)).1 ((place_is own s.rect lies.rect c.x c.y).0 place) in
        rw (here, there) refl

    pub never_at : (c : Cell) → (s.base ≡ c.matrix → HasPlace s.rect c.x c.y → ⊥) → output_holds t.matrices sizes c lies.out ≡ false
    never_at c never = by (output_holds t.matrices sizes c lies.out) refl
      where
        by : (b : Bool) → output_holds t.matrices sizes c lies.out ≡ b → b ≡ false
        by false e = refl
        by true e =
            let parts = and_parts (lies.out.matrix == c.matrix) (test c (slice_get t.matrices lies.out.matrix)) e in
            absurd (never (lies.base ∙ eqb-true lies.out.matrix c.matrix parts.0) ((place_is own s.rect lies.rect c.x c.y).1 ((has_in own (pos c.x) (pos c.y)).0 (sym (test_is c) ∙ parts.1))))
