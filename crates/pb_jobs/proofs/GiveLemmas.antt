-- What a rule gives, over what its reads show.
use Rattle.std.proofs.Common.{◌≡◌, ◌∙◌, sym, ap, subst, ℕ, ◌<◌, ◌≤◌, pos, List, length, map, slice_get, Some, arith}
use Rattle.std.specs.Prelude.{IsTrue, Result, is_some}
use Rattle.std.specs.List.{All, Contains, flat_map}
use Rattle.std.specs.Option.{option_map_or}
use Rattle.std.proofs.lemmas.List.{length-map}
use Rattle.std.proofs.lemmas.Option.{slice_get_within}
use Rattle.pb_linear.specs.Numbers.{exact_value}
use Rattle.pb_linear.specs.Sizes.{sizes_of}
use Rattle.pb_linear.specs.declared.sizes.Sizes.{Sizes}
use Rattle.pb_linear.specs.declared.sizes.TheConstants.{SIZE_TOP}
use Rattle.pb_syntax.specs.declared.limits.TheConstants.{MOST_VIEWS}
use Rattle.pb_values.specs.Cells.{Turn}
use Rattle.pb_values.specs.Views.{view_cells}
use Rattle.pb_values.specs.declared.outcome.Outcome.{Outcome}
use Rattle.pb_values.specs.declared.outcome.Trap.{Trap}
use Rattle.pb_values.specs.declared.shape.TheConstants.{MOST_SIDE}
use Rattle.pb_values.specs.declared.view.View.{View}
use Rattle.pb_base.proofs.ListLemmas.{at_in, in_at, map_in}
use Rattle.pb_program.specs.Areas.{area_of, from_start}
use Rattle.pb_program.specs.Transforms.{ProgValue}
use Rattle.pb_program.specs.Trees.{ProgRule, ProgTransform, bare_prog, bare_rule}
use Rattle.pb_program.specs.declared.view.Read.{Read}
use Rattle.pb_model.specs.Cells.{reads as cells_read}
use Rattle.pb_model.specs.Equations.{own_outcome, rule_gives, shown_area, sides_by}
use Rattle.pb_eval.specs.CanRun.{AreReads, IsRunnable, OfRule, at_variables, locals_needed, outs_needed}
use Rattle.pb_eval.specs.Running.{Gives}
use Rattle.pb_statements.specs.Stored.{locals_of, outs_of}
use Rattle.pb_statements.specs.Shown.{outcome_of, seen_by}
use Rattle.pb_statements.specs.declared.scratch.Scratch.{Scratch}
use Rattle.pb_views.specs.Layouts.{HasShortSides}
use Rattle.pb_views.specs.Windows.{number_in}
use Rattle.pb_views.specs.declared.window.Window.{Window}
use Rattle.pb_jobs.specs.Instances.{CanRunRule, InstanceValue, IsReady, given_by, of_sizes, of_transform, told_of}
use Rattle.pb_jobs.specs.Rooms.{HasRoomIn}
use Rattle.pb_jobs.specs.Shown.{AreShown, AreWindows, AreWithin}
use Rattle.pb_jobs.proofs.InstanceLemmas.{can_run, read_declared, rule_fits}
use Rattle.pb_jobs.proofs.ListLemmas.{all_at, all_contained, map_over, some_at, some_same, zip_length}
use Rattle.pb_jobs.proofs.ShownLemmas.{all_cells, are_within, one_shown, sides_are}
use Rattle.pb_jobs.proofs.SpanLemmas.{sides_short}

pub rule_below : (v : InstanceValue) (k : ℕ) (rule : ProgRule) → slice_get (of_transform v).rules k ≡ Some rule → k < length v.transform.rules
rule_below v k rule there = omega (arith, slice_get_within (of_transform v).rules k rule there, length-map v.transform.rules bare_rule)

module _ (v : InstanceValue) (is : IsReady v) (k x y : ℕ) (turn : Turn) (can : CanRunRule v k x y turn) where
  abbrev t : ProgTransform
  t = of_transform v

  abbrev sizes : List ℕ
  sizes = of_sizes v

  abbrev rule : ProgRule
  rule = can.rule

  -- ---- what it reads is shown
  module _ (rs : List Read) (rs_are : rs ≡ rule.reads) (ws : List Window) (windows : AreWindows sizes rule.reads ws) (ms : List View) (ms_are : ms ≡ v.views) where
    pub few : length rs ≤ MOST_VIEWS
    few = omega (arith, ap length rs_are, (rule_fits v is k rule can.there).few_reads)

    pub as_many : length ws ≡ length rs
    as_many = sym (zip_length _ rule.reads ws windows) ∙ ap length (sym rs_are)

    pub lie_within : AreWithin ms x y rs ws
    lie_within = subst (λ l. AreWithin ms x y l ws) (sym rs_are) (subst (λ l. AreWithin l x y rule.reads ws) (sym ms_are) (are_within t.matrices sizes v.views is.laid rule x y ws windows (read_declared v is k rule can.there) can.can.reads.within))

    module _ (shown : List View) (are : AreShown ms x y rs ws (length rs) shown) where
      shown_are : AreShown v.views x y rule.reads ws (length rule.reads) shown
      shown_are = subst (λ l. AreShown l x y rule.reads ws (length rule.reads) shown) ms_are (subst (λ l. AreShown ms x y l ws (length l) shown) rs_are are)

      cells_are : flat_map view_cells shown ≡ map (number_in v.views) (cells_read t.matrices sizes (at_variables x y) rule)
      cells_are = all_cells t.matrices sizes v.views is.laid rule x y ws windows (read_declared v is k rule can.there) shown shown_are

      short_at : (j : ℕ) (u : View) → slice_get shown j ≡ Some u → (u.shape.w ≤ MOST_SIDE) × (u.shape.h ≤ MOST_SIDE)
      short_at j u at_u =
          let r = some_at rule.reads j (omega (arith, slice_get_within shown j u at_u, shown_are.count)) in
          let d = read_declared v is k rule can.there r.0 (in_at rule.reads j r.0 r.1) in
          let s = all_at (HasShortSides sizes) t.matrices r.0.matrix d.0 is.sides d.1 in
          let some : 1 ≤ MOST_SIDE = omega arith in
          let short = sides_short MOST_SIDE some r.0.view (area_of sizes (pos x) (pos y) r.0 d.0) (exact_value d.0.w sizes) (exact_value d.0.h sizes) (can.can.reads.within j r.0 d.0 r.1 d.1) s.width s.height in
          let area : shown_area t.matrices sizes (at_variables x y) r.0 ≡ area_of sizes (pos x) (pos y) r.0 d.0 = ap (λ o. option_map_or (area_of sizes (pos x) (pos y) r.0) o (record { x = from_start (pos 0); y = from_start (pos 0) })) d.1 in
          let sides = (one_shown t.matrices sizes v.views is.laid rule x y ws windows (read_declared v is k rule can.there) shown shown_are j u r.0 at_u r.1).0 ∙ ap (sides_by r.0.view) area in
          (omega (arith, ap (λ (p : ℕ × ℕ). p.0) sides, short.0), omega (arith, ap (λ (p : ℕ × ℕ). p.1) sides, short.1))

      are_reads : AreReads t.matrices sizes (at_variables x y) rule shown turn
      are_reads = record {
        sides = sides_are t.matrices sizes v.views is.laid rule x y ws windows (read_declared v is k rule can.there) shown shown_are;
        small = all_contained (λ (u : View). (u.shape.w ≤ MOST_SIDE) × (u.shape.h ≤ MOST_SIDE)) shown (λ u h. let j = at_in shown u h in short_at j.0 u j.1);
        told = all_contained (λ cell. IsTrue (is_some (turn.outcomes cell))) (flat_map view_cells shown) (λ cell h.
            let d = map_in (number_in v.views) (cells_read t.matrices sizes (at_variables x y) rule) cell (subst (λ (cs : List ℕ). Contains cs cell) cells_are h) in
            subst (λ n. IsTrue (is_some (turn.outcomes n))) d.2 (can.can.told d.0 d.1));
      }

      pub reads_told : (r : ProgRule) → slice_get t.rules k ≡ Some r → AreReads t.matrices sizes (at_variables x y) r shown turn
      reads_told r at = subst (λ u. AreReads t.matrices sizes (at_variables x y) u shown turn) (some_same rule r (sym can.there ∙ at)) are_reads

      seen_are : seen_by turn shown ≡ told_of v turn (cells_read t.matrices sizes (at_variables x y) rule)
      seen_are = ap (map (outcome_of turn)) cells_are ∙ map_over (outcome_of turn) (number_in v.views) (cells_read t.matrices sizes (at_variables x y) rule)

      pub gives_told : (result : Result ℕ Trap) (z : Scratch) → ((r : ProgRule) → slice_get t.rules k ≡ Some r → Gives (rule_gives t.matrices sizes (at_variables x y) v.number k r (seen_by turn shown)) result z)
          → (r : ProgRule) → slice_get t.rules k ≡ Some r → Gives (given_by v k r x y turn) result z
      gives_told result z h r at =
          subst (λ u. Gives (given_by v k u x y turn) result z) (some_same rule r (sym can.there ∙ at))
          (subst (λ os. Gives (rule_gives t.matrices sizes (at_variables x y) v.number k rule os) result z) seen_are (h rule can.there))

      -- an outcome over the views is one of what is told
      pub outcome_told : (o : Outcome) → ((r : ProgRule) → slice_get t.rules k ≡ Some r → o ≡ own_outcome t.matrices sizes (at_variables x y) r (rule_gives t.matrices sizes (at_variables x y) v.number k r (seen_by turn shown)))
          → (r : ProgRule) → slice_get t.rules k ≡ Some r → o ≡ own_outcome t.matrices sizes (at_variables x y) r (given_by v k r x y turn)
      outcome_told o h r at =
          subst (λ u. o ≡ own_outcome t.matrices sizes (at_variables x y) u (given_by v k u x y turn)) (some_same rule r (sym can.there ∙ at))
          (subst (λ os. o ≡ own_outcome t.matrices sizes (at_variables x y) rule (rule_gives t.matrices sizes (at_variables x y) v.number k rule os)) seen_are (h rule can.there))

  -- ---- what is asked of the rule of a program
  module _ (p : ProgValue) (p_is : p ≡ v.program) (n : ℕ) (n_is : n ≡ v.number) (s : Sizes) (s_is : s ≡ v.sizes) where
    there_in : slice_get (bare_prog p) n ≡ Some t
    there_in = ap (λ (g : ProgValue). slice_get (bare_prog g) n) p_is ∙ ap (slice_get (bare_prog v.program)) n_is ∙ is.there

    -- a fact of this rule, at these sizes
    of_rule : (P : List ℕ → ProgTransform → ProgRule → Type 0) → P sizes t rule → OfRule (bare_prog p) n k (P (sizes_of s))
    of_rule P h transform r at_t at_r =
        let same : t ≡ transform = some_same t transform (sym there_in ∙ at_t) in
        let same_rule : rule ≡ r = some_same rule r (sym can.there ∙ ap (λ (u : ProgTransform). slice_get u.rules k) same ∙ at_r) in
        subst (λ (z : Sizes). P (sizes_of z) transform r) (sym s_is) (subst (λ u. P sizes u r) same (subst (P sizes t) same_rule h))

    pub sizes_top : All (λ size. size ≤ SIZE_TOP) s.of
    sizes_top = subst (λ (z : Sizes). All (λ size. size ≤ SIZE_TOP) z.of) (sym s_is) is.top

    pub runs : OfRule (bare_prog p) n k (λ transform r. IsRunnable transform.matrices r)
    runs = of_rule (λ sizes transform r. IsRunnable transform.matrices r) (can_run v is k rule can.there can.computes)

    pub reads_are : (views : List View) → ((r : ProgRule) → slice_get t.rules k ≡ Some r → AreReads t.matrices sizes (at_variables x y) r views turn)
        → OfRule (bare_prog p) n k (λ transform r. AreReads transform.matrices (sizes_of s) (at_variables x y) r views turn)
    reads_are views h = of_rule (λ sizes transform r. AreReads transform.matrices sizes (at_variables x y) r views turn) (h rule can.there)

    module _ (z : Scratch) (room : HasRoomIn v k z) where
      pub locals_fit : OfRule (bare_prog p) n k (λ transform r. locals_needed r ≤ locals_of z)
      locals_fit = of_rule (λ sizes transform r. locals_needed r ≤ locals_of z) ((room t rule is.there can.there).0)

      pub numbers_fit : OfRule (bare_prog p) n k (λ transform r. outs_needed transform.matrices (sizes_of s) (at_variables x y) r ≤ outs_of z)
      numbers_fit = of_rule (λ sizes transform r. outs_needed transform.matrices sizes (at_variables x y) r ≤ outs_of z) ((room t rule is.there can.there).1 x y)

    pub gives_over : (views : List View) (result : Result ℕ Trap) (z : Scratch) → OfRule (bare_prog p) n k (λ transform r. Gives (rule_gives transform.matrices (sizes_of s) (at_variables x y) n k r (seen_by turn views)) result z)
        → (r : ProgRule) → slice_get t.rules k ≡ Some r → Gives (rule_gives t.matrices sizes (at_variables x y) v.number k r (seen_by turn views)) result z
    gives_over views result z h r at =
        subst (λ m. Gives (rule_gives t.matrices sizes (at_variables x y) m k r (seen_by turn views)) result z) n_is
        (subst (λ (q : Sizes). Gives (rule_gives t.matrices (sizes_of q) (at_variables x y) n k r (seen_by turn views)) result z) s_is (h t r there_in at))

    -- and so an outcome
    pub outcome_over : (views : List View) (o : Outcome) → ((r : ProgRule) → slice_get t.rules k ≡ Some r → o ≡ own_outcome t.matrices (sizes_of s) (at_variables x y) r (rule_gives t.matrices (sizes_of s) (at_variables x y) n k r (seen_by turn views)))
        → (r : ProgRule) → slice_get t.rules k ≡ Some r → o ≡ own_outcome t.matrices sizes (at_variables x y) r (rule_gives t.matrices sizes (at_variables x y) v.number k r (seen_by turn views))
    outcome_over views o h r at =
        subst (λ m. o ≡ own_outcome t.matrices sizes (at_variables x y) r (rule_gives t.matrices sizes (at_variables x y) m k r (seen_by turn views))) n_is
        (subst (λ (q : Sizes). o ≡ own_outcome t.matrices (sizes_of q) (at_variables x y) r (rule_gives t.matrices (sizes_of q) (at_variables x y) n k r (seen_by turn views))) s_is (h r at))

    pub reads_over : (views : List View) → ((r : ProgRule) → slice_get t.rules k ≡ Some r → AreReads t.matrices sizes (at_variables x y) r views turn) → (r : ProgRule) → slice_get t.rules k ≡ Some r → AreReads t.matrices (sizes_of s) (at_variables x y) r views turn
    reads_over views h r at = subst (λ (q : Sizes). AreReads t.matrices (sizes_of q) (at_variables x y) r views turn) (sym s_is) (h r at)
