-- The views of each job lie within their matrices, so its boxes can be found.
use Rattle.std.proofs.Common.{◌≡◌, ◌∙◌, refl, sym, ap, subst, ℕ, ◌-◌, ◌<◌, ◌≤◌, ◌^◌, ℤ, pos, negsuc, ◌≤ℤ◌, true, false, List, length, get_or, slice_get, Option, Some, None, arith}
use Rattle.std.specs.List.{All, Contains}
use Rattle.std.specs.Option.{option_map_or}
use Rattle.std.proofs.lemmas.Int.{ints}
use Rattle.std.proofs.lemmas.Option.{slice_get-get_or, slice_get_within}
use Rattle.pb_linear.specs.Form.{value}
use Rattle.pb_linear.specs.Numbers.{exact_value}
use Rattle.pb_values.specs.Views.{HasPlace}
use Rattle.pb_values.specs.declared.rect.Rect.{Rect}
use Rattle.pb_program.specs.Conditions.{Applies}
use Rattle.pb_program.specs.Configs.{ConfigValue, IsValid}
use Rattle.pb_program.specs.Trees.{ProgRule, ProgTransform}
use Rattle.pb_program.specs.WellFormed.{IsRule, IsTransform, IsView, variables}
use Rattle.pb_program.specs.declared.view.Read.{Read}
use Rattle.pb_region.specs.Boxes.{is_wide}
use Rattle.pb_region.proofs.SmallLemmas.{at_place, small_rule}
use Rattle.pb_base.proofs.ListLemmas.{at_in, in_at}
use Rattle.pb_model.specs.Cells.{Cell, natural}
use Rattle.pb_check.specs.Orders.{AnalysisValue}
use Rattle.pb_check.proofs.FirstLemmas.{all_at, some_same}
use Rattle.pb_frame.proofs.Handed.{segment_below, view_within}
use Rattle.pb_frame.specs.Choices.{IsInstance}
use Rattle.pb_frame.specs.Frames.{HoldsCell, JobValue, is_wide_rule, rect_of}
use Rattle.pb_frame.specs.declared.part.FramePart.{FramePart}
use Rattle.pb_frame.proofs.PartLemmas.{held_chosen, held_made, of_part}
use Rattle.pb_views.specs.Layouts.{HasShortSides}
use Rattle.pb_plan.specs.Boxes.{HasNodes, HasRule, IsBoxed, IsJob, IsReadable}
use Rattle.pb_plan.proofs.BeforeLemmas.{first_part, home, jobs, node_of, parts, some_places}
use Rattle.pb_plan.proofs.JobLemmas.{part_of, placed}
use Rattle.pb_plan.proofs.MadeLemmas.{chosen, held_whole}
use Rattle.pb_plan.proofs.PieceLemmas.{IsPiece}
use Rattle.pb_plan.proofs.WideLemmas.{applies_same}

all_in : {A : Type 0} (P : A → Type 0) (xs : List A) → ((x : A) → Contains xs x → P x) → All P xs
all_in P xs f k d below = f (get_or xs k d) (in_at xs k (get_or xs k d) (slice_get-get_or xs k d below))

module _ (config : ConfigValue) (number : ℕ) (t : ProgTransform) (a : AnalysisValue) (sizes : List ℕ) (grain : ℕ) (i : IsInstance number t a sizes) (valid : IsValid i.program config) (short : All (HasShortSides sizes) t.matrices) where
  module _ (part : FramePart) (own : IsPiece (parts config number t a sizes grain i valid) part) where
    held : (x y : ℕ) → HasPlace part.rect x y → HoldsCell a.nodes part (record { matrix = (node_of config number t a sizes grain i valid part own).0.matrix; x = x; y = y })
    held x y place = record { node = (node_of config number t a sizes grain i valid part own).0; there = (node_of config number t a sizes grain i valid part own).1; matrix = refl; place = place }

    -- the rule of a part is there, and applies at each of its cells
    pub rule_at : (x y : ℕ) → HasPlace part.rect x y → (r : ProgRule) × (slice_get t.rules part.rule ≡ Some r) × Applies t.matrices r sizes (pos x) (pos y)
    rule_at x y place =
        let c : Cell = record { matrix = (node_of config number t a sizes grain i valid part own).0.matrix; x = x; y = y } in
        let h = held_whole config number t a sizes grain i part own c (held x y place) in
        let law = chosen config number t a sizes grain i valid c (held_made config number t a sizes i own.whole c own.among h) in
        (law.rule, ap (slice_get t.rules) (sym (held_chosen config number t a sizes i own.whole c own.among h ∙ own.rule)) ∙ law.there, law.can.applies)

    applies_at : (r : ProgRule) → slice_get t.rules part.rule ≡ Some r → (x y : ℕ) → HasPlace part.rect x y → Applies t.matrices r sizes (pos x) (pos y)
    applies_at r there x y place = let f = rule_at x y place in subst (λ (q : ProgRule). Applies t.matrices q sizes (pos x) (pos y)) (some_same f.0 r (sym f.1 ∙ there)) f.2

    readable_at : (k : ℕ) (r : ProgRule) → slice_get t.rules k ≡ Some r → (x y : ℕ) → Applies t.matrices r sizes (pos x) (pos y) → IsReadable t.matrices sizes r.reads x y
    readable_at k r there x y applies = λ j q d place decl. view_within i.program number t sizes i.well_formed i.sound i.there k r there j q d place decl i.in_range (pos x) (pos y) applies

    -- its ends are small
    natural_le : (z w : ℤ) → z ≤ℤ w → natural z ≤ natural w
    natural_le (pos m) (pos n) h = omega (arith, ints, h)
    natural_le (pos m) (negsuc n) h = absurd (omega (arith, ints, h))
    natural_le (negsuc m) w h = omega arith

    pub ends : (part.rect.x1 ≤ 2 ^ 23) × (part.rect.y1 ≤ 2 ^ 23)
    ends =
        let f = of_part number t a sizes i config own.whole own.among in
        let n = f.0 in
        let some = some_places config number t a sizes grain i valid part own in
        let last = own.inside (part.rect.x1 - 1) (part.rect.y1 - 1) (record { left = omega (arith, some.0); right = omega (arith, some.0); low = omega (arith, some.1); high = omega (arith, some.1) }) in
        let c : Cell = record { matrix = n.matrix; x = part.rect.x1 - 1; y = part.rect.y1 - 1 } in
        let made = held_made config number t a sizes i own.whole c own.among (record { node = n; there = f.1; matrix = refl; place = last }) in
        let d = made.cell.decl in
        let below = segment_below i.program number t a sizes i.well_formed i.sound i.there i.found i.in_range own.whole.node n d f.1 made.cell.there in
        let limit = all_at (HasShortSides sizes) t.matrices n.matrix d short made.cell.there in
        let rect : own.whole.rect ≡ rect_of n sizes = ap (λ (q : FramePart). q.rect) f.3 in
        (omega (arith, last.right, ap (λ (r : Rect). r.x1) rect, natural_le (value n.area.x1 sizes) (exact_value d.w sizes) below.across, limit.width), omega (arith, last.high, ap (λ (r : Rect). r.y1) rect, natural_le (value n.area.y1 sizes) (exact_value d.h sizes) below.down, limit.height))

    pub is_boxed : (r : ProgRule) → slice_get t.rules part.rule ≡ Some r → IsBoxed t.matrices sizes r.reads part.rect
    is_boxed r there =
        let some = some_places config number t a sizes grain i valid part own in
        let wide = some.0 in
        let tall = some.1 in
        record {
          wide = wide;
          tall = tall;
          right = ends.0;
          high = ends.1;
          first = readable_at part.rule r there part.rect.x0 part.rect.y0 (applies_at r there part.rect.x0 part.rect.y0 (record { left = omega arith; right = omega (arith, wide); low = omega arith; high = omega (arith, tall) }));
          second = readable_at part.rule r there (part.rect.x1 - 1) part.rect.y0 (applies_at r there (part.rect.x1 - 1) part.rect.y0 (record { left = omega (arith, wide); right = omega (arith, wide); low = omega arith; high = omega (arith, tall) }));
          third = readable_at part.rule r there part.rect.x0 (part.rect.y1 - 1) (applies_at r there part.rect.x0 (part.rect.y1 - 1) (record { left = omega arith; right = omega (arith, wide); low = omega (arith, tall); high = omega (arith, tall) }));
          fourth = readable_at part.rule r there (part.rect.x1 - 1) (part.rect.y1 - 1) (applies_at r there (part.rect.x1 - 1) (part.rect.y1 - 1) (record { left = omega (arith, wide); right = omega (arith, wide); low = omega (arith, tall); high = omega (arith, tall) }));
        }

    -- a rule without rule variables reads within its matrices wherever it applies
    pub whole_readable : (r : ProgRule) → slice_get t.rules part.rule ≡ Some r → is_wide r.kind ≡ true → IsReadable t.matrices sizes r.reads 0 0
    whole_readable r there wide =
        let some = some_places config number t a sizes grain i valid part own in
        let x = part.rect.x0 in
        let y = part.rect.y0 in
        readable_at part.rule r there 0 0 (applies_same i.program number t i.well_formed i.sound i.there part.rule r there wide sizes (pos x) (pos y) (pos 0) (pos 0) (applies_at r there x y (record { left = omega arith; right = omega (arith, some.0); low = omega arith; high = omega (arith, some.1) })))

    pub has_rule : (P : ProgRule → Type 0) → ((r : ProgRule) → slice_get t.rules part.rule ≡ Some r → P r) → HasRule t part.rule P
    has_rule P f =
        let some = some_places config number t a sizes grain i valid part own in
        let r = rule_at part.rect.x0 part.rect.y0 (record { left = omega arith; right = omega (arith, some.0); low = omega arith; high = omega (arith, some.1) }) in
        let fits = at_place (IsTransform (length i.program)) i.program number t i.well_formed.transforms i.there in
        let rule = at_place (IsRule (length t.sizes) t.inputs (length t.matrices) (length i.program)) t.rules part.rule r.0 fits.rules r.1 in
        record {
          rule = r.0;
          there = r.1;
          small = small_rule i.program i.well_formed number t i.there part.rule r.0 r.1;
          matrices = all_in (λ (q : Read). q.matrix < length t.matrices) r.0.reads (λ q declared. let j = at_in r.0.reads q declared in (at_place (IsView (length t.sizes) (variables r.0.outs) (length t.matrices)) r.0.reads j.0 q rule.reads j.1).matrix);
          is = f r.0 r.1;
        }

  is_job : (j : ℕ) (job : JobValue) (e : slice_get (jobs config number t a sizes grain i valid) j ≡ Some job) (o : Option ℕ) → job.rule ≡ o → IsJob t sizes o job.parts
  is_job j job e None none = all_in (λ (part : FramePart). HasRule t part.rule (λ rule. IsBoxed t.matrices sizes rule.reads part.rect)) job.parts (λ part h.
      let own = home config number t a sizes grain i valid j job e part h in has_rule part own (λ rule. IsBoxed t.matrices sizes rule.reads part.rect) (is_boxed part own))
  is_job j job e (Some k) some =
      let first = first_part config number t a sizes grain i valid j job e k some in
      let of = part_of t a.order grain (parts config number t a sizes grain i valid) j job (placed t a.order grain (parts config number t a sizes grain i valid) j job e) first.0 first.1 in
      let same = of.wide k some in
      subst (λ n. HasRule t n (λ rule. IsReadable t.matrices sizes rule.reads 0 0)) same.0 (has_rule first.0 of.piece (λ rule. IsReadable t.matrices sizes rule.reads 0 0) (λ r there.
      whole_readable first.0 of.piece r there (sym (ap (λ q. option_map_or (λ (p : ProgRule). is_wide p.kind) q false) there) ∙ subst (λ n. is_wide_rule t n ≡ true) (sym same.0) same.1)))

  pub are_jobs : All (λ (job : JobValue). IsJob t sizes job.rule job.parts) (jobs config number t a sizes grain i valid)
  are_jobs = all_in (λ (job : JobValue). IsJob t sizes job.rule job.parts) (jobs config number t a sizes grain i valid) (λ job h. let j = at_in (jobs config number t a sizes grain i valid) job h in is_job j.0 job j.1 job.rule refl)

  pub have_nodes : All (λ (job : JobValue). HasNodes a.nodes job.parts) (jobs config number t a sizes grain i valid)
  have_nodes = all_in (λ (job : JobValue). HasNodes a.nodes job.parts) (jobs config number t a sizes grain i valid) (λ job h.
      let j = at_in (jobs config number t a sizes grain i valid) job h in
      all_in (λ (part : FramePart). part.node < length a.nodes) job.parts (λ part p. let f = node_of config number t a sizes grain i valid part (home config number t a sizes grain i valid j.0 job j.1 part p) in slice_get_within a.nodes part.node f.0 f.1))
