-- In a job that makes its cells one by one, a cell of lower rank stands before.
use Rattle.std.proofs.Common.{◌≡◌, ◌∙◌, refl, sym, ap, subst, inl, inr, ◌⊎◌, ⊎_elim, ℕ, ◌≤◌, ◌<◌, pos, ◌<ℤ◌, List, slice_get, slice_index, Some, None, arith}
use Rattle.std.specs.List.{Contains}
use Rattle.std.proofs.lemmas.Bool.{cases_lt}
use Rattle.std.proofs.lemmas.Int.{ints}
use Rattle.pb_graph.specs.Layerings.{steps_at}
use Rattle.pb_graph.specs.Ranks.{IsBelow, Rank, rank_by, rank_in}
use Rattle.pb_program.specs.Configs.{ConfigValue, IsValid}
use Rattle.pb_program.specs.Trees.{ProgTransform}
use Rattle.pb_base.proofs.ListLemmas.{at_in, in_at}
use Rattle.pb_model.specs.Cells.{Cell}
use Rattle.pb_check.specs.Orders.{AnalysisValue}
use Rattle.pb_check.specs.Ranked.{HasRank, IsIn, IsMadeCell, StandsBelow}
use Rattle.pb_check.proofs.FirstLemmas.{some_same}
use Rattle.pb_check.proofs.RankedLemmas.{covered_is}
use Rattle.pb_frame.specs.Choices.{IsInstance}
use Rattle.pb_frame.specs.Frames.{JobValue}
use Rattle.pb_frame.proofs.PartLemmas.{held_in}
use Rattle.pb_plan.specs.Made.{IsMadeBy, jobs_for}
use Rattle.pb_plan.proofs.BeforeLemmas.{own_layer, parts}
use Rattle.pb_plan.proofs.JobLemmas.{IsBlockAt, IsPlaced, IsWideAt, kind_of, placed}
use Rattle.pb_plan.proofs.MadeLemmas.{held_whole, made_cell, piece_of}
use Rattle.pb_walk.specs.Orders.{IsEarlier, rank_of}
use Rattle.pb_walk.specs.declared.stop.Stop.{Stop}
use Rattle.pb_walk.proofs.WalkLemmas.{walk_rises}
use Rattle.pb_solution.specs.Solutions.{steps_by, stop_cell, stops_of}
use Rattle.pb_solution.proofs.OrderLemmas.{made_stop, stop_made}

-- ---- ranks
both_below : (a b : Rank) → ((a.first <ℤ b.first) ⊎ ((a.first ≡ b.first) × (a.second <ℤ b.second))) → ((b.first <ℤ a.first) ⊎ ((b.first ≡ a.first) × (b.second <ℤ a.second))) → ⊥
both_below a b (inl x) (inl y) = omega (arith, ints, x, y)
both_below a b (inl x) (inr y) = omega (arith, ints, x, y.0)
both_below a b (inr x) (inl y) = omega (arith, ints, x.0, y)
both_below a b (inr x) (inr y) = omega (arith, ints, x.1, y.1)

never_both : (a b : Rank) → IsBelow a b → IsBelow b a → ⊥
never_both a b (inl x) (inl y) = omega (arith, x, y)
never_both a b (inl x) (inr y) = omega (arith, x, y.0)
never_both a b (inr x) (inl y) = omega (arith, x.0, y)
never_both a b (inr x) (inr y) = both_below a b x.1 y.1

module _ (config : ConfigValue) (number : ℕ) (t : ProgTransform) (a : AnalysisValue) (sizes : List ℕ) (grain : ℕ) (i : IsInstance number t a sizes) (valid : IsValid i.program config) where
  abbrev jobs : List JobValue
  jobs = jobs_for config number t a sizes grain

  -- a stop of a job, with its cell
  module _ (j : ℕ) (job : JobValue) (e : slice_get jobs j ≡ Some job) (k : ℕ) (s : Stop) (at : slice_get (stops_of a.nodes a.order.layers job) k ≡ Some s) where
    abbrev c : Cell
    c = stop_cell s

    abbrev stops : List Stop
    stops = stops_of a.nodes a.order.layers job

    pub of_job : IsMadeBy jobs a.nodes c j s.piece
    of_job = stop_made config number t a sizes grain i valid j job e s (in_at stops k s at)

    pub of_made : IsMadeCell t sizes c
    of_made = made_cell config number t a sizes grain i c j s.piece of_job

    -- the rank of a cell that the job makes, where it makes its cells one by one
    layer_is : job.rule ≡ None → (placed t a.order grain (parts config number t a sizes grain i valid) j job e).layer ≡ job.layer
    layer_is none = by (placed t a.order grain (parts config number t a sizes grain i valid) j job e) (kind_of t a.order grain (parts config number t a sizes grain i valid) j job (placed t a.order grain (parts config number t a sizes grain i valid) j job e))
      where
        by : (p : IsPlaced t a.order grain (parts config number t a sizes grain i valid) j job) → ((m : ℕ) × IsWideAt t a.order grain (parts config number t a sizes grain i valid) p.layer p.place job m) ⊎ IsBlockAt t a.order grain (parts config number t a sizes grain i valid) p.layer p.value p.place job → p.layer ≡ job.layer
        by p (inl w) = sym (ap (λ (q : JobValue). q.layer) w.1.1)
        by p (inr b) = sym (ap (λ (q : JobValue). q.layer) b.same)

    rank_is : (d : Cell) (l : ℕ) (m : IsMadeBy jobs a.nodes d j l) → job.rule ≡ None → (piece : ℕ) → rank_in a.order m.part.node (pos d.x) (pos d.y) ≡ rank_of job.layer (steps_by a.order.layers job.layer job.rule) (record { piece = piece; base = d.matrix; x = d.x; y = d.y })
    rank_is d l m none piece =
        let same : m.job ≡ job = some_same m.job job (sym m.is ∙ e) in
        let here : Contains job.parts m.part = subst (λ (q : JobValue). Contains q.parts m.part) same (in_at m.job.parts l m.part m.has) in
        let layer : slice_index a.order.layer m.part.node ≡ job.layer = own_layer config number t a sizes grain i valid j job e m.part here ∙ layer_is none in
        ap (λ n. rank_by n (steps_at a.order.layers n) (pos d.x) (pos d.y)) layer ∙ ap (λ o. rank_by job.layer (steps_by a.order.layers job.layer o) (pos d.x) (pos d.y)) (sym none)

    -- its segment holds it
    held_here : (d : Cell) (l : ℕ) (m : IsMadeBy jobs a.nodes d j l) → IsIn a.nodes sizes d m.part.node
    held_here d l m = let own = piece_of config number t a sizes grain i d j l m in subst (IsIn a.nodes sizes d) own.node (held_in config number t a sizes i own.whole d own.among (held_whole config number t a sizes grain i m.part own d m.holds))

    has_rank : (d : Cell) (l : ℕ) (m : IsMadeBy jobs a.nodes d j l) → HasRank t a sizes d (rank_in a.order m.part.node (pos d.x) (pos d.y))
    has_rank d l m = record { segment = m.part.node; holds = held_here d l m; is = refl }

    -- a cell that the job makes, of lower rank, is a stop before
    pub stands_before : (d : Cell) (l : ℕ) (m : IsMadeBy jobs a.nodes d j l) → job.rule ≡ None → ((rank : Rank) → HasRank t a sizes c rank → StandsBelow t a sizes rank d)
        → (p : ℕ) × (p < k) × (slice_get stops p ≡ Some (record { piece = l; base = d.matrix; x = d.x; y = d.y }))
    stands_before d l m none lower =
        let r : Stop = record { piece = l; base = d.matrix; x = d.x; y = d.y } in
        let p = at_in stops r (made_stop config number t a sizes grain i valid j job e d l m) in (
          p.0,
          ⊎_elim
              (λ (early : p.0 < k). early)
              (λ (late : k ≤ p.0). absurd (never p.0 p.1 late (below_is (lower (rank_in a.order of_job.part.node (pos c.x) (pos c.y)) (has_rank c s.piece of_job)))))
              (cases_lt p.0 k),
          p.1,
        )
      where
        rank_c : Rank
        rank_c = rank_of job.layer (steps_by a.order.layers job.layer job.rule) s

        rank_d : Rank
        rank_d = rank_of job.layer (steps_by a.order.layers job.layer job.rule) (record { piece = l; base = d.matrix; x = d.x; y = d.y })

        below_is : StandsBelow t a sizes (rank_in a.order of_job.part.node (pos c.x) (pos c.y)) d → IsBelow rank_d rank_c
        below_is b =
            let made = made_cell config number t a sizes grain i d j l m in
            let one = (covered_is i.program number t sizes i.well_formed i.sound i.there a i.found d made b.has.segment b.has.holds).alone m.part.node (held_here d l m) in
            let own : b.own ≡ rank_d = b.has.is ∙ ap (λ u. rank_in a.order u (pos d.x) (pos d.y)) (sym one) ∙ rank_is d l m none l in
            subst (λ q. IsBelow rank_d q) (rank_is c s.piece of_job none s.piece) (subst (λ q. IsBelow q (rank_in a.order of_job.part.node (pos c.x) (pos c.y))) own b.below)

        never : (p : ℕ) → slice_get stops p ≡ Some (record { piece = l; base = d.matrix; x = d.x; y = d.y }) → k ≤ p → IsBelow rank_d rank_c → ⊥
        never p there late below = ⊎_elim
            (λ (more : k < p). ⊎_elim
            (λ (less : IsBelow rank_c rank_d). never_both rank_d rank_c below less)
            (λ (same : (rank_c ≡ rank_d) × IsEarlier s (record { piece = l; base = d.matrix; x = d.x; y = d.y })). never_both rank_d rank_d (subst (IsBelow rank_d) same.0 below) (subst (IsBelow rank_d) same.0 below))
            (walk_rises job.layer (steps_by a.order.layers job.layer job.rule) _ k p s (record { piece = l; base = d.matrix; x = d.x; y = d.y }) more at there))
            (λ (least : p ≤ k).
            let same : k ≡ p = omega (arith, late, least) in
            let stop : s ≡ record { piece = l; base = d.matrix; x = d.x; y = d.y } = some_same s (record { piece = l; base = d.matrix; x = d.x; y = d.y }) (sym at ∙ ap (slice_get stops) same ∙ there) in
            let rank : rank_c ≡ rank_d = ap (rank_of job.layer (steps_by a.order.layers job.layer job.rule)) stop in
            never_both rank_d rank_d (subst (IsBelow rank_d) rank below) (subst (IsBelow rank_d) rank below))
            (cases_lt k p)
