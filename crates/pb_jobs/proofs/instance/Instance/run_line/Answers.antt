use Rattle.std.proofs.Common.{◌≡◌, ◌∙◌, ◌+◌, ℕ, Some, ap, refl, slice_get, subst, sym, rules, to_z, of_z, w64}
use Rattle.pb_values.specs.declared.outcome.Outcome.TheVariants.{Value}
use Rattle.pb_program.specs.Trees.{bare_prog}
use Rattle.pb_taskgraph.proofs.TurnLemmas.{some-none}
use Rattle.pb_eval.specs.Sums.{IsSumOf}
use Rattle.pb_jobs.specs.Advances.{AreShaped}
use Rattle.pb_jobs.specs.Instances.{of_sizes}
use Rattle.pb_jobs.specs.Rooms.{IsEnough}
use Rattle.pb_jobs.proofs.LineLemmas.{may_here, one_later}
use Rattle.pb_jobs.proofs.OwnLemmas.{IsAlong, along_next, from_along, kept_same, own_is, terms_along}
use Rattle.pb_jobs.proofs.instance.Instance.run_line.Goals as goal
use Rattle.pb_jobs.proofs.instance.Instance.run_line.Goals.{in-Some, in_default}

pub loop-i-init : goal.loop-i-init
loop-i-init g c =
    let moving = c.begin_cells.ensures.cells in
    record {
      now = sym (some-none (g.C.CellReader.turn c.args.port.now));
      along = record {
        room = record { locals = refl; outs = refl };
        terms = refl;
        sum = λ known. subst (λ l. IsSumOf l c.args.scratch.now.terms c.take.new.self) c.deref.ensures.value (c.take.ensures known);
        advances = c.begin_cells.ensures.advances;
        by = λ k a m at_a at_m. moving.by k a m (ap (λ l. slice_get l.items k) (sym c.begin_cells.ensures.advances) ∙ at_a) at_m;
        shown = λ _. record {
          views = c.args.scratch.now.shown.views.items;
          shown = c.requires.shown;
          shaped = subst (λ l. AreShaped l.items c.args.scratch.now.shown.views.items) (sym c.begin_cells.ensures.advances) c.requires.shaped;
          first = sym moving.first;
        };
      };
    }

pub by_sum-requires-clause-of_cells : goal.by_sum-requires-clause-of_cells
by_sum-requires-clause-of_cells g c =
    let r = c.requires in
    terms_along c.args.self.now r.ready c.args.rule _ c.args.stretch.now r.made r.some c.args.reads.now r.reads c.args.windows.now r.windows c.args.scratch.now c.loop-i.scratch r.advances c.loop-i.i c.loop-i-test.true c.loop-i.invariant.along r.of_cells

pub by_sum-requires-clause-from : goal.by_sum-requires-clause-from
by_sum-requires-clause-from g c =
    let r = c.requires in
    from_along c.args.self.now r.ready c.args.rule _ c.args.stretch.now r.made r.some c.args.reads.now r.reads c.args.windows.now r.windows c.args.scratch.now c.loop-i.scratch r.advances c.loop-i.i c.loop-i-test.true c.loop-i.invariant.along
    c.place-x.result.0 c.place-x.result.1 c.place-x.ensures.x c.place-x.ensures.y

pub write-requires : goal.write-requires
write-requires g c =
    let r = c.requires in
    let s = c.args.stretch.now in
    let p = c.place-x in
    let w = c.index-matrices-stretch in
    let held : to_z w64 (of_z w64 c.in-Some.n) ≡ c.in-Some.n = search rules in
    let cell = own_is c.args.self.now r.ready c.args.rule _ s r.made c.views-matrices.result.now c.views-matrices.ensures w.result w.is c.own_cells-own.result c.own_cells-own.ensures.first c.own_cells-own.ensures.by c.loop-i.i c.loop-i-test.true p.result.0 p.result.1 c.at-cell.result p.ensures.x p.ensures.y c.at-cell.ensures in
    subst (λ n. slice_get (g.C.CellReader.turn c.by_sum.new.port).left 0 ≡ Some (c.at-cell.result, Value n)) (sym held)
    (may_here c.args.self.now r.ready c.args.rule _ s r.made c.loop-i.i c.loop-i-test.true p.result.0 p.result.1 p.ensures.x p.ensures.y (g.C.CellReader.turn c.loop-i.port) c.loop-i.invariant.now c.views-matrices.result.now c.views-matrices.ensures w.result w.is
    (Value c.in-Some.n) c.in-Some.ensures.outcome c.at-cell.result cell (g.C.CellReader.turn c.by_sum.new.port) c.by_sum.ensures.stays)

pub line_cell-outcome-requires-clause-room : goal.line_cell-outcome-requires-clause-room
line_cell-outcome-requires-clause-room g c =
    let v = c.args.self.now in
    let room = c.loop-i.invariant.along.room in
    subst (λ (q : ℕ × ℕ). IsEnough (bare_prog v.program) v.number (of_sizes v) q.0 q.1 c.args.rule) (λ j. (sym room.locals j, sym room.outs j)) c.requires.room

pub line_cell-outcome-requires-clause-of_cells : goal.line_cell-outcome-requires-clause-of_cells
line_cell-outcome-requires-clause-of_cells g c =
    let r = c.requires in
    terms_along c.args.self.now r.ready c.args.rule _ c.args.stretch.now r.made r.some c.args.reads.now r.reads c.args.windows.now r.windows c.args.scratch.now c.loop-i.scratch r.advances c.loop-i.i c.loop-i-test.true c.loop-i.invariant.along r.of_cells

pub line_cell-outcome-requires-clause-from : goal.line_cell-outcome-requires-clause-from
line_cell-outcome-requires-clause-from g c =
    let r = c.requires in
    from_along c.args.self.now r.ready c.args.rule _ c.args.stretch.now r.made r.some c.args.reads.now r.reads c.args.windows.now r.windows c.args.scratch.now c.loop-i.scratch r.advances c.loop-i.i c.loop-i-test.true c.loop-i.invariant.along
    c.place-x.result.0 c.place-x.result.1 c.place-x.ensures.x c.place-x.ensures.y

pub write-requires-in_default : goal.write-requires-in_default
write-requires-in_default g c =
    let r = c.requires in
    let s = c.args.stretch.now in
    let p = c.place-x in
    let w = c.index-matrices-stretch in
    let made = c.line_cell-outcome in
    let cell = own_is c.args.self.now r.ready c.args.rule _ s r.made c.views-matrices.result.now c.views-matrices.ensures w.result w.is c.own_cells-own.result c.own_cells-own.ensures.first c.own_cells-own.ensures.by c.loop-i.i c.loop-i-test.true p.result.0 p.result.1 c.at-cell.result p.ensures.x p.ensures.y c.at-cell.ensures in
    may_here c.args.self.now r.ready c.args.rule _ s r.made c.loop-i.i c.loop-i-test.true p.result.0 p.result.1 p.ensures.x p.ensures.y (g.C.CellReader.turn c.by_sum.new.port) (c.by_sum.ensures.stays ∙ c.loop-i.invariant.now) c.views-matrices.result.now c.views-matrices.ensures w.result w.is
    made.result made.ensures.outcome c.at-cell.result cell (g.C.CellReader.turn made.new.port) made.ensures.stays

pub loop-i-preserved : goal.loop-i-preserved
loop-i-preserved g c =
    let v = c.args.self.now in
    let r = c.requires in
    let s = c.args.stretch.now in
    let p = c.place-x in
    let w = c.index-matrices-stretch in
    let cell = own_is v r.ready c.args.rule _ s r.made c.views-matrices.result.now c.views-matrices.ensures w.result w.is c.own_cells-own.result c.own_cells-own.ensures.first c.own_cells-own.ensures.by c.loop-i.i c.loop-i-test.true p.result.0 p.result.1 c.at-cell.result p.ensures.x p.ensures.y c.at-cell.ensures in
    let next = along_next v r.ready c.args.rule _ s r.made r.some c.args.reads.now r.reads c.args.windows.now r.windows c.args.scratch.now c.loop-i.scratch r.advances c.loop-i.i c.loop-i-test.true c.loop-i.invariant.along in
    elim c.match-by_sum.branch [
      | in-Some q ↦ record {
        now = ap g.C.CellReader.turn q.port-is
            ∙ one_later v r.ready c.args.rule _ s r.made c.loop-i.i c.loop-i-test.true p.result.0 p.result.1 p.ensures.x p.ensures.y (g.C.CellReader.turn c.loop-i.port) c.loop-i.invariant.now c.views-matrices.result.now c.views-matrices.ensures w.result w.is
            (Value _) (λ rule at. ap (λ n. Value n) (let held : to_z w64 (of_z w64 q.in-Some.n) ≡ q.in-Some.n = search rules in held) ∙ q.in-Some.ensures.outcome rule at) c.at-cell.result cell (g.C.CellReader.turn c.by_sum.new.port) (g.C.CellReader.turn q.write.new.self) c.by_sum.ensures.stays q.write.ensures;
        along = next c.match-by_sum.scratch (kept_same c.loop-i.scratch c.match-by_sum.scratch q.scratch-is);
      }
      | in_default q ↦ record {
        now = ap g.C.CellReader.turn q.port-is
            ∙ one_later v r.ready c.args.rule _ s r.made c.loop-i.i c.loop-i-test.true p.result.0 p.result.1 p.ensures.x p.ensures.y (g.C.CellReader.turn c.by_sum.new.port) (c.by_sum.ensures.stays ∙ c.loop-i.invariant.now) c.views-matrices.result.now c.views-matrices.ensures w.result w.is
            q.line_cell-outcome.result q.line_cell-outcome.ensures.outcome c.at-cell.result cell (g.C.CellReader.turn q.line_cell-outcome.new.port) (g.C.CellReader.turn q.write-in_default.new.self) q.line_cell-outcome.ensures.stays q.write-in_default.ensures;
        along = subst (λ l. IsAlong v s c.args.reads.now c.args.windows.now c.args.scratch.now l (c.loop-i.i + 1)) (sym q.scratch-is)
            (let kept = q.line_cell-outcome.ensures in next q.line_cell-outcome.new.scratch (record { room = kept.room; terms = kept.terms; sum = kept.sum; advances = kept.advances; cells = kept.cells }));
      }
    ]
