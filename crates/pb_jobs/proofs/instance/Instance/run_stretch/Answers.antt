use Rattle.std.proofs.Common.{◌∙◌, ◌+◌, ◌<◌, ℕ, length, subst, sym, true≢false}
use Rattle.std.specs.Prelude.{IfSome, IsTrue}
use Rattle.pb_statements.specs.Stored.{IsBlank}
use Rattle.pb_eval.specs.Terms.{StandFor}
use Rattle.pb_walk.specs.Stretches.{place_on}
use Rattle.pb_jobs.specs.Rooms.{SameRoom}
use Rattle.pb_jobs.specs.Shown.{AreShown}
use Rattle.pb_jobs.specs.declared.scratch.RuleScratch.{RuleScratch}
use Rattle.pb_program.specs.Trees.{bare_prog}
use Rattle.pb_taskgraph.proofs.TurnLemmas.{some-none}
use Rattle.pb_jobs.specs.Advances.{AreAdvances, AreShaped}
use Rattle.pb_jobs.specs.Instances.{of_sizes}
use Rattle.pb_jobs.specs.Rooms.{IsEnough}
use Rattle.pb_jobs.proofs.FirstCellLemmas.{terms_of}
use Rattle.pb_jobs.proofs.LineLemmas.{as_many_along, few_along, may_here, one_later, place_inside, within_along}
use Rattle.pb_jobs.proofs.instance.Instance.run_stretch.Goals as goal
use Rattle.pb_jobs.proofs.instance.Instance.run_stretch.Goals.{then-moves, else-moves}

pub begin-moves-requires-clause-windows : goal.begin-moves-requires-clause-windows
begin-moves-requires-clause-windows g c = as_many_along c.args.self.now c.requires.ready c.args.rule _ c.args.stretch.now c.requires.made c.reads-reads.result.now c.reads-reads.ensures c.read_windows-windows.result.now c.read_windows-windows.ensures c.views-matrices.result.now c.views-matrices.ensures c.requires.some

pub begin-moves-requires-clause-within : goal.begin-moves-requires-clause-within
begin-moves-requires-clause-within g c = within_along c.args.self.now c.requires.ready c.args.rule _ c.args.stretch.now c.requires.made c.reads-reads.result.now c.reads-reads.ensures c.read_windows-windows.result.now c.read_windows-windows.ensures c.views-matrices.result.now c.views-matrices.ensures

pub loop-i-init : goal.loop-i-init
loop-i-init g c = record {
  now = sym (some-none (g.C.CellReader.turn c.args.port.now));
  room = c.begin_formula-formula.ensures.room;
  blank = c.begin_formula-formula.ensures.blank;
  shown = λ h. c.begin-moves.ensures.shown;
  advances = c.begin-moves.ensures.advances;
  shaped = c.begin-moves.ensures.shaped;
  terms = c.take_terms.ensures;
}

pub cell-outcome-requires-clause-room : goal.cell-outcome-requires-clause-room
cell-outcome-requires-clause-room g c =
    let v = c.args.self.now in
    let room = c.loop-i.invariant.room in
    subst (λ (r : ℕ × ℕ). IsEnough (bare_prog v.program) v.number (of_sizes v) r.0 r.1 c.args.rule) (λ j. (sym room.locals j, sym room.outs j)) c.requires.room

pub place-requires : goal.place-requires
place-requires g c = place_inside c.args.self.now c.requires.ready c.args.rule _ c.args.stretch.now c.requires.made c.loop-i.i c.loop-i-test.true c.place-x.result.0 c.place-x.result.1 c.place-x.ensures.x c.place-x.ensures.y (g.C.CellReader.turn c.loop-i.port) c.loop-i.invariant.now c.views-matrices.result.now c.views-matrices.ensures c.index-matrices-stretch.result c.index-matrices-stretch.is

pub write-requires : goal.write-requires
write-requires g c =
    may_here c.args.self.now c.requires.ready c.args.rule _ c.args.stretch.now c.requires.made c.loop-i.i c.loop-i-test.true c.place-x.result.0 c.place-x.result.1 c.place-x.ensures.x c.place-x.ensures.y (g.C.CellReader.turn c.loop-i.port) c.loop-i.invariant.now c.views-matrices.result.now c.views-matrices.ensures c.index-matrices-stretch.result c.index-matrices-stretch.is
    c.cell-outcome.result c.cell-outcome.ensures.outcome c.place.result c.place.ensures (g.C.CellReader.turn c.cell-outcome.new.port) c.cell-outcome.ensures.stays

pub go_on-requires-clause-windows : goal.go_on-requires-clause-windows
go_on-requires-clause-windows g c = as_many_along c.args.self.now c.requires.ready c.args.rule _ c.args.stretch.now c.requires.made c.reads-reads.result.now c.reads-reads.ensures c.read_windows-windows.result.now c.read_windows-windows.ensures c.views-matrices.result.now c.views-matrices.ensures c.requires.some

pub go_on-requires-clause-within : goal.go_on-requires-clause-within
go_on-requires-clause-within g c = within_along c.args.self.now c.requires.ready c.args.rule _ c.args.stretch.now c.requires.made c.reads-reads.result.now c.reads-reads.ensures c.read_windows-windows.result.now c.read_windows-windows.ensures c.views-matrices.result.now c.views-matrices.ensures

pub show_next-requires-clause-windows : goal.show_next-requires-clause-windows
show_next-requires-clause-windows g c = as_many_along c.args.self.now c.requires.ready c.args.rule _ c.args.stretch.now c.requires.made c.reads-reads.result.now c.reads-reads.ensures c.read_windows-windows.result.now c.read_windows-windows.ensures c.views-matrices.result.now c.views-matrices.ensures c.requires.some

pub show_next-requires-clause-within : goal.show_next-requires-clause-within
show_next-requires-clause-within g c = within_along c.args.self.now c.requires.ready c.args.rule _ c.args.stretch.now c.requires.made c.reads-reads.result.now c.reads-reads.ensures c.read_windows-windows.result.now c.read_windows-windows.ensures c.views-matrices.result.now c.views-matrices.ensures

pub loop-i-preserved : goal.loop-i-preserved
loop-i-preserved g c =
    let room : SameRoom c.args.scratch.now.body c.cell-outcome.new.scratch = record { locals = c.cell-outcome.ensures.room.locals ∙ c.loop-i.invariant.room.locals; outs = c.cell-outcome.ensures.room.outs ∙ c.loop-i.invariant.room.outs } in
    record {
      now = one_later c.args.self.now c.requires.ready c.args.rule _ c.args.stretch.now c.requires.made c.loop-i.i c.loop-i-test.true c.place-x.result.0 c.place-x.result.1 c.place-x.ensures.x c.place-x.ensures.y (g.C.CellReader.turn c.loop-i.port) c.loop-i.invariant.now c.views-matrices.result.now c.views-matrices.ensures c.index-matrices-stretch.result c.index-matrices-stretch.is
          c.cell-outcome.result c.cell-outcome.ensures.outcome c.place.result c.place.ensures (g.C.CellReader.turn c.cell-outcome.new.port) (g.C.CellReader.turn c.write.new.self) c.cell-outcome.ensures.stays c.write.ensures;
      room = elim c.if-moves.branch [ then-moves w ↦ subst (λ (s : RuleScratch). SameRoom c.args.scratch.now.body s.body) (sym w.scratch-is) (room) | else-moves w ↦ subst (λ (s : RuleScratch). SameRoom c.args.scratch.now.body s.body) (sym w.scratch-is) (room) ];
      blank = elim c.if-moves.branch [ then-moves w ↦ subst (λ (s : RuleScratch). IfSome c.begin_formula-formula.result (λ e. IsBlank s.body)) (sym w.scratch-is) (c.cell-outcome.ensures.blank) | else-moves w ↦ subst (λ (s : RuleScratch). IfSome c.begin_formula-formula.result (λ e. IsBlank s.body)) (sym w.scratch-is) (c.cell-outcome.ensures.blank) ];
      shown = elim c.if-moves.branch [ then-moves w ↦ subst (λ (s : RuleScratch). c.loop-i.i + 1 < c.args.stretch.now.count → AreShown c.views-matrices.result.now (place_on c.args.stretch.now (c.loop-i.i + 1)).x (place_on c.args.stretch.now (c.loop-i.i + 1)).y c.reads-reads.result.now c.read_windows-windows.result.now (length c.reads-reads.result.now) s.shown.views.items) (sym w.scratch-is) (w.go_on.ensures.shown) | else-moves w ↦ subst (λ (s : RuleScratch). c.loop-i.i + 1 < c.args.stretch.now.count → AreShown c.views-matrices.result.now (place_on c.args.stretch.now (c.loop-i.i + 1)).x (place_on c.args.stretch.now (c.loop-i.i + 1)).y c.reads-reads.result.now c.read_windows-windows.result.now (length c.reads-reads.result.now) s.shown.views.items) (sym w.scratch-is) (w.show_next.ensures.shown) ];
      advances = elim c.if-moves.branch [ then-moves w ↦ subst (λ (s : RuleScratch). IsTrue c.begin-moves.result → AreAdvances c.views-matrices.result.now c.args.stretch.now c.reads-reads.result.now c.read_windows-windows.result.now (length c.reads-reads.result.now) s.shown.advances.items) (sym w.scratch-is) (λ m. subst (λ l. AreAdvances c.views-matrices.result.now c.args.stretch.now c.reads-reads.result.now c.read_windows-windows.result.now (length c.reads-reads.result.now) l.items) (sym w.go_on.ensures.advances) (c.loop-i.invariant.advances m)) | else-moves w ↦ subst (λ (s : RuleScratch). IsTrue c.begin-moves.result → AreAdvances c.views-matrices.result.now c.args.stretch.now c.reads-reads.result.now c.read_windows-windows.result.now (length c.reads-reads.result.now) s.shown.advances.items) (sym w.scratch-is) (λ m. subst (λ l. AreAdvances c.views-matrices.result.now c.args.stretch.now c.reads-reads.result.now c.read_windows-windows.result.now (length c.reads-reads.result.now) l.items) (sym w.show_next.ensures.advances) (c.loop-i.invariant.advances m)) ];
      shaped = elim c.if-moves.branch [ then-moves w ↦ subst (λ (s : RuleScratch). IsTrue c.begin-moves.result → AreShaped s.shown.advances.items s.shown.views.items) (sym w.scratch-is) (λ m. w.go_on.ensures.shaped) | else-moves w ↦ subst (λ (s : RuleScratch). IsTrue c.begin-moves.result → AreShaped s.shown.advances.items s.shown.views.items) (sym w.scratch-is) (λ m. absurd (true≢false (sym m ∙ w.if-moves.false))) ];
      terms = elim c.if-moves.branch [ then-moves w ↦ subst (λ (s : RuleScratch). IfSome c.begin_formula-formula.result (λ e. StandFor e.now s.terms)) (sym w.scratch-is) (c.loop-i.invariant.terms) | else-moves w ↦ subst (λ (s : RuleScratch). IfSome c.begin_formula-formula.result (λ e. StandFor e.now s.terms)) (sym w.scratch-is) (c.loop-i.invariant.terms) ];
    }

pub run_line-requires-clause-room : goal.run_line-requires-clause-room
run_line-requires-clause-room g c =
    let v = c.args.self.now in
    let room = c.begin_formula-formula.ensures.room in
    subst (λ (r : ℕ × ℕ). IsEnough (bare_prog v.program) v.number (of_sizes v) r.0 r.1 c.args.rule) (λ j. (sym room.locals j, sym room.outs j)) c.requires.room

pub run_line-requires-clause-terms : goal.run_line-requires-clause-terms
run_line-requires-clause-terms g c = terms_of (λ e. e.now) c.args.self.now c.args.rule c.take_terms.new.terms c.begin_formula-formula.result (c.needs_cells_alone.ensures.formula c.if-needs_cells_alone.true) c.begin_formula-formula.ensures.formula c.take_terms.ensures

pub show_next-requires-clause-few : goal.show_next-requires-clause-few
show_next-requires-clause-few g c = few_along c.args.self.now c.requires.ready c.args.rule _ c.args.stretch.now c.requires.made c.reads-reads.result.now c.reads-reads.ensures c.read_windows-windows.result.now c.read_windows-windows.ensures c.views-matrices.result.now c.views-matrices.ensures c.requires.some
