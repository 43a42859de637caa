use Rattle.std.proofs.Common.{◌∙◌, ◌↔◌, ◌==◌, ◌+◌, ◌++◌, ◌∷◌, [], ℕ, List, ap, arith, get_or, subst, sym, take}
use Rattle.std.specs.List.{Contains}
use Rattle.std.proofs.Math.Bool.{cond}
use Rattle.std.proofs.lemmas.List.{take_all, take_more}
use Rattle.pb_cells.specs.Handles.{JobValue}
use Rattle.pb_cells.proofs.TaskLemmas.{not-before}
use Rattle.pb_steal.specs.Turns.{LeavesAt, Opens}
use Rattle.pb_steal.proofs.ReleaseLemmas.{cond-few, opens-more, released-more}
use Rattle.pb_steal.proofs.runner.release_all.Goals as goal

pub release_one-requires-clause-owed : goal.release_one-requires-clause-owed
release_one-requires-clause-owed g c =
    let l = c.loop-next in
    λ h. not-before c.args.nexts.now l.next-index c.requires.once c.loop-next-test.true ((l.invariant.released (get_or c.args.nexts.now l.next-index 0)).0 h)

pub loop-next-preserved : goal.loop-next-preserved
loop-next-preserved g c =
    let p = g.N.NamesWork.plan in
    let l = c.loop-next in
    let nexts = c.args.nexts.now in
    let next : ℕ = get_or nexts l.next-index 0 in
    let r = c.release_one.ensures.released in
    let row : List ℕ = l.row.items in
    record {
      table = ap (λ (j : JobValue). j.table) r.job ∙ l.invariant.table;
      task = ap (λ (j : JobValue). j.at.task) r.job ∙ l.invariant.task;
      number = ap (λ (j : JobValue). j.at.number) r.job ∙ l.invariant.number;
      opens = subst (λ ts. Opens p c.args.job.now.at.task ts c.release_one.new.row.items) (sym (take_more nexts l.next-index 0 c.loop-next-test.true))
          (subst (Opens p c.args.job.now.at.task (take l.next-index nexts ++ next ∷ [])) (sym r.ticket)
          (opens-more p c.args.job.now.at.task (take l.next-index nexts) row next r.left l.invariant.opens (subst (λ t. LeavesAt p t next r.left) l.invariant.task r.leaves)));
      opened = ap (λ (j : JobValue). j.opened) r.job ∙ ap (λ (ts : List ℕ). cond (r.left == 0) (ts ++ next ∷ []) ts) l.invariant.opened ∙ sym r.ticket;
      released = λ u. subst (λ (ts : List ℕ). Contains ts u ↔ Contains (take (l.next-index + 1) nexts) u) (sym (ap (λ (j : JobValue). j.at.released) r.job))
          (released-more nexts l.job.at.released l.next-index c.loop-next-test.true l.invariant.released u);
      few = cond-few (r.left == 0) row c.release_one.new.row.items next l.next-index r.ticket l.invariant.few;
      room = c.release_one.ensures.room ∙ l.invariant.room;
    }

pub returns-clause-paid : goal.returns-clause-paid
returns-clause-paid g c next h = (c.loop-next.invariant.released next).1 (subst (λ ts. Contains ts next) (sym (take_all c.loop-next.next-index c.args.nexts.now (omega (arith, c.loop-next-test.false)))) h)
