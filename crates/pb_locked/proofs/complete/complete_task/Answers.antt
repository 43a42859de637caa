use Rattle.std.proofs.Common.{◌∙◌, ap, sym, subst}
use Rattle.std.specs.List.{flat_map}
use Rattle.pb_values.specs.Views.{view_cells}
use Rattle.pb_taskgraph.specs.Graphs.{TaskValue}
use Rattle.pb_taskgraph.specs.declared.task.Part.{Part}
use Rattle.pb_core.specs.Events.{AllEnabled, all_happen}
use Rattle.pb_core.specs.Cores.{state_of}
use Rattle.pb_locked.specs.Boards.{releases_by, writes_by}
use Rattle.pb_locked.proofs.CompleteLemmas.{finish-done, finish-releases, stores-enabled, values-few}
use Rattle.pb_locked.proofs.complete.complete_task.Goals as goal

pub store_parts-requires-clause-few : goal.store_parts-requires-clause-few
store_parts-requires-clause-few g c κs within = values-few g.N.NamesWork.plan c.requires.plan c.args.task c.args.values.now c.requires.values

pub store_parts-requires-clause-enabled : goal.store_parts-requires-clause-enabled
store_parts-requires-clause-enabled g c κs within =
    let p = g.N.NamesWork.plan in
    let cells = c.requires.cells ∙ ap (flat_map (λ (part : Part). view_cells part.view)) (sym (c.deref.ensures.value ∙ ap (λ (t : TaskValue). t.parts) c.links.view_is)) in
    subst (λ l. AllEnabled p (state_of p c.args.core.now) (writes_by c.args.hand l)) cells (stores-enabled p c.requires.plan (state_of p c.args.core.now) c.requires.board c.args.hand c.args.task c.requires.begun)

pub release_all-requires-after_bounds : goal.release_all-requires-after_bounds
release_all-requires-after_bounds g c κs within =
    let p = g.N.NamesWork.plan in
    let cells = c.requires.cells ∙ ap (flat_map (λ (part : Part). view_cells part.view)) (sym (c.deref.ensures.value ∙ ap (λ (t : TaskValue). t.parts) c.links.view_is)) in
    let after = c.requires.after ∙ sym (c.deref-2.ensures.value ∙ ap (λ (t : TaskValue). t.after) c.links.view_is) in
    let stored = c.store_parts.ensures ∙ ap (λ l. all_happen p (state_of p c.args.core.now) (writes_by c.args.hand l)) (sym cells) in
    subst (λ l. AllEnabled p (state_of p c.step-finished.new.self) (releases_by c.args.hand c.args.task l)) after
    (finish-releases p c.requires.plan (state_of p c.args.core.now) c.requires.board c.args.hand c.args.task c.requires.begun c.store_parts.new.core c.step-finished.new.self stored c.step-finished.result c.step-finished.ensures)

pub returns : goal.returns
returns g c =
    let p = g.N.NamesWork.plan in
    let cells = c.requires.cells ∙ ap (flat_map (λ (part : Part). view_cells part.view)) (sym (c.deref.ensures.value ∙ ap (λ (t : TaskValue). t.parts) c.links.view_is)) in
    let after = c.requires.after ∙ sym (c.deref-2.ensures.value ∙ ap (λ (t : TaskValue). t.after) c.links.view_is) in
    let stored = c.store_parts.ensures ∙ ap (λ l. all_happen p (state_of p c.args.core.now) (writes_by c.args.hand l)) (sym cells) in
    finish-done p c.requires.plan (state_of p c.args.core.now) c.requires.board c.args.hand c.args.task c.requires.begun c.store_parts.new.core c.step-finished.new.self stored c.step-finished.result c.step-finished.ensures
    (state_of p c.release_all.new.core) (c.release_all.ensures ∙ ap (λ l. all_happen p (state_of p c.step-finished.new.self) (releases_by c.args.hand c.args.task l)) (sym after))
