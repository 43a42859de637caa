use Rattle.std.proofs.Common.{◌≡◌, ◌⊎◌, inl, inr}
use Rattle.pb_entry.specs.declared.refusal.RunRefusal.TheVariants.{Memory}
use Rattle.pb_program.specs.Trees.{bare_prog}
use Rattle.pb_run_graph.specs.Linking.{IsTooMany}
use Rattle.pb_run_graph.specs.Handed.{unrolled_run}
use Rattle.pb_cost.specs.declared.at_size.TheConstants.{COST_DEPTH, COST_GRAIN}
use Rattle.pb_cost.proofs.LimitLemmas.{can_link, unlinked_is}
use Rattle.pb_cost.proofs.limits.has_few_links.Goals as goal

pub run_links-requires : goal.run_links-requires
run_links-requires c = record { ready = can_link c.args.a.now c.args.c.now c.args.t c.args.given.now c.requires.begun c.in_ok-run.run' c.in_ok-run.ensures.steps c.in_ok-run.ensures.met c.in_ok-run.ensures.seated }

pub returns : goal.returns
returns c =
    let v = c.args.a.now in
    let steps = (unrolled_run (bare_prog v.program) v.found c.args.c.now COST_GRAIN COST_DEPTH c.args.t c.args.given.now).steps in
    let e = c.in-Err.refusal in
    let told : (e ≡ Memory) ⊎ IsTooMany steps e = elim c.in-Err.ensures.refused [
      | inl memory ↦ inl memory
      | inr many ↦ inr (many steps c.in_ok-run.ensures.steps)
    ] in
    unlinked_is steps e c.in_ok-unless_memory-in-Err.ensures told
