use Rattle.std.proofs.Common.{◌∙◌, ap}
use Rattle.pb_taskgraph.specs.Graphs.{GraphValue, TaskValue}
use Rattle.pb_instance_trials.proofs.DrivenLemmas.{are-two}
use Rattle.pb_instance_trials.proofs.driven.are_two.Goals as goal

pub returns : goal.returns
returns g c = λ next.
    are-two (g.W.Work.plan c.args.work.now).graph c.tasks.result.now (c.tasks.ensures.tasks ∙ ap (λ (v : GraphValue). v.tasks) c.graph.ensures.graph) c.first-item.result c.second-item.result
    c.in-len2.len_at_least c.in-len2.len_below c.first-item.is c.second-item.is c.as_slice.result.now c.as_slice-2.result.now
    (c.as_slice.ensures.value ∙ ap (λ (t : TaskValue). t.after) c.first.view_is) c.in-len1.len_at_least c.in-len1.len_below
    (c.as_slice-2.ensures.value ∙ ap (λ (t : TaskValue). t.after) c.second.view_is) c.in-empty.len_below next
