use Rattle.std.proofs.Common.{◌+◌, refl, [], ◌∷◌}
use Rattle.pb_run_trials.proofs.GivenLemmas.{linked-piece, split-graph}
use Rattle.pb_run_trials.proofs.given.split.Goals as goal

pub new-requires-3 : goal.new-requires-3
new-requires-3 c = split-graph c.args.others (record { inputs = c.args.inputs; cells = c.args.inputs + 1 + c.args.others; tasks = c.in_ok-tasks.tasks.items }) (record {
  cells = refl;
  few = c.requires;
  one = _;
  two = _;
  tasks = c.in_ok-tasks.ensures.items;
  one_is = linked-piece c.args.inputs 1 _ _ [] (1 ∷ []) _ c.in_ok-one.ensures c.new.ensures.items c.in_ok-next.ensures.items;
  two_is = linked-piece (c.args.inputs + 1) c.args.others _ _ (0 ∷ []) [] _ c.in_ok-two.ensures c.in_ok-previous.ensures.items c.new-2.ensures.items;
})
