use Rattle.pb_layers.proofs.KeyLemmas.{keys-moved, keys-rise}
use Rattle.pb_layers.proofs.keys.keys.Goals as goal

pub returns-clause-keys : goal.returns-clause-keys
returns-clause-keys c = keys-moved c.args.least.now c.args.depth.now _ c.in_ok-keys.keys.items c.sort.new.self.items c.in_ok-sort.ensures.permutation c.in_ok-keys.ensures

pub returns-clause-rising : goal.returns-clause-rising
returns-clause-rising c = keys-rise c.sort.new.self.items c.in_ok-sort.ensures.sorted (keys-moved c.args.least.now c.args.depth.now _ c.in_ok-keys.keys.items c.sort.new.self.items c.in_ok-sort.ensures.permutation c.in_ok-keys.ensures).apart
