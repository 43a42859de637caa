use Rattle.std.proofs.Common.{◌≡◌, ◌++◌, map}
use Rattle.std.specs.Vec.Iter.{into_iter_items}
use Rattle.pb_trials.proofs.tuner.sites_of.Given as goal

abbrev pub invariant-loop-site : goal.invariant-loop-site
invariant-loop-site l = l.sites.items ++ map (λ e. e.site) (into_iter_items l.site-iterator) ≡ map (λ e. e.site) l.fn.config.entries
