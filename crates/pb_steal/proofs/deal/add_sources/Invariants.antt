use Rattle.std.proofs.Common.{◌≡◌, ◌≤◌, ◌-◌, ◌++◌, drop, take}
use Rattle.std.specs.List.{sum_by}
use Rattle.pb_steal.specs.Crews.{deques_of}
use Rattle.pb_steal.specs.Deques.{SourceValue}
use Rattle.pb_steal.proofs.deal.add_sources.Given as goal

abbrev pub invariant-loop-place : goal.invariant-loop-place
invariant-loop-place g l = record {
  past : l.first ≤ l.place;
  deques : deques_of l.others.items ≡ deques_of l.fn.others.items ++ take (l.place - l.first) (drop l.first (deques_of l.sources.items));
  took : sum_by (λ (s : SourceValue). s.took) l.others.items ≡ sum_by (λ (s : SourceValue). s.took) l.fn.others.items;
}
