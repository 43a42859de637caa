use Rattle.std.proofs.Common.{◌≡◌, ◌++◌, map, take}
use Rattle.std.specs.List.{enumerate_from, flat_map}
use Rattle.pb_program.specs.Trees.{bare_transform}
use Rattle.pb_frame.specs.Frames.{blocks, chosen_wides, in_layer, layer_jobs}
use Rattle.pb_frame.proofs.tasks.add_layers.Given as goal

abbrev pub invariant-loop-l : goal.invariant-loop-l
invariant-loop-l l = record {
  sizes : l.f.sizes ≡ l.initial.f.sizes;
  parts : l.f.parts ≡ l.initial.f.parts;
  blocks : l.f.blocks ≡ l.initial.f.blocks ++ flat_map (λ n. map (λ b. (n.0, b)) (blocks (bare_transform l.transform) n.1 l.grain (in_layer l.order l.initial.f.parts n.0))) (take l.l (enumerate_from 0 l.order.layers));
  wides : l.f.wides ≡ l.initial.f.wides ++ flat_map (λ n. map (λ k. (n.0, k)) (chosen_wides (bare_transform l.transform) (in_layer l.order l.initial.f.parts n.0))) (take l.l (enumerate_from 0 l.order.layers));
  jobs : l.f.jobs ≡ l.initial.f.jobs ++ flat_map (λ n. layer_jobs (bare_transform l.transform) l.grain (in_layer l.order l.initial.f.parts n.0) n) (take l.l (enumerate_from 0 l.order.layers));
}
