use Rattle.std.proofs.Common.{◌≡◌, ◌++◌, map, drop}
use Rattle.pb_syntax.specs.declared.tree.view.UseText.{UseText}
use Rattle.pb_resolve.proofs.scope.Scope.bound_names.Given as goal

abbrev pub invariant-loop-out : goal.invariant-loop-out
invariant-loop-out l = l.names.items ++ map (λ (u : UseText). u.bound) (drop l.out-index l.outs) ≡ map (λ (u : UseText). u.bound) l.outs
