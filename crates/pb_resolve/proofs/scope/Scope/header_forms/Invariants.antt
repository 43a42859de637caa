use Rattle.std.proofs.Common.{◌≡◌, drop}
use Rattle.std.specs.List.{flat_map}
use Rattle.pb_names.specs.Transforms.{header_form_faults}
use Rattle.pb_resolve.proofs.scope.Scope.header_forms.Given as goal

abbrev pub invariant-loop-next : goal.invariant-loop-next
invariant-loop-next l = flat_map (header_form_faults l.self) (drop l.next-index l.forms) ≡ flat_map (header_form_faults l.self) l.forms
