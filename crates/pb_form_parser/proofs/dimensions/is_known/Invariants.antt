use Rattle.std.proofs.Common.{◌≡◌, drop}
use Rattle.pb_form_parser.specs.Dims.{names_of}
use Rattle.pb_syntax.specs.Limits.{is_known}
use Rattle.pb_form_parser.proofs.dimensions.is_known.Given as goal

abbrev pub invariant-loop-other : goal.invariant-loop-other
invariant-loop-other l = is_known l.name.bytes (names_of l.known.items)
    ≡ is_known l.name.bytes (names_of (drop l.other-index l.known.items))
