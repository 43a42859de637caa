use Rattle.std.proofs.Common.{arith, rules}
use Rattle.pb_parser.proofs.ProgramLemmas.{program_fails}
use Rattle.pb_parser.proofs.transform.read_program.Goals as goal

pub returns-in_err-further : goal.returns-in_err-further
returns-in_err-further c = record {
  read = program_fails c.from_residual-in_err-further.result c.in_err-further.field-0.0 c.loop-cursor.cursor.end c.loop-cursor.cursor.rest.now c.loop-cursor.transforms.items c.len.result _
      c.from_residual-in_err-further.ensures.0 c.from_residual-in_err-further.ensures.1 (search rules) (grind arith) (search rules) c.in_err-further.ensures.leads;
}
