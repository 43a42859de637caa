-- How much room a body needs.
use Rattle.std.specs.Prelude.{ℕ, ◌+◌, max}
use Rattle.pb_program.specs.declared.meaning.Meaning.{Meaning}
use Rattle.pb_program.specs.declared.meaning.Meaning.TheVariants as meaning
use Rattle.pb_program.specs.Stmts.{StmtValue, StmtValues, no_stmts, a_stmt}
use Rattle.pb_program.specs.Stmts as s

-- what is assigned: a local with this number needs so many
abbrev pub local_room : Meaning → ℕ
local_room (meaning.Number k) = k + 1
local_room _ = 0

-- one more than the greatest number of a local that is assigned
abbrev mutual
  pub locals_in : StmtValue → ℕ
  locals_in (s.let_number at n x) = local_room n.what
  locals_in (s.assign n x) = local_room n.what
  locals_in (s.if_stmt at x ss) = locals_among ss
  locals_in (s.if_else at x ss others) = max (locals_among ss) (locals_among others)
  locals_in (s.for_stmt at n x y ss) = max (local_room n.what) (locals_among ss)
  locals_in _ = 0

  pub locals_among : StmtValues → ℕ
  locals_among no_stmts = 0
  locals_among (a_stmt x rest) = max (locals_in x) (locals_among rest)
