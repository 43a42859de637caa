use Rattle.std.proofs.Common.{arith}
use Rattle.std.proofs.lemmas.List.{take_rest}
use Rattle.std.proofs.lemmas.Int.{to_z-of_z}
use Rattle.std.proofs.lemmas.Grind.{common_steps}
use Rattle.pb_matrix.proofs.TextLemmas.{row_whole}
use Rattle.pb_matrix.proofs.write.write_row.Goals as goal

pub returns-clause-text : goal.returns-clause-text
returns-clause-text c = row_whole c.args.text.now.items c.write_number.new.text.items c.write_numbers.new.text.items c.push.new.self.items c.args.row.now (omega arith)
    (grind (arith, common_steps, to_z-of_z)) (rw take_rest at c.in_ok-write_numbers.ensures.text) c.in_ok-push.ensures.items
