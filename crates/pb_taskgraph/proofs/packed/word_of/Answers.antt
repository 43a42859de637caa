use Rattle.std.proofs.Common.{◌∙◌, ap, ◌+◌, ◌*◌, ◌<◌, ◌^◌, w64, arith}
use Rattle.std.specs.Prelude.{unsigned_abs}
use Rattle.std.proofs.lemmas.Int.{to_z_pos}
use Rattle.pb_taskgraph.specs.Packed.{trap_in}
use Rattle.pb_taskgraph.proofs.PackedLemmas.{word}
use Rattle.pb_taskgraph.proofs.packed.word_of.Goals as goal

pub returns : goal.returns
returns c =
    let by = c.maker_of.result in
    let trap = c.args.trap.now in
    let small : (by * 8388608 + trap.x) * 8388608 + trap.y < 2 ^ 63 = omega (arith, c.maker_of.ensures.small, c.requires.x, c.requires.y) in
    ap (λ n. trap_in (unsigned_abs n)) (to_z_pos w64 ((by * 8388608 + trap.x) * 8388608 + trap.y) small) ∙ word by trap.x trap.y c.requires.x c.requires.y ∙ c.maker_of.ensures.trap
