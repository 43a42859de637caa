use Rattle.std.proofs.Common.{◌≡◌, ◌*◌, arith}
use Rattle.pb_gen.proofs.StreamLemmas.{three_pieces}
use Rattle.pb_gen.proofs.laws.examples_share_one_stream.Goals as goal

pub returns : goal.returns
returns c seed size =
    let across : size * 1 ≡ size = omega arith in
    rw across (three_pieces seed (size * size) size)
