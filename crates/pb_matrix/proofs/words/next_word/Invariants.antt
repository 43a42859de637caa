use Rattle.std.proofs.Common.{◌≡◌, ◌≤◌, length}
use Rattle.pb_matrix.specs.Cuts.{cuts}
use Rattle.pb_matrix.specs.Words.{words}
use Rattle.pb_matrix.proofs.words.next_word.Given as goal

abbrev pub invariant-loop-rest : goal.invariant-loop-rest
invariant-loop-rest l = (words (cuts l.cut) l.rest ≡ words (cuts l.cut) l.text) × (length l.rest ≤ length l.text)

abbrev pub decreases-loop-rest : goal.decreases-loop-rest
decreases-loop-rest l = length l.rest
