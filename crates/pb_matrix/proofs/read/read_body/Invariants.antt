use Rattle.std.proofs.Common.{◌≡◌, ◌≤◌, length, map}
use Rattle.pb_matrix.specs.Words.{is_gap, words, cell_number}
use Rattle.pb_matrix.specs.Header.{cell_count}
use Rattle.pb_matrix.specs.Reading.{body_read}
use Rattle.pb_matrix.proofs.BodyLemmas.{read_on}
use Rattle.pb_matrix.proofs.read.read_body.Given as goal

-- what the rest says, put after what was read, is what the whole body says
abbrev pub invariant-loop-number : goal.invariant-loop-number
invariant-loop-number l =
    (l.wanted ≡ cell_count l.shape) × (length l.cells.items ≤ l.wanted)
    × (read_on l.shape l.cells.items (map cell_number (words is_gap l.rest)) ≡ body_read l.shape (words is_gap l.text))

abbrev pub decreases-loop-number : goal.decreases-loop-number
decreases-loop-number l = length l.rest
