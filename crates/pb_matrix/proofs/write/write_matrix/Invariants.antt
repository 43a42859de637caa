use Rattle.std.proofs.Common.{◌≡◌, ◌++◌, ◌-◌, ◌*◌, length, flat_map}
use Rattle.pb_matrix.specs.Text.{row_text, rows, matrix_text}
use Rattle.pb_matrix.proofs.TextLemmas.{AllFit}
use Rattle.pb_matrix.proofs.write.write_matrix.Given as goal

-- the rows that are left complete the text, and the numbers that were written fit
abbrev pub invariant-rows : goal.invariant-rows
invariant-rows l =
    (length l.rest ≡ (l.shape.h - l.counter) * l.shape.w)
    × (l.text.items ++ flat_map row_text (rows (l.shape.h - l.counter) l.shape.w l.rest) ≡ matrix_text l.shape l.cells)
    × (AllFit l.rest → AllFit l.cells)
