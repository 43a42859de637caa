-- The bytes at which a text is cut.
use Rattle.std.specs.Prelude.{ℕ, Bool}
use Rattle.pb_matrix.specs.Words.{is_blank, is_gap, is_line_end}
use Rattle.pb_matrix.specs.declared.words.Cut.{Cut}
use Rattle.pb_matrix.specs.declared.words.Cut.TheVariants.{AtBlanks, AtGaps, AtLineEnds}

abbrev pub cuts : Cut → ℕ → Bool
cuts AtBlanks = is_blank
cuts AtGaps = is_gap
cuts AtLineEnds = is_line_end
