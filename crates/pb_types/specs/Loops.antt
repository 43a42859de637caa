-- The names of the loops around a statement.
use Rattle.std.specs.Prelude.{List, [], ◌∷◌}
use Rattle.pb_program.specs.declared.meaning.Meaning.{Meaning}
use Rattle.pb_types.specs.declared.loops.Loops.{Loops}
use Rattle.pb_types.specs.declared.loops.Loops.TheOpen.{Loops-F}
use Rattle.pb_types.specs.declared.loops.Loops.TheFolds.{fold-Loops}

abbrev pub names_step : Loops-F (List Meaning) → List Meaning
names_step Loops-F.Outside = []
names_step (Loops-F.Inside name outer) = name ∷ outer.now

abbrev pub names : Loops → List Meaning
names = fold-Loops (List Meaning) names_step
