-- The words of a line that name files.
use Rattle.std.specs.Prelude.{ℕ, List, [], ◌∷◌, take, codes, bytes_eq, if◌then◌else◌}
use Rattle.pb_words.specs.declared.ask.Ask.{Ask}
use Rattle.pb_words.specs.declared.ask.Ask.TheVariants.{Check, Choices, Run, Tune, Demo}

-- the program, the configuration unless it is `-`, and the inputs, but not the transform
abbrev pub run_files : List (List ℕ) → List (List ℕ)
run_files (program ∷ config ∷ transform ∷ inputs) = program ∷ (if bytes_eq config (codes "-") then inputs else config ∷ inputs)
run_files others = []

-- the files of a command, in order, among its other words
abbrev pub file_words : Ask → List (List ℕ) → List (List ℕ)
file_words Check others = take 1 others
file_words Choices others = take 1 others
file_words (Run workers depth grain pool trace) others = run_files others
file_words (Tune up_to) others = take 1 others
file_words (Demo seed size workers) others = []
