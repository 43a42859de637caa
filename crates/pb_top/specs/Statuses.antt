-- Which statuses a command has.
use Rattle.std.specs.Prelude.{ℕ, List, [], ◌∷◌}
use Rattle.pb_words.specs.declared.ask.Ask.{Ask}
use Rattle.pb_words.specs.declared.ask.Ask.TheVariants.{Check, Choices, Run, Tune, Demo}

abbrev pub check_statuses : List ℕ
check_statuses = 0 ∷ 3 ∷ 9 ∷ 10 ∷ 11 ∷ 14 ∷ []

abbrev pub run_statuses : List ℕ
run_statuses = 0 ∷ 3 ∷ 4 ∷ 5 ∷ 6 ∷ 7 ∷ 8 ∷ 9 ∷ 10 ∷ 11 ∷ 14 ∷ []

abbrev pub tune_statuses : List ℕ
tune_statuses = 0 ∷ 3 ∷ 5 ∷ 9 ∷ 10 ∷ 11 ∷ 14 ∷ []

-- it takes no file; its programs are accepted, its configurations valid, its matrices fit, and neither of its runs is too large or trapped
abbrev pub demo_statuses : List ℕ
demo_statuses = 0 ∷ 10 ∷ 11 ∷ []

abbrev pub statuses : Ask → List ℕ
statuses Check = check_statuses
statuses Choices = check_statuses
statuses (Run workers depth grain pool trace) = run_statuses
statuses (Tune up_to) = tune_statuses
statuses (Demo seed size workers) = demo_statuses

-- those of words outside the grammar
abbrev pub usage_statuses : List ℕ
usage_statuses = 2 ∷ 10 ∷ 11 ∷ []
