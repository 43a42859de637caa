-- The words of a table by what they are.
use Rattle.std.specs.Prelude.{ℕ, ◌+◌, List, length, nat_lt, slice_index, if◌then◌else◌}
use Rattle.pb_taskgraph.specs.Graphs.{GraphValue}

-- For each cell the word of its outcome and its mark; for each task how many releases it waits for, and its finish number; how
-- many tasks are finished, and how many are filed, which is when their numbers are stored.
pub record Bank : Type 0 where
  pub value : ℕ → ℕ
  pub mark : ℕ → ℕ
  pub count : ℕ → ℕ
  pub number : ℕ → ℕ
  pub finish : ℕ
  pub filed : ℕ

-- where they stand
abbrev pub value_at : GraphValue → ℕ → ℕ
value_at g c = c

abbrev pub mark_at : GraphValue → ℕ → ℕ
mark_at g c = g.cells + c

abbrev pub count_at : GraphValue → ℕ → ℕ
count_at g t = g.cells + g.cells + t

abbrev pub number_at : GraphValue → ℕ → ℕ
number_at g t = g.cells + g.cells + length g.tasks + t

abbrev pub finish_at : GraphValue → ℕ
finish_at g = g.cells + g.cells + length g.tasks + length g.tasks

abbrev pub filed_at : GraphValue → ℕ
filed_at g = g.cells + g.cells + length g.tasks + length g.tasks + 1

-- how many words there are
abbrev pub width : GraphValue → ℕ
width g = g.cells + g.cells + length g.tasks + length g.tasks + 2

-- so many words from a place on
unfoldable pub stretch : ℕ → ℕ → List ℕ → ℕ → ℕ
stretch first size words k = if nat_lt k size then slice_index words (first + k) else 0

unfoldable pub bank_of : GraphValue → List ℕ → Bank
bank_of g words =
    record {
      value = stretch 0 g.cells words;
      mark = stretch g.cells g.cells words;
      count = stretch (g.cells + g.cells) (length g.tasks) words;
      number = stretch (g.cells + g.cells + length g.tasks) (length g.tasks) words;
      finish = slice_index words (finish_at g);
      filed = slice_index words (filed_at g);
    }
