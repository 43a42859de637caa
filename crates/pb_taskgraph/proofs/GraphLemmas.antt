-- The cells and the links of a task by its number.
use Rattle.std.proofs.Common.{◌≡◌, ◌∙◌, sym, ap, ℕ, ◌<◌, ◌≤◌, List, [], length, get_or, map, arith}
use Rattle.std.proofs.lemmas.List.{get_or-map, get_or_past, length-map}
use Rattle.pb_taskgraph.specs.Graphs.{GraphValue, TaskValue, after_of, before_of, cells_of, task_cells}

module _ (f : TaskValue → List ℕ) (tasks : List TaskValue) (t : ℕ) where
  at : (task : TaskValue) → t < length tasks → task ≡ get_or tasks t task → get_or (map f tasks) t [] ≡ f task
  at task below is = get_or-map f tasks t task [] below ∙ ap f (sym is)

  past : length tasks ≤ t → get_or (map f tasks) t [] ≡ []
  past outside = get_or_past (map f tasks) t [] (omega (arith, length-map tasks f))

module _ (g : GraphValue) (t : ℕ) where
  pub cells-at : (task : TaskValue) → t < length g.tasks → task ≡ get_or g.tasks t task → cells_of g t ≡ task_cells task
  unfolding cells_of
  cells-at = at task_cells g.tasks t

  pub before-at : (task : TaskValue) → t < length g.tasks → task ≡ get_or g.tasks t task → before_of g t ≡ task.before
  unfolding before_of
  before-at = at (λ task. task.before) g.tasks t

  pub after-at : (task : TaskValue) → t < length g.tasks → task ≡ get_or g.tasks t task → after_of g t ≡ task.after
  unfolding after_of
  after-at = at (λ task. task.after) g.tasks t

  pub cells-past : length g.tasks ≤ t → cells_of g t ≡ []
  unfolding cells_of
  cells-past = past task_cells g.tasks t

  pub before-past : length g.tasks ≤ t → before_of g t ≡ []
  unfolding before_of
  before-past = past (λ task. task.before) g.tasks t

  pub after-past : length g.tasks ≤ t → after_of g t ≡ []
  unfolding after_of
  after-past = past (λ task. task.after) g.tasks t
