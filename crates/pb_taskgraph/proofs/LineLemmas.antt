-- The line of a task that is there, and one more line.
use Rattle.std.proofs.Common.{◌≡◌, ◌∙◌, ℕ, ◌+◌, ◌<◌, List, ◌∷◌, ◌++◌, drop, length, get_or, refl}
use Rattle.std.specs.List.{flat_map}
use Rattle.std.proofs.lemmas.List.{append_assoc, drop_more}
use Rattle.std.proofs.lemmas.Option.{slice_get-get_or}
use Rattle.pb_taskgraph.specs.Graphs.{TaskValue}
use Rattle.pb_taskgraph.specs.Trace.{task_line, task_line_at}

pub line_at : (tasks : List TaskValue) (n : ℕ) (x : TaskValue) → n < length tasks → x ≡ get_or tasks n x → task_line_at tasks n ≡ task_line n x
line_at tasks n x h e = rw (slice_get-get_or tasks n x h, ← e) refl

pub line_more : (f : ℕ → List ℕ) (order : List ℕ) (i : ℕ) (line text new whole : List ℕ) → i < length order → f (get_or order i 0) ≡ line
    → new ≡ text ++ line → text ++ flat_map f (drop i order) ≡ whole → new ++ flat_map f (drop (i + 1) order) ≡ whole
line_more f order i line text new whole h e n all =
    let cut : drop i order ≡ get_or order i 0 ∷ drop (i + 1) order = drop_more order i 0 h in
    let rest = rw (cut, e) at all in
    rw n (append_assoc text line (flat_map f (drop (i + 1) order)) ∙ rest)
