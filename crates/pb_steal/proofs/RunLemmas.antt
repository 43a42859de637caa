-- A task is run whole.
use Rattle.std.proofs.Common.{◌≡◌, ◌∙◌, ap, sym, subst, ℕ, ◌+◌, List, [], ◌∷◌, ◌++◌, length, map, get_or, drop, take, All, Some, append-nil, arith}
use Rattle.std.specs.List.{Contains}
use Rattle.std.proofs.Math.Seq.{get_or-append_seam, take-append_seam}
use Rattle.std.proofs.lemmas.List.{drop_all, get_or-append-add, length-append, map-append}
use Rattle.std.proofs.lemmas.List.Elements.{All-take}
use Rattle.pb_taskgraph.specs.Graphs.{EachOnce, after_of}
use Rattle.pb_taskgraph.specs.Plans.{Plan}
use Rattle.pb_cells.specs.Handles.{HandValue, JobValue, hand_with}
use Rattle.pb_cells.specs.Steps.{AreTasks}
use Rattle.pb_cells.specs.Views.{numbered}
use Rattle.pb_cells.proofs.TaskLemmas.{not-before}
use Rattle.pb_steal.specs.Hands.{RunnerValue}
use Rattle.pb_steal.specs.Turns.{Opens, RunsTask}

pub once-later : (xs ys : List ℕ) → EachOnce (xs ++ ys) → EachOnce ys
once-later xs ys once i j below_i below_j same =
    let size = length-append xs ys in
    let at : length xs + i ≡ length xs + j = once (length xs + i) (length xs + j) (omega (arith, size, below_i)) (omega (arith, size, below_j)) (get_or-append-add xs ys i 0 ∙ same ∙ sym (get_or-append-add xs ys j 0)) in
    omega (arith, at)

pub once-last : (xs : List ℕ) (x : ℕ) → EachOnce (xs ++ x ∷ []) → Contains xs x → ⊥
once-last xs x once h = not-before (xs ++ x ∷ []) (length xs) once (omega (arith, length-append xs (x ∷ [])))
    (subst (λ ys. Contains ys (get_or (xs ++ x ∷ []) (length xs) 0)) (sym (take-append_seam xs (x ∷ []))) (subst (Contains xs) (sym (get_or-append_seam xs x [] 0)) h))

pub runs : (p : Plan) (old new : RunnerValue) (t n seen looks : ℕ) (job : JobValue) → new.ran ≡ old.ran ++ t ∷ [] → old.ran ≡ map (λ e. e.0) old.seat.ran
    → new.seat ≡ record (hand_with old.seat job) { seen = seen; looks = looks } → job.at.task ≡ t → job.at.number ≡ Some n → job.opened ≡ new.row
    → Opens p job.at.task (after_of p.graph t) new.row → AreTasks p new.seat.opened new.seat.ran → RunsTask p old t new
runs p old new t n seen looks job ran list seat task number row opens told =
    let opened : new.seat.opened ≡ old.seat.opened ++ new.row = ap (λ (h : HandValue). h.opened) seat ∙ ap (λ ts. old.seat.opened ++ ts) row in
    let ended : new.seat.ran ≡ old.seat.ran ++ (t, n) ∷ [] = ap (λ (h : HandValue). h.ran) seat ∙ ap (λ e. old.seat.ran ++ numbered job.at.task e) number ∙ ap (λ u. old.seat.ran ++ (u, n) ∷ []) task in
    let tasks : map (λ e. e.0) new.seat.ran ≡ old.ran ++ t ∷ [] = ap (map (λ e. e.0)) ended ∙ map-append (λ (e : ℕ × ℕ). e.0) old.seat.ran ((t, n) ∷ []) ∙ ap (λ ts. ts ++ t ∷ []) (sym list) in
    record {
      ran = ran;
      fresh = once-last old.ran t (subst EachOnce tasks told.ran_once);
      opens = subst (λ u. Opens p u (after_of p.graph t) new.row) task opens;
      once = once-later old.seat.opened new.row (subst EachOnce opened told.opened_once);
      seat = opened;
    }

-- what a slice leaves of the list that it is of
pub all-left : {A : Type 0} (P : A → Type 0) (n : ℕ) (new old : List A) → length new ≡ length old → All P new → All P (take n (new ++ drop (length new) old))
all-left P n new old size all = All-take P n (new ++ drop (length new) old) (subst (All P) (sym (ap (λ l. new ++ l) (drop_all (length new) old (omega (arith, size))) ∙ append-nil new)) all)
