-- A hand after its turn.
use Rattle.std.proofs.Common.{◌≡◌, ◌∙◌, refl, ap, sym, subst, inl, inr, ⊎_elim, ℕ, ◌+◌, ◌≤◌, nat_eq, List, [], ◌∷◌, ◌++◌, length, Some, None, arith}
use Rattle.std.specs.List.{AllZip, Contains, sum_by}
use Rattle.std.proofs.lemmas.Bool.Decides.{nat_tests}
use Rattle.std.proofs.lemmas.List.{length-append}
use Rattle.std.proofs.lemmas.List.Elements.{Contains-append_cases}
use Rattle.std.proofs.lemmas.List.Sums.{sum_by-cons}
use Rattle.atomic_table.specs.Seated.{TableId}
use Rattle.pb_taskgraph.specs.Plans.{Plan}
use Rattle.pb_core.proofs.FinishLemmas.{few}
use Rattle.pb_cells.specs.Handles.{HandValue}
use Rattle.pb_cells.specs.Steps.{AreTasks}
use Rattle.pb_cells.proofs.JoinLemmas.{once-append}
use Rattle.pb_steal.specs.Deques.{FindsNone, OwnValue, SourceValue}
use Rattle.pb_steal.specs.Hands.{AreDealt, CrewHandValue, IsCrewHand, RunnerValue, taken}
use Rattle.pb_steal.specs.Turns.{RunsTask, Takes}
use Rattle.pb_steal.proofs.TakeLemmas.{took}

-- what was dealt to a hand and what it has opened are no more than all tasks
pub few-pushed : (p : Plan) (dealt opened : List ℕ) (ran : List (ℕ × ℕ)) → AreDealt p dealt → AreTasks p opened ran → length dealt + length opened ≤ length p.graph.tasks
few-pushed p dealt opened ran given told =
    let once = once-append dealt opened given.once told.opened_once (λ t first later. let ready = given.ready t first in let past = told.opened t later in omega (arith, ready.1, past.1)) in
    let most = few (dealt ++ opened) (length p.graph.tasks) once (λ t h. ⊎_elim (λ (first : Contains dealt t). (given.ready t first).0) (λ (later : Contains opened t). (told.opened t later).0) (Contains-append_cases dealt opened t h)) in
    omega (arith, most, length-append dealt opened)

-- who found nothing has taken nothing
pub none-took : (old new : List SourceValue) → AllZip FindsNone old new → sum_by took new ≡ sum_by took old
none-took [] [] h = refl
none-took [] (y ∷ ys) h = absurd h
none-took (x ∷ xs) [] h = absurd h
none-took (x ∷ xs) (y ∷ ys) h = let rest = none-took xs ys h.1 in omega (arith, sum_by-cons took x xs, sum_by-cons took y ys, h.0.took, rest)

-- who took one ticket has taken one more
pub one-taken : (own : OwnValue) (others : List SourceValue) (t : ℕ) (own' : OwnValue) (others' : List SourceValue) → Takes own others (Some t) own' others'
    → (own' ≡ record own { took = own'.took }) × (taken own' others' ≡ taken own others + 1)
one-taken own others t own' others' (inl (pops, same)) = (
  pops ∙ ap (λ n. record own { took = n }) (sym (ap (λ (o : OwnValue). o.took) pops)),
  omega (arith, ap (λ (o : OwnValue). o.took) pops, ap (sum_by took) same),
)
one-taken own others t own' others' (inr ((same, empty), (deques, more))) = (
  same ∙ ap (λ n. record own { took = n }) (sym (ap (λ (o : OwnValue). o.took) same)),
  omega (arith, ap (λ (o : OwnValue). o.took) same, more),
)

module _ (p : Plan) (name : TableId) (old : CrewHandValue) (is : IsCrewHand p name old) where
  module _ (t : ℕ) (own' : OwnValue) (others' : List SourceValue) (takes : Takes old.own old.others (Some t) own' others') (runner runner' : RunnerValue) (seat : runner.seat ≡ old.seat) (list : runner.ran ≡ old.ran)
      (runs : RunsTask p runner t runner') (table : runner'.seat.table ≡ name) (told : AreTasks p runner'.seat.opened runner'.seat.ran) where
    own-taken : own' ≡ record old.own { took = own'.took }
    own-taken = (one-taken old.own old.others t own' others' takes).0

    opened : runner'.seat.opened ≡ old.seat.opened ++ runner'.row
    opened = runs.seat ∙ ap (λ (h : HandValue). h.opened ++ runner'.row) seat

    pushed : own'.pushed ≡ is.dealt ++ old.seat.opened
    pushed = ap (λ (o : OwnValue). o.pushed) own-taken ∙ is.pushed

    pub ran-room : length own'.pushed + length runner'.row ≤ own'.room
    ran-room =
        let most = few-pushed p is.dealt runner'.seat.opened runner'.seat.ran is.dealt_are told in
        omega (arith, most, is.room, ap (λ (o : OwnValue). o.room) own-taken, ap length pushed, length-append is.dealt old.seat.opened, ap length opened, length-append old.seat.opened runner'.row)

  module _ (own' : OwnValue) (others' : List SourceValue) (takes : Takes old.own old.others None own' others') (row : List ℕ) (n m : ℕ) (all : m ≡ length p.graph.tasks) where
    abbrev seen : RunnerValue
    seen = record { seat = record old.seat { seen = n; looks = old.seat.looks + 1 }; ran = old.ran; row = row }

    pub none-is : (runner' : RunnerValue) → runner' ≡ seen → IsCrewHand p name (record { seat = runner'.seat; ran = runner'.ran; own = own'; others = others'; done = nat_eq n m })
    none-is runner' same = subst (λ (r : RunnerValue). IsCrewHand p name (record { seat = r.seat; ran = r.ran; own = own'; others = others'; done = nat_eq n m })) (sym same) record {
      table = is.table;
      told = is.told;
      ran = is.ran;
      took = omega (arith, is.took, none-took old.others others' takes.1, ap (λ (o : OwnValue). o.took) takes.0.0);
      dealt = is.dealt;
      dealt_are = is.dealt_are;
      pushed = ap (λ (o : OwnValue). o.pushed) takes.0.0 ∙ is.pushed;
      room = omega (arith, is.room, ap (λ (o : OwnValue). o.room) takes.0.0);
      done = λ same. grind (arith, nat_tests, all);
    }
