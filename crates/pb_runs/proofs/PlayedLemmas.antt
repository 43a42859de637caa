-- The calls of a plan, one after another.
use Rattle.std.proofs.Common.{◌≡◌, ◌∙◌, refl, sym, ap, subst, inl, inr, ⊎_elim, ℕ, ◌+◌, ◌<◌, List, [], ◌∷◌, ◌++◌, map, arith}
use Rattle.std.specs.List.{AllByRecursion, Contains, range_with_len, zip}
use Rattle.std.proofs.lemmas.List.Elements.{Contains-append_left, Contains-append_right}
use Rattle.pb_program.specs.declared.plan.Slot.{Slot}
use Rattle.pb_program.specs.declared.plan.Slot.TheVariants as slot
use Rattle.pb_program.specs.Configs.{ConfigValue}
use Rattle.pb_program.specs.Plans.{PlanCallValue}
use Rattle.pb_model.specs.Calls.{Outcomes}
use Rattle.pb_model.specs.Grids.{no_grid}
use Rattle.pb_recursion.specs.Ordered.{AreOrdered, IsGiven}
use Rattle.pb_recursion.specs.Plans.{Names, after_call, after_calls, named}
use Rattle.pb_recursion.specs.Shapes.{Sides}
use Rattle.pb_views.specs.declared.seat.Seat.{Seat}
use Rattle.pb_views.specs.Seats.{no_seat}
use Rattle.pb_runs.specs.Steps.{Step, cells_in}
use Rattle.pb_runs.specs.Unrolled.{Met, Played, Player, played}
use Rattle.pb_runs.proofs.BaseLemmas.{Reaches, Stands, reaches_both, stands_left, stands_right, total_append}
use Rattle.pb_runs.proofs.CountLemmas.{counted, counted_append, counted_row}
use Rattle.pb_runs.proofs.NameLemmas.{Answer, AreNamed, after_named, named_more}
use Rattle.pb_runs.proofs.TallyLemmas.{Tallies, tallies_both, tallies_none}
use Rattle.pb_recursion.specs.Counts.{Counted, all_of}
use Rattle.pb_runs.proofs.SoundLemmas.{Cells, IsDeep, Sound, cells_append, sound_append, with_cells}
use Rattle.pb_runs.specs.Placed.{total}

module _ (config : ConfigValue) (ms : List Outcomes) (sides : Slot → Sides) (player : Player) (make : PlanCallValue → List Outcomes → List Outcomes) (all : PlanCallValue → List Outcomes → List Outcomes) (count : PlanCallValue → Counted) where
  -- the matrices of all calls
  abbrev pub of_calls : List PlanCallValue → Names Outcomes → List Outcomes
  of_calls [] names = []
  of_calls (c ∷ rest) names = all c (map (named no_grid names) c.arguments) ++ of_calls rest (after_call no_grid make c names)

  -- a call is unrolled, and what it gives answers its targets
  pub record IsCalled (known : Cells) (n : Met) (c : PlanCallValue) (seats : List Seat) (given : List Outcomes) : Type 0 where
    pub own : List Outcomes
    pub deep : IsDeep config ms known n (player c seats n) (all c given) own
    pub tally : Tallies n (player c seats n).next (all c given) (count c)
    pub answer : Answer ms sides (with_cells known (cells_in (player c seats n).steps)) c.targets (player c seats n).seats (make c given)

  -- each call is, whatever is known of its arguments
  abbrev pub AreCalled : Type 1
  AreCalled = (known : Cells) (n : Met) (c : PlanCallValue) (made : List Slot) (ss : Names Seat) (mm : Names Outcomes) → AreNamed ms sides known made ss mm → AllByRecursion (IsGiven made) c.arguments
      → Stands ms n (all c (map (named no_grid mm) c.arguments)) → IsCalled known n c (map (named no_seat ss) c.arguments) (map (named no_grid mm) c.arguments)

  -- after the calls of a plan each output is made
  pub record IsPlayed (outputs : ℕ) (known : Cells) (n : Met) (p : Played) (mats : List Outcomes) (names : Names Outcomes) (k : Counted) : Type 0 where
    pub made : List Slot
    pub outs : (k : ℕ) → k < outputs → Contains made (slot.Out k)
    pub named : AreNamed ms sides (with_cells known (cells_in p.steps)) made p.names names
    pub sound : Sound config ms known p.steps
    pub counts : (c : ℕ) → counted c (cells_in p.steps) ≡ counted c (range_with_len n.cells (total mats))
    pub reaches : Reaches ms n mats p.next
    pub tally : Tallies n p.next mats k

  pub all_played : AreCalled → (outputs : ℕ) (calls : List PlanCallValue) (known : Cells) (n : Met) (made : List Slot) (ss : Names Seat) (mm : Names Outcomes) → AreOrdered outputs made calls → AreNamed ms sides known made ss mm → Stands ms n (of_calls calls mm)
      → IsPlayed outputs known n (played player calls ss n) (of_calls calls mm) (after_calls no_grid make calls mm) (all_of (map count calls))
  all_played called outputs [] known n made ss mm ordered are stands = record {
    made = made;
    outs = ordered;
    named = λ s given. named_more ms sides known (with_cells known []) s (named no_seat ss s) (named no_grid mm s) (λ c k. inl k) (are s given);
    sound = tt;
    counts = λ c. refl;
    reaches = record { matrices = omega arith; cells = omega arith };
    tally = tallies_none n;
  }
  all_played called outputs (c ∷ rest) known n made ss mm ordered are stands =
      let seats = map (named no_seat ss) c.arguments in
      let given = map (named no_grid mm) c.arguments in
      let u = player c seats n in
      let first = all c given in
      let mm2 = after_call no_grid make c mm in
      let ss2 = zip c.targets u.seats ++ ss in
      let one = called known n c made ss mm are ordered.0 (stands_left ms n first (of_calls rest mm2) stands) in
      let known2 = with_cells known (cells_in u.steps) in
      let are2 = after_named ms sides known2 c.targets made u.seats (make c given) ss mm one.answer (λ s g. named_more ms sides known known2 s (named no_seat ss s) (named no_grid mm s) (λ k h. inl h) (are s g)) in
      let later = all_played called outputs rest known2 u.next (c.targets ++ made) ss2 mm2 ordered.1 are2 (stands_right ms n u.next first (of_calls rest mm2) stands one.deep.reaches) in
      let steps = (played player rest ss2 u.next).steps in
      let joined = cells_append u.steps steps in
      record {
        made = later.made;
        outs = later.outs;
        named = λ s g. named_more ms sides (with_cells known2 (cells_in steps)) (with_cells known (cells_in (u.steps ++ steps))) s (named no_seat (played player rest ss2 u.next).names s) (named no_grid (after_calls no_grid make rest mm2) s)
            (λ k. together k u.steps steps joined) (later.named s g);
        sound = sound_append config ms known u.steps steps one.deep.sound later.sound;
        counts = λ k.
            let here = one.deep.counts k in
            let there = later.counts k in
            let split = counted_row k n.cells (total first) (total (of_calls rest mm2)) in
            ap (counted k) joined ∙ counted_append k (cells_in u.steps) (cells_in steps) ∙ (λ i. here i + there i)
            ∙ ap (λ m. counted k (range_with_len n.cells (total first)) + counted k (range_with_len m (total (of_calls rest mm2)))) one.deep.reaches.cells ∙ sym split ∙ ap (λ m. counted k (range_with_len n.cells m)) (sym (total_append first (of_calls rest mm2)));
        reaches = reaches_both ms n u.next (played player rest ss2 u.next).next first (of_calls rest mm2) one.deep.reaches later.reaches;
        tally = tallies_both n u.next (played player rest ss2 u.next).next first (of_calls rest mm2) (count c) (all_of (map count rest)) one.tally later.tally;
      }
    where
      together : (k : ℕ) (xs ys : List Step) → cells_in (xs ++ ys) ≡ cells_in xs ++ cells_in ys → with_cells (with_cells known (cells_in xs)) (cells_in ys) k → with_cells known (cells_in (xs ++ ys)) k
      together k xs ys e = ⊎_elim
          (⊎_elim (λ h. inl h) (λ l. inr (subst (λ z. Contains z k) (sym e) (Contains-append_left (cells_in xs) (cells_in ys) k l))))
          (λ r. inr (subst (λ z. Contains z k) (sym e) (Contains-append_right (cells_in xs) (cells_in ys) k r)))
