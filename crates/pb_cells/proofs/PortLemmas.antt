-- The port of a Job.
use Rattle.std.proofs.Common.{◌≡◌, ◌∙◌, refl, sym, ap, subst, inl, inr, ℕ, ◌<◌, ◌≤◌, ◌==◌, Bool, true, false, List, [], ◌∷◌, length, Option, Some, None, IsSome, slice_get, arith}
use Rattle.std.proofs.Math.Bool.{cond}
use Rattle.std.specs.List.{Contains}
use Rattle.atomic_table.specs.Seated.{TableId}
use Rattle.std.specs.Prelude.{IsTrue, is_some}
use Rattle.pb_values.specs.Cells.{HasNoTrap, Turn, is_number}
use Rattle.pb_values.specs.declared.outcome.Outcome.{Outcome}
use Rattle.pb_taskgraph.specs.Graphs.{before_of}
use Rattle.pb_taskgraph.specs.Known.{known_turn}
use Rattle.pb_taskgraph.specs.Plans.{Plan, outcome_at}
use Rattle.pb_taskgraph.specs.Turns.{Begins, MayRead, after_all, after_write}
use Rattle.pb_taskgraph.proofs.KnownLemmas.{known-begins, known-ends, known-next, known-write, some-known, told-known}
use Rattle.pb_cells.specs.Handles.{HasPlainInputs, JobValue, new_job, turn_at}
use Rattle.pb_cells.specs.Ports.{IsPort, PortValue, first_written, port_of, port_turn, wholly_written}
use Rattle.pb_cells.specs.Views.{after_mark}

-- what is told is a number where each cell that may be read has one
some-told : (o : Option Outcome) → IsTrue (is_some o) → IsSome o
some-told None h = absurd (let wrong : false ≡ true = h in cc)
some-told (Some v) h = refl

none-in : (xs : List ℕ) (u : ℕ) → xs ≡ [] → Contains xs u → ⊥
none-in [] u e h = let below : h.0 < 0 = h.1 in omega (arith, below)
none-in (x ∷ xs) u e h = absurd (cc)

module _ (p : Plan) (t : ℕ) (plain : HasPlainInputs p) (alone : before_of p.graph t ≡ []) where
  may-number : (c : ℕ) → MayRead p t 0 c → IsTrue (is_number (Some (outcome_at p.solution c)))
  may-number c (inl input) = plain c input
  may-number c (inr (inl before)) = absurd (none-in (before_of p.graph t) before.0 alone before.1)
  may-number c (inr (inr written)) = absurd (none-in [] c refl written)

  pub begins-untrapped : HasNoTrap (known_turn p t 0)
  begins-untrapped c h =
      let may = some-known p t 0 c (some-told ((known_turn p t 0).outcomes c) h) in
      subst (λ o. IsTrue (is_number o)) (sym (told-known p t 0 c may)) (may-number c may)

-- and it stays so after a number is written
number-kept : (b : Bool) (v : Outcome) (o : Option Outcome) → IsTrue (is_number (Some v)) → (IsTrue (is_some o) → IsTrue (is_number o)) → IsTrue (is_some (cond b (Some v) o)) → IsTrue (is_number (cond b (Some v) o))
number-kept true v o number old h = number
number-kept false v o number old h = old h

written-untrapped : (turn : Turn) (c : ℕ) (v : Outcome) → HasNoTrap turn → IsTrue (is_number (Some v)) → HasNoTrap (after_write turn c v)
written-untrapped turn c v old number d h = number-kept (d == c) v (turn.outcomes d) number (old d) h

-- a port is made
module _ (p : Plan) (name cells : TableId) (t : ℕ) (job : JobValue) (untrapped : Bool) (fresh : job ≡ new_job name t) where
  pub made-port : cells ≡ name → (IsTrue untrapped → HasPlainInputs p) → (IsTrue untrapped → before_of p.graph t ≡ []) → IsPort p name cells job untrapped
  made-port same plain alone = subst (λ (j : JobValue). IsPort p name cells j untrapped) (sym fresh) (record { table = same; job = refl; few = omega arith; known = λ h. begins-untrapped p t (plain h) (alone h) })

module _ (p : Plan) (name cells : TableId) (job : JobValue) (untrapped : Bool) (is : IsPort p name cells job untrapped) where
  pub port-table : job.table ≡ cells
  port-table = ap (λ (j : JobValue). j.table) is.job ∙ sym is.table

  module _ (self : PortValue) (same : port_of job.at.task job.at.written ≡ self) where
    turn-is : port_turn p self ≡ turn_at p job.at
    unfolding port_turn
    turn-is = ap (λ (v : PortValue). known_turn p v.task v.written) (sym same)

    -- a cell is read
    module _ (c : ℕ) (known : IsSome ((port_turn p self).outcomes c)) where
      pub port-known : IsSome ((turn_at p job.at).outcomes c)
      port-known = subst (λ (turn : Turn). IsSome (turn.outcomes c)) turn-is known

      pub port-told : (v : Outcome) → v ≡ outcome_at p.solution c → (port_turn p self).outcomes c ≡ Some v
      port-told v right =
          ap (λ (turn : Turn). turn.outcomes c) turn-is ∙ told-known p job.at.task job.at.written c (some-known p job.at.task job.at.written c port-known) ∙ ap (λ o. Some o) (sym right)

    -- nothing that it tells is trapped
    pub port-untrapped : IsTrue untrapped → HasNoTrap (port_turn p self)
    port-untrapped h = subst HasNoTrap (sym turn-is) (is.known h)

    -- a number is read
    pub port-number : (c : ℕ) → IsTrue (is_number ((port_turn p self).outcomes c)) → IsTrue (is_number ((turn_at p job.at).outcomes c))
    port-number c h = subst (λ (turn : Turn). IsTrue (is_number (turn.outcomes c))) turn-is h

    -- the next cell is written
    module _ (c : ℕ) (v : Outcome) (first : slice_get (port_turn p self).left 0 ≡ Some (c, v)) where
      pub port-next : slice_get (turn_at p job.at).left 0 ≡ Some (c, v)
      port-next = subst (λ (turn : Turn). slice_get turn.left 0 ≡ Some (c, v)) turn-is first

      module _ (new : JobValue) (written : new ≡ record job { at = after_mark job.at }) where
        pub port-goes-on : (still : Bool) → (IsTrue still → IsTrue untrapped) → (IsTrue still → IsTrue (is_number (Some v))) → IsPort p name cells new still
        port-goes-on still before number = subst (λ (j : JobValue). IsPort p name cells j still) (sym written) (record {
          table = is.table;
          job = ap (λ (j : JobValue). record j { at = after_mark j.at }) is.job;
          few = let there = (known-next p job.at.task job.at.written c v port-next).0 in omega (arith, there);
          known = λ h. subst HasNoTrap (sym (known-write p job.at.task job.at.written c v port-next)) (written-untrapped (turn_at p job.at) c v (is.known (before h)) (number h));
        })

        pub port-writes : port_turn p (port_of new.at.task new.at.written) ≡ after_write (port_turn p self) c v
        unfolding port_turn
        port-writes =
            ap (λ (j : JobValue). known_turn p j.at.task j.at.written) written ∙ known-write p job.at.task job.at.written c v port-next ∙ ap (λ (turn : Turn). after_write turn c v) (sym turn-is)

-- the port of a Job of which nothing is done
module _ (name : TableId) (t : ℕ) (job : JobValue) (fresh : job ≡ new_job name t) (port : PortValue) (new : port ≡ port_of job.at.task 0) where
  first-port : port ≡ port_of t 0
  first-port = new ∙ ap (λ (j : JobValue). port_of j.at.task 0) fresh

  -- its turn begins
  pub port-begins : (p q : Plan) → q ≡ p → Begins q t (port_turn p port)
  unfolding port_turn
  port-begins p q same = subst (λ (r : Plan). Begins r t (port_turn p port)) (sym same) (subst (λ (v : PortValue). Begins p t (known_turn p v.task v.written)) (sym first-port) (known-begins p t))

  -- all cells are written where it is over
  pub port-over : (p : Plan) (after : PortValue) (given : JobValue) → port_turn p after ≡ after_all (port_turn p port) → given ≡ first_written name after.task after.written
      → after.written ≤ length (p.order after.task) → given ≡ wholly_written p name t
  unfolding port_turn known_turn after_all
  port-over p after given ended is few =
      let task : after.task ≡ t = ap (λ (turn : Turn). turn.task) ended ∙ ap (λ (v : PortValue). v.task) first-port in
      let past = known-ends p after.task after.written (known_turn p port.task port.written) ended in
      let all : after.written ≡ length (p.order after.task) = omega (arith, past, few) in
      is ∙ ap (first_written name after.task) all ∙ ap (wholly_written p name) task
