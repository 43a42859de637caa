-- Room that is found rule by rule.
use Rattle.std.proofs.Common.{◌≡◌, ℕ, ◌+◌, ◌-◌, ◌^◌, ◌<◌, min, List, length, take, get_or, arith}
use Rattle.std.specs.List.{All}
use Rattle.std.proofs.lemmas.List.Elements.{All-more}
use Rattle.pb_program.specs.Trees.{ProgTransform}
use Rattle.pb_eval.specs.CanRun.{OfRule, at_variables, locals_needed, outs_needed}
use Rattle.pb_jobs.specs.Jobs.{JobValue}
use Rattle.pb_jobs.specs.Rooms.{Grows, HasNeed, HasRoomFor, HasRoomForJob, rules_by}
use Rattle.pb_jobs.specs.declared.room.Rooms.{Rooms}
use Rattle.pb_jobs.proofs.ListLemmas.{all_weaker}

pub grows_over : (a b c : Rooms) → Grows a b → Grows b c → Grows a c
grows_over a b c g h = record { locals = omega (arith, g.locals, h.locals); outs = omega (arith, g.outs, h.outs); pieces = omega (arith, g.pieces, h.pieces) }

module _ (p : List ProgTransform) (t : ℕ) (sizes : List ℕ) where
  -- what is enough stays enough where there is more
  pub room_grows : (a b : Rooms) (k : ℕ) → Grows a b → HasRoomFor p t sizes a k → HasRoomFor p t sizes b k
  room_grows a b k g h transform rule there at = let r = h transform rule there at in (omega (arith, r.0, g.locals), λ x y. omega (arith, r.1 x y, g.outs))

  pub job_grows : (a b : Rooms) (job : JobValue) → Grows a b → HasRoomForJob p t sizes a job → HasRoomForJob p t sizes b job
  job_grows a b job g h = record { rules = all_weaker (HasRoomFor p t sizes a) (HasRoomFor p t sizes b) (rules_by job.rule job.rules) (λ k r. room_grows a b k g r) h.rules; pieces = omega (arith, h.pieces, g.pieces) }

  -- one rule more
  pub next_room : (rules : List ℕ) (i : ℕ) (old new : Rooms) → i < length rules → Grows old new → HasRoomFor p t sizes new (get_or rules i 0) → All (HasRoomFor p t sizes old) (take i rules) → All (HasRoomFor p t sizes new) (take (i + 1) rules)
  next_room rules i old new below g room h = All-more (HasRoomFor p t sizes new) rules i 0 below (all_weaker (HasRoomFor p t sizes old) (HasRoomFor p t sizes new) (take i rules) (λ k r. room_grows old new k g r) h) room

  pub rule_room : (k n m q : ℕ) → HasNeed p t sizes k → OfRule p t k (λ transform rule. n ≡ locals_needed rule) → OfRule p t k (λ transform rule. (x y : ℕ) → m ≡ min (2 ^ 64 - 1) (outs_needed transform.matrices sizes (at_variables x y) rule))
      → HasRoomFor p t sizes (record { locals = n; outs = m; pieces = q }) k
  rule_room k n m q need locals outs transform rule there at =
      let few = (need transform rule there at).1 in (
        omega (arith, locals transform rule there at),
        λ x y. omega (arith, outs transform rule there at x y, few x y),
      )
