-- Deques of tickets, and what those who push and take know of them.
use Rattle.std.specs.Prelude.{◌≡◌, ℕ, ◌+◌, ◌<◌, ◌≤◌, ◌⊎◌, List, [], ◌++◌, length, Option, Some, None}
use Rattle.std.specs.List.{sum_by}
use mathlib.Core.Option.{some}
use lib.ListN.{get_elem?}
use Rattle.atomic_blocks.specs.Lent.{RowsId}
use Rattle.pb_steal.specs.declared.log.Log.{Log}

-- who has pushed and taken nothing
abbrev pub no_log : Log
no_log = record { pushed = []; took = 0 }

-- The rule of a deque, between any two steps: what its owner has pushed is what has left it and then what it holds; and as many
-- tasks have left it as all have taken.
pub record Keeps (items : List ℕ) (logs : List Log) : Type 0 where
  pub owner : Log
  pub first : get_elem? logs 0 ≡ some owner
  pub left : List ℕ
  pub pushed : owner.pushed ≡ left ++ items
  pub took : sum_by (λ l. l.took) logs ≡ length left

-- a deque that holds no task can have a log like this among those of its passes. That is so of any log, since other passes may have
-- taken all that was pushed: a pass that finds a deque empty changes nothing that could be told. So it tells no deque's state
pub record WasEmpty (log : Log) : Type 0 where
  pub logs : List Log
  pub keeps : Keeps [] logs
  pub id : ℕ
  pub knows : get_elem? logs id ≡ some log

-- the own deque of a hand: which one it is, the tasks that were pushed on it, how many its owner has taken, and for how many pushes
-- it has room
pub record OwnValue : Type 0 where
  pub deque : RowsId
  pub pushed : List ℕ
  pub took : ℕ
  pub room : ℕ

-- what the worker of a deque and a list of tasks say of it
pub record IsOwn (own : OwnValue) (log : Log) (its_flavor its_port its_index slots_in room_in : ℕ) : Type 0 where
  pub log_is : log ≡ record { pushed = own.pushed; took = own.took }
  pub flavor : its_flavor ≡ 0
  pub port : its_port ≡ 0
  pub index : its_index ≤ length own.pushed
  pub slots : own.room ≤ slots_in
  pub room : own.room ≤ room_in

-- the deque of another hand: which one it is, how many tasks were taken there for this hand, and how many are known to have left it
pub record SourceValue : Type 0 where
  pub deque : RowsId
  pub took : ℕ
  pub gone : ℕ

-- a pop gives a task, and one more was taken; else nothing changes, and the deque can have been empty
abbrev pub Pops : OwnValue → Option ℕ → OwnValue → Type 0
Pops old (Some t) new = new ≡ record old { took = old.took + 1 }
Pops old None new = (new ≡ old) × WasEmpty (record { pushed = old.pushed; took = old.took })

-- nothing was stolen: the deque can have been empty, or a task had left it since this hand had last looked
pub record FindsNone (old new : SourceValue) : Type 0 where
  pub deque : new.deque ≡ old.deque
  pub took : new.took ≡ old.took
  pub cause : (old.gone < new.gone) ⊎ WasEmpty (record { pushed = []; took = old.took })

-- one try to steal gives the task that it took, or none
abbrev pub Steals : SourceValue → Option ℕ → SourceValue → Type 0
Steals old (Some t) new = (new.deque ≡ old.deque) × (new.took ≡ old.took + 1)
Steals old None new = FindsNone old new
