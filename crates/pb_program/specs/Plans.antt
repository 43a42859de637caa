-- What contracts see of plans, and which statements a plan has.
use Rattle.std.specs.Prelude.{ℕ, Bool, true, false, List, [], ◌∷◌, length, Option, Some, None, filter}
use Rattle.pb_program.specs.declared.meaning.Meaning.{Meaning}
use Rattle.pb_program.specs.declared.meaning.Meaning.TheVariants as meaning
use Rattle.pb_program.specs.declared.meaning.Named.{Named}
use Rattle.pb_program.specs.declared.meaning.Callee.{Callee}
use Rattle.pb_program.specs.declared.meaning.Callee.TheVariants as callee
use Rattle.pb_program.specs.declared.plan.Slot.{Slot}
use Rattle.pb_program.specs.declared.plan.Slot.TheVariants as slot
use Rattle.pb_program.specs.Exprs.{ExprValue, ExprValues, no_exprs, an_expr}
use Rattle.pb_program.specs.Exprs as e
use Rattle.pb_program.specs.Stmts.{StmtValue}
use Rattle.pb_program.specs.Stmts as s
use Rattle.pb_program.specs.Forms.{DeclValue}

pub record PlanCallValue : Type 0 where
  pub transform : ℕ
  pub targets : List Slot
  pub arguments : List Slot

pub record PlanValue : Type 0 where
  pub locals : List DeclValue
  pub calls : List PlanCallValue

-- the matrix that a name names
abbrev pub slot_of : Meaning → Option Slot
slot_of (meaning.Output k) = Some (slot.Out k)
slot_of (meaning.Read k) = Some (slot.Read k)
slot_of (meaning.Matrix k) = Some (slot.Local k)
slot_of _ = None

-- the matrix that an argument names, if it is a name
abbrev pub argument_slot : ExprValue → Option Slot
argument_slot (e.name n) = slot_of n.what
argument_slot _ = None

-- what a function gives of each, if it gives something of each
abbrev pub put : {B : Type 0} → Option B → Option (List B) → Option (List B)
put (Some x) (Some rest) = Some (x ∷ rest)
put _ _ = None

abbrev pub all_some : {A B : Type 0} → (A → Option B) → List A → Option (List B)
all_some f [] = Some []
all_some f (x ∷ rest) = put (f x) (all_some f rest)

abbrev pub target_slots : List Named → Option (List Slot)
target_slots names = all_some (λ n. slot_of n.what) names

abbrev pub argument_slots : List ExprValue → Option (List Slot)
argument_slots xs = all_some argument_slot xs

abbrev pub items : ExprValues → List ExprValue
items no_exprs = []
items (an_expr x rest) = x ∷ items rest

abbrev pub call_by : ℕ → Option (List Slot) → Option (List Slot) → Option PlanCallValue
call_by t (Some targets) (Some arguments) = Some (record { transform = t; targets = targets; arguments = arguments })
call_by t _ _ = None

abbrev pub transform_call : Callee → Option (List Slot) → Option (List Slot) → Option PlanCallValue
transform_call (callee.Transform t) targets arguments = call_by t targets arguments
transform_call (callee.Function f) targets arguments = None

-- the call of a transform that an expression is
abbrev pub called_by : Named → ExprValue → Option PlanCallValue
called_by target (e.call c xs) = transform_call c.what (target_slots (target ∷ [])) (argument_slots (items xs))
called_by target _ = None

-- the call that a statement is
abbrev pub call_of : StmtValue → Option PlanCallValue
call_of (s.assign target x) = called_by target x
call_of (s.call_stmt targets c xs) = transform_call c.what (target_slots targets) (argument_slots xs)
call_of _ = None

abbrev pub is_call : StmtValue → Bool
is_call (s.let_matrix at n dims) = false
is_call _ = true

-- how many dimensions the matrix has that a statement declares, if it declares one
abbrev pub declared_dims : StmtValue → List ℕ
declared_dims (s.let_matrix at n dims) = length dims ∷ []
declared_dims _ = []

-- the calls, if each statement is a call of a transform or declares a matrix
abbrev pub calls_of : List StmtValue → Option (List PlanCallValue)
calls_of ss = all_some call_of (filter is_call ss)
