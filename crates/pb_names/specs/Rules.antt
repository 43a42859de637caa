-- Rules: what each is resolved to, and what is wrong with its names.
use Rattle.std.specs.Prelude.{ℕ, pos, Bool, true, false, List, [], ◌∷◌, ◌++◌, map, Option, Some, None}
use Rattle.std.specs.List.{flat_map}
use Rattle.pb_values.specs.Name.{NameValue}
use Rattle.pb_syntax.specs.Forms.{FormValue}
use Rattle.pb_syntax.specs.Stmts.{StmtTree}
use Rattle.pb_syntax.specs.Stmts as text
use Rattle.pb_syntax.specs.Trees.{RuleTree}
use Rattle.pb_syntax.specs.declared.tree.view.MarkText.{MarkText}
use Rattle.pb_syntax.specs.declared.tree.view.MarkText.TheVariants as mark
use Rattle.pb_syntax.specs.declared.tree.view.UseText.{UseText}
use Rattle.pb_program.specs.declared.meaning.Meaning.{Meaning}
use Rattle.pb_program.specs.declared.rule.RuleKind.{RuleKind}
use Rattle.pb_program.specs.declared.rule.RuleKind.TheVariants as kind
use Rattle.pb_program.specs.Forms.{DeclValue, constant_numbers}
use Rattle.pb_program.specs.Stmts.{StmtValue, stmts}
use Rattle.pb_program.specs.Plans.{PlanValue, PlanCallValue, calls_of}
use Rattle.pb_program.specs.Trees.{ProgRule}
use Rattle.pb_names.specs.declared.fault.Fault.{Fault}
use Rattle.pb_names.specs.Turns.{turns, turn_faults}
use Rattle.pb_names.specs.Sums.{collected}
use Rattle.pb_names.specs.Bodies.{Visible, stmt_of, stmt_faults, after}
use Rattle.pb_names.specs.Kinds.{some_plans}
use Rattle.pb_names.specs.Views.{Matrices, outs_of, outs_faults, after_outs, reads_of, reads_faults, after_reads, cond_of, cond_faults, binders, has_names}

-- a matrix with its dimensions
abbrev pub decl_of : List (List ℕ × Meaning) → NameValue → List FormValue → DeclValue
decl_of names n (w ∷ h ∷ rest) = record { name = n; dims = 2; w = (collected names w).rest; h = (collected names h).rest }
decl_of names n (w ∷ []) = record { name = n; dims = 1; w = (collected names w).rest; h = constant_numbers (pos 1) }
decl_of names n [] = record { name = n; dims = 1; w = constant_numbers (pos 0); h = constant_numbers (pos 1) }

-- the lower priority goes first
abbrev pub priority_of : MarkText → ℕ
priority_of mark.Unmarked = 0
priority_of mark.Primary = 0
priority_of mark.Secondary = 1
priority_of (mark.Priority k) = k

-- the statements of a body in turn
abbrev pub body_of : Visible → List StmtTree → List StmtValue
body_of v ss = turns after stmt_of v ss

-- the matrix that a statement declares, if it declares one
abbrev pub local_of : List (List ℕ × Meaning) → StmtTree → List DeclValue
local_of names (text.let_matrix at n dims) = decl_of names n dims ∷ []
local_of names _ = []

-- the matrices that statements declare
abbrev pub locals_of : List (List ℕ × Meaning) → List StmtTree → List DeclValue
locals_of names ss = flat_map (local_of names) ss

-- one output alone that binds rule variables
abbrev pub is_cell : Visible → List UseText → Bool
is_cell v (u ∷ []) = has_names (binders v u)
is_cell v _ = false

abbrev pub kind_by : Bool → Bool → RuleKind
kind_by true cell = kind.Plan
kind_by false true = kind.Cell
kind_by false false = kind.Wide

abbrev pub plan_with : List DeclValue → Option (List PlanCallValue) → Option PlanValue
plan_with locals (Some calls) = Some (record { locals = locals; calls = calls })
plan_with locals None = None

abbrev pub plan_by : Bool → List DeclValue → Option (List PlanCallValue) → Option PlanValue
plan_by true locals calls = plan_with locals calls
plan_by false locals calls = None

-- what conditions and bodies see
abbrev pub inner : Visible → RuleTree → Visible
inner v r = after_reads (after_outs v r.outs) r.reads

abbrev pub is_plan : Visible → RuleTree → Bool
is_plan v r = some_plans (stmts (body_of (inner v r) r.body))

abbrev pub rule_of : Matrices → Visible → RuleTree → ProgRule
rule_of ms v r = record {
  priority = priority_of r.mark;
  kind = kind_by (is_plan v r) (is_cell v r.outs);
  outs = outs_of ms v r.outs;
  names = map (λ (u : UseText). u.bound) r.outs;
  reads = reads_of ms (after_outs v r.outs) r.reads;
  conds = map (cond_of (inner v r)) r.conds;
  body = body_of (inner v r) r.body;
  plan = plan_by (is_plan v r) (locals_of (inner v r).names r.body) (calls_of (body_of (inner v r) r.body));
}

abbrev pub is_single : List UseText → Bool
is_single (u ∷ []) = true
is_single _ = false

abbrev pub rule_faults : Matrices → Visible → RuleTree → List Fault
rule_faults ms v r =
    outs_faults ms (is_single r.outs) v r.outs
    ++ (reads_faults ms (after_outs v r.outs) r.reads
    ++ (flat_map (cond_faults (inner v r)) r.conds
    ++ turn_faults after stmt_faults (inner v r) r.body))
