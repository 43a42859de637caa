-- What is wrong in the body of a rule that is no plan.
use Rattle.std.specs.Prelude.{ℕ, Bool, true, false, not, ◌&&◌, ◌==◌, List, [], ◌∷◌, ◌++◌, length}
use Rattle.std.specs.List.{flat_map, list_any}
use Rattle.pb_program.specs.declared.meaning.Meaning.{Meaning}
use Rattle.pb_program.specs.declared.meaning.Meaning.TheVariants as meaning
use Rattle.pb_program.specs.declared.meaning.Named.{Named}
use Rattle.pb_program.specs.Stmts.{StmtValue, StmtValues, no_stmts, a_stmt}
use Rattle.pb_program.specs.Stmts as s
use Rattle.pb_types.specs.declared.sort.Sort.TheVariants.{Number, Truth}
use Rattle.pb_types.specs.Least.{unless}
use Rattle.pb_types.specs.Views.{Bound, is_bound_cell, are_dims, dims_of}
use Rattle.pb_types.specs.Numbers.{operand_broken}

-- a number that is the name of this loop. Locals that are visible at one place have different numbers, so a local is the
-- name of a loop around it just where it has the loop's number
abbrev pub is_local : ℕ → Meaning → Bool
is_local k (meaning.Number j) = k == j
is_local k _ = false

-- what may be assigned: a cell that is an output, or a number of the body that is no loop's
abbrev pub is_assigned : Bound → List Meaning → Meaning → Bool
is_assigned b loops (meaning.Output k) = is_bound_cell b (meaning.Output k)
is_assigned b loops (meaning.Number k) = not (list_any (is_local k) loops)
is_assigned b loops _ = false

-- an output of the rule
abbrev pub is_output : Meaning → Bool
is_output (meaning.Output k) = true
is_output _ = false

-- an assigned name; to blame is the name
abbrev pub target_broken : Bound → List Meaning → Named → List ℕ
target_broken b loops n = unless (is_assigned b loops n.what) n.at

-- a view one of whose cells is assigned is an output, is no cell, and has as many coordinates as dimensions
abbrev pub cell_target_broken : Bound → Named → ℕ → List ℕ
cell_target_broken b n coordinates = unless (is_output n.what && are_dims (dims_of b n.what) coordinates) n.at

module _ (b : Bound) where
  abbrev mutual
    -- `let`, assignments, coordinates and the ends of `for` take numbers, `if` takes a truth. A statement with several
    -- targets calls a transform, and only a plan calls one or declares a matrix; to blame is the called name, or the
    -- declaration
    pub stmt_broken : List Meaning → StmtValue → List ℕ
    stmt_broken loops (s.let_number at n x) = operand_broken b Number x
    stmt_broken loops (s.let_matrix at n dims) = at ∷ []
    stmt_broken loops (s.assign n x) = target_broken b loops n ++ operand_broken b Number x
    stmt_broken loops (s.call_stmt ns c xs) = c.at ∷ []
    stmt_broken loops (s.assign_cell n xs x) =
        cell_target_broken b n (length xs) ++ (flat_map (operand_broken b Number) xs ++ operand_broken b Number x)
    stmt_broken loops (s.if_stmt at x ss) = operand_broken b Truth x ++ stmts_broken loops ss
    stmt_broken loops (s.if_else at x ss others) = (operand_broken b Truth x ++ stmts_broken loops ss) ++ stmts_broken loops others
    stmt_broken loops (s.for_stmt at n x y ss) =
        (operand_broken b Number x ++ operand_broken b Number y) ++ stmts_broken (n.what ∷ loops) ss

    pub stmts_broken : List Meaning → StmtValues → List ℕ
    stmts_broken loops no_stmts = []
    stmts_broken loops (a_stmt x rest) = stmt_broken loops x ++ stmts_broken loops rest
