-- Examples of bodies, by computation.
use Rattle.std.specs.Prelude.{◌≡◌, refl, pos, [], ◌∷◌, Ok}
use Rattle.pb_syntax.specs.declared.tree.expression.Operator.TheVariants as operator
use Rattle.pb_syntax.specs.declared.tree.expression.Level.TheVariants as level
use Rattle.pb_program.specs.declared.meaning.Callee.TheVariants as callee
use Rattle.pb_program.specs.declared.meaning.Function.TheVariants as function
use Rattle.pb_program.specs.declared.meaning.Meaning.TheVariants as meaning
use Rattle.pb_program.specs.Exprs as e
use Rattle.pb_program.specs.Stmts as s
use Rattle.pb_model.specs.Bodies.{Bindings, left_by, outputs_from, if_ok, after, after_all, value, values, called, summed, view_of, number_of, with_number}

abbrev pub around : Bindings
around = record { sizes = 3 ∷ []; x = pos 1; y = pos 0; reads = record { width = 3; height = 1; cells = pos 3 ∷ pos 6 ∷ pos 9 ∷ [] } ∷ []; outs = (1, 1) ∷ [] }

-- b = sum(a) / 3
abbrev pub blur : s.StmtValues
blur = s.a_stmt (s.assign (record { at = 0; what = meaning.Output 0 })
    (e.chain level.Product (e.call (record { at = 0; what = callee.Function function.Sum }) (e.an_expr (e.name (record { at = 0; what = meaning.Read 0 })) e.no_exprs))
    (e.an_operand operator.Over (e.number 0 3) e.no_operands))) s.no_stmts

pub blurred : if_ok (left_by around blur) (λ st. Ok (outputs_from 0 st around.outs)) ≡ Ok (pos 6 ∷ [])
unfolding after after_all value values called summed view_of number_of with_number
blurred = refl
