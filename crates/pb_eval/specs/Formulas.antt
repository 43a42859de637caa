-- Bodies that only give a value to the first output.
use Rattle.std.specs.Prelude.{◌≡◌, [], ◌∷◌}
use Rattle.pb_program.specs.Exprs.{bare}
use Rattle.pb_program.specs.Stmts.{assign}
use Rattle.pb_program.specs.Trees.{ProgRule}
use Rattle.pb_program.specs.declared.expression.Expr.{Expr}
use Rattle.pb_program.specs.declared.meaning.Meaning.TheVariants.{Output}
use Rattle.pb_program.specs.declared.meaning.Named.{Named}

-- the body assigns the value of this expression to the first output, by its name, and does nothing else
pub record IsFormula (r : ProgRule) (e : Expr) : Type 0 where
  pub target : Named
  pub output : target.what ≡ Output 0
  pub body : r.body ≡ assign target (bare e) ∷ []
