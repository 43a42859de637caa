-- A small program and its canonical text.
use Rattle.std.proofs.Common.{◌≡◌, ℕ, List, [], ◌∷◌, ◌++◌, false, Some, None, codes, refl}
use Rattle.pb_values.specs.Name.{NameValue}
use Rattle.pb_syntax.specs.declared.tree.form.TermText.{TermText}
use Rattle.pb_syntax.specs.declared.tree.view.ViewText.TheVariants as view
use Rattle.pb_syntax.specs.declared.tree.view.MarkText.TheVariants as mark
use Rattle.pb_syntax.specs.Forms.{FormValue}
use Rattle.pb_syntax.specs.Exprs.{call, name, an_expr, no_exprs}
use Rattle.pb_syntax.specs.Stmts.{assign}
use Rattle.pb_syntax.specs.Trees.{RuleTree, TransformTree}
use Rattle.pb_prog.specs.Canonical.{canonical, space}
use Rattle.pb_prog.specs.Spelling.{factor_tokens, quotient_tokens, term_tokens, next_term_tokens, sum_tokens, form_tokens, decl_tokens, view_tokens, use_tokens, mark_tokens, expr_tokens, stmt_tokens, rule_tokens, transform_tokens}

abbrev named : List ℕ → NameValue
named bytes = record { bytes = bytes; at = 0 }

abbrev size : List ℕ → TermText
size bytes = record { minus = false; factor = 1; name = Some (named bytes); quotient = 0 }

abbrev form : List TermText → FormValue
form terms = record { minus = false; terms = terms }

abbrev rule : RuleTree
rule = record {
  mark = mark.Unmarked;
  outs = record { matrix = named (codes "B"); view = view.Cell (form (size (codes "i") ∷ [])) None; bound = named (codes "b") } ∷ [];
  reads = record { matrix = named (codes "A"); view = view.Between (form (size (codes "i") ∷ [])) (form (size (codes "i") ∷ size (codes "n") ∷ [])); bound = named (codes "a") } ∷ [];
  conds = [];
  body = assign (named (codes "b")) (call (named (codes "sum")) (an_expr (name (named (codes "a"))) no_exprs)) ∷ [];
}

abbrev rolling_sum : TransformTree
rolling_sum = record {
  name = named (codes "RollingSum");
  minimums = [];
  from = record { name = named (codes "A"); dims = form (size (codes "n") ∷ []) ∷ [] } ∷ [];
  through = [];
  to = record { name = named (codes "B"); dims = form (size (codes "n") ∷ []) ∷ [] } ∷ [];
  rules = rule ∷ [];
}

pub rolling_sum_text : canonical (rolling_sum ∷ []) ≡
    codes "transform RollingSum from A[n] to B[n] {\n" ++ codes "  to (B.cell(i) b) from (A.region(i, i + n) a) {\n" ++ codes "    b = sum(a);\n" ++ codes "  }\n" ++ codes "}\n"
unfolding space factor_tokens quotient_tokens term_tokens next_term_tokens sum_tokens form_tokens decl_tokens view_tokens use_tokens mark_tokens expr_tokens stmt_tokens rule_tokens transform_tokens
rolling_sum_text = refl
