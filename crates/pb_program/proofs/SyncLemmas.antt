-- A program may be shared by threads. Of a type that holds itself (`Expr`, `Stmt`) one layer may, if what is in it may.
use mathlib.Core.List.{[], ◌∷◌}
use mathlib.Core.Path.{subst}
use Prim.Native.Nat.{ℕ}
use denote.RattleType.{RattleType}
use denote.Enum.Declared as enum
use denote.Hole.{as_row}
use denote.Hole.FixSend.{Syncs, fix_sync}
use denote.Param.Send.{IsSync, Common, plain_sync, view_sync}
use denote.Param.SendFields.{as_row_sync, declared_sync, variants_sync}
use denote.Struct.Declared.{row}
use denote.Struct.Field.{row_field, u32-field, u64-field}
use denote.Struct.Tuple.{tuple_type}
use Rattle.std.proofs.Crossing.{Box-sync, Vec-sync}
use Rattle.std.proofs.option.Option.TheSendSync as option
use Rattle.pb_linear.proofs.sizes.Ranges.TheSendSync as ranges
use Rattle.pb_program.proofs.meaning.Called.TheSendSync as called
use Rattle.pb_program.proofs.meaning.Named.TheSendSync as named
use Rattle.pb_program.proofs.plan.Plan.TheSendSync as plan
use Rattle.pb_program.proofs.rule.RuleKind.TheSendSync as kind
use Rattle.pb_program.proofs.statement.LocalForm.TheSendSync as form
use Rattle.pb_program.proofs.transform.Decl.TheSendSync as decl
use Rattle.pb_program.proofs.view.Cond.TheSendSync as cond
use Rattle.pb_program.proofs.view.Read.TheSendSync as read
use Rattle.pb_program.specs.contracts.expression.Expr as expression
use Rattle.pb_program.specs.contracts.expression.Expr.TheKnot as expressions
use Rattle.pb_program.specs.contracts.rule.Body as Body
use Rattle.pb_program.specs.contracts.rule.Body.TheInside as Inside-body
use Rattle.pb_program.specs.contracts.rule.Rule as Rule
use Rattle.pb_program.specs.contracts.rule.Rule.TheInside as Inside-rule
use Rattle.pb_program.specs.contracts.statement.Stmt as statement
use Rattle.pb_program.specs.contracts.statement.Stmt.TheKnot as statements
use Rattle.pb_program.specs.contracts.transform.Prog as Prog
use Rattle.pb_program.specs.contracts.transform.Prog.TheInside as Inside-program
use Rattle.pb_program.specs.contracts.transform.Transform as Transform
use Rattle.pb_program.specs.contracts.transform.Transform.TheInside as Inside-transform
use Rattle.pb_syntax.proofs.tree.expression.Level.TheSendSync as level
use Rattle.pb_syntax.proofs.tree.expression.Operator.TheSendSync as operator
use Rattle.pb_syntax.proofs.tree.expression.Relation.TheSendSync as relation
use Rattle.pb_syntax.proofs.tree.expression.UnarySign.TheSendSync as sign
use Rattle.pb_values.proofs.name.Name.TheSendSync as name

part : (R : RattleType) → IsSync R → IsSync (as_row (row_field R))
part R s = as_row_sync (row_field R) s

u32 : IsSync (as_row u32-field)
u32 = as_row_sync u32-field (plain_sync _ _ _ _ _)

u64 : IsSync (as_row u64-field)
u64 = as_row_sync u64-field (plain_sync _ _ _ _ _)

pair : (R S : RattleType) → IsSync R → IsSync S → IsSync (row (tuple_type (R ∷ S ∷ [])))
pair R S r s = declared_sync (tuple_type (R ∷ S ∷ [])) (part R r, (part S s, tt))

layer_sync : (h : RattleType) → IsSync h → IsSync (enum.row (enum.declared (expressions.type-Expr h h h h h h h h)))
layer_sync h s =
    let many = part _ (Vec-sync h s) in
    let one = part _ (Box-sync h s) in
    let place = part _ u32 in
    let name = part _ named.the_sync in
    let links = part _ (Vec-sync _ (pair _ h operator.the_sync s)) in
    variants_sync (expressions.type-Expr h h h h h h h h) (
      (place, (part _ u64, tt)),
      (
        (name, tt),
        (
          (part _ called.the_sync, (many, tt)),
          (
            (place, (one, tt)),
            (
              (name, (many, tt)),
              (
                (name, tt),
                (
                  (name, tt),
                  (
                    (place, (part _ sign.the_sync, (one, tt))),
                    ((part _ level.the_sync, (one, (links, tt))), ((one, (part _ relation.the_sync, (one, tt))), tt)),
                  ),
                ),
              ),
            ),
          ),
        ),
      ),
    )

expressions_step : (i : expressions.the_members) → Syncs expression.the_ring i
expressions_step = expression.by_members (λ i. Syncs expression.the_ring i)
    (record { sync = λ h all. layer_sync (h expressions.member-Expr) (all expressions.member-Expr) })

hole_sync : IsSync expressions.hole-Expr
hole_sync = fix_sync expression.the_ring expressions_step expressions.member-Expr

pub expression_sync : IsSync expression.the_row
expression_sync = record { shared = λ e. subst (λ f. (b o : ℕ) → Common (f b o)) (expression.shr_is e) (hole_sync.shared e) }

statement_layer_sync : (h : RattleType) → IsSync h → IsSync (enum.row (enum.declared (statements.type-Stmt h h h)))
statement_layer_sync h s =
    let many = Vec-sync h s in
    let block = part _ many in
    let place = part _ u32 in
    let name = part _ named.the_sync in
    let value = part _ expression_sync in
    let values = part _ (Vec-sync _ expression_sync) in
    variants_sync (statements.type-Stmt h h h) (
      (place, (name, (value, tt))),
      (
        (place, (name, (part _ (Vec-sync _ form.the_sync), tt))),
        (
          (name, (value, tt)),
          (
            (part _ (Vec-sync _ named.the_sync), (part _ called.the_sync, (values, tt))),
            (
              (name, (values, (value, tt))),
              (
                (place, (value, (block, (part _ (option.the_sync _ many), tt)))),
                ((place, (name, (value, (value, (block, tt))))), tt),
              ),
            ),
          ),
        ),
      ),
    )

statements_step : (i : statements.the_members) → Syncs statement.the_ring i
statements_step = statement.by_members (λ i. Syncs statement.the_ring i)
    (record { sync = λ h all. statement_layer_sync (h statements.member-Stmt) (all statements.member-Stmt) })

statement_hole_sync : IsSync statements.hole-Stmt
statement_hole_sync = fix_sync statement.the_ring statements_step statements.member-Stmt

pub statement_sync : IsSync statement.the_row
statement_sync = record { shared = λ s. subst (λ f. (b o : ℕ) → Common (f b o)) (statement.shr_is s) (statement_hole_sync.shared s) }

body_sync : IsSync Body.the_row
body_sync = view_sync Inside-body.the_row _ _ _ _ (declared_sync Inside-body.the_type (Vec-sync _ statement_sync, (option.the_sync _ plan.the_sync, tt)))

rule_sync : IsSync Rule.the_row
rule_sync = view_sync Inside-rule.the_row _ _ _ _ (declared_sync Inside-rule.the_type
    (u32, (kind.the_sync, (Vec-sync _ read.the_sync, (Vec-sync _ name.the_sync, (Vec-sync _ read.the_sync, (Vec-sync _ cond.the_sync, (body_sync, tt))))))))

pub transform_sync : IsSync Transform.the_row
transform_sync = view_sync Inside-transform.the_row _ _ _ _ (declared_sync Inside-transform.the_type
    (name.the_sync, (ranges.the_sync, (Vec-sync _ name.the_sync, (Vec-sync _ decl.the_sync, (u32, (u32, (Vec-sync _ rule_sync, tt))))))))

pub program_sync : IsSync Prog.the_row
program_sync = view_sync Inside-program.the_row _ _ _ _ (declared_sync Inside-program.the_type (Vec-sync _ transform_sync, tt))
