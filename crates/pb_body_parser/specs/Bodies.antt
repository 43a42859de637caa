-- What the functions for bodies promise beside `Leads`.
use Rattle.std.specs.Prelude.{◌≡◌, ℕ, List, [], ◌∷◌, ◌++◌, Option, Some, None, Result, Ok, Err}
use Rattle.pb_form_parser.specs.declared.fault.Fault.{Fault}
use Rattle.pb_form_parser.specs.declared.fault.Fault.TheVariants.{BadSyntax}
use Rattle.pb_syntax.specs.declared.tree.expression.Level.{Level}
use Rattle.pb_syntax.specs.declared.tree.expression.Operator.{Operator}
use Rattle.pb_syntax.specs.declared.tree.expression.Relation.{Relation}
use Rattle.pb_syntax.specs.Exprs.{ExprTree, compare, cell, width, height, exprs}
use Rattle.pb_syntax.specs.declared.kind.TokenKind.TheVariants as k
use Rattle.pb_values.specs.Name.{NameValue}
use Rattle.pb_grammar.specs.Next.{next_place}
use Rattle.pb_body_parser.specs.declared.expression.Part.{Part}
use Rattle.pb_body_parser.specs.declared.expression.Part.TheVariants as it
use Rattle.pb_form_parser.specs.declared.cursor.Cursor.{Cursor}
use Rattle.pb_form_parser.specs.Leads.{Fails, told, from}
use Rattle.pb_grammar.specs.Want.{Want, more_operands, operand, comparison, total, member, coordinates, bracket, a_sign}
use Rattle.pb_syntax.specs.Exprs.{chained}

-- the same as `Leads` where the number of statements of the body so far is told too
abbrev pub LeadsCounted : {A B : Type 0} → (A → B) → Result A Fault → ((B → ℕ → Want) → Want) → Cursor → Cursor → ℕ → Type 0
LeadsCounted {A} {B} view (Ok x) want before after n = (f : B → ℕ → Want) → from before (want f) ≡ from after (f (view x) n)
LeadsCounted {A} {B} view (Err e) want before after n = Fails e ((f : B → ℕ → Want) → told (from before (want f)) ≡ Err e)

-- the next token was consumed if it is an operator of this level, or a relation; else what is wanted next comes
abbrev pub Operators : Option Operator → Level → Cursor → Cursor → Type 0
Operators (Some o) l before after = (d : ℕ) (e : ExprTree) (xs : List (Operator × ExprTree)) (f : ExprTree → Want) →
    from before (more_operands l d e xs f) ≡ from after (operand l d (λ x. more_operands l d e (xs ++ (o, x) ∷ []) f))
Operators None l before after = (d : ℕ) (e : ExprTree) (xs : List (Operator × ExprTree)) (f : ExprTree → Want) →
    from before (more_operands l d e xs f) ≡ from after (f (chained l e xs))

abbrev pub Relations : Option Relation → Cursor → Cursor → Type 0
Relations (Some r) before after = (d : ℕ) (e : ExprTree) (f : ExprTree → Want) →
    from before (comparison d e f) ≡ from after (total d (λ x. f (compare e r x)))
Relations None before after = (d : ℕ) (e : ExprTree) (f : ExprTree → Want) → from before (comparison d e f) ≡ from after (f e)

-- the name after `.` was taken if it is one of the three
abbrev pub Members : Option Part → Cursor → Cursor → Type 0
Members (Some it.Cell) before after = (d : ℕ) (n : NameValue) (f : ExprTree → Want) →
    from before (member d n f) ≡ from after (coordinates d (λ xs. f (cell n (exprs xs))))
Members (Some it.Width) before after = (d : ℕ) (n : NameValue) (f : ExprTree → Want) →
    from before (member d n f) ≡ from after (bracket d k.Open (a_sign k.Close (f (width n))))
Members (Some it.Height) before after = (d : ℕ) (n : NameValue) (f : ExprTree → Want) →
    from before (member d n f) ≡ from after (bracket d k.Open (a_sign k.Close (f (height n))))
Members None before after = (d : ℕ) (n : NameValue) (f : ExprTree → Want) →
    told (from before (member d n f)) ≡ Err (BadSyntax (next_place after.end after.rest.now))
