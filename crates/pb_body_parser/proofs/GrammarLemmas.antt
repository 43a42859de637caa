-- How reading goes on where the next token is known.
use Rattle.std.proofs.Common.{◌≡◌, ◌≢◌, ℕ, suc, true, false, List, [], ◌∷◌, ◌++◌, None, Err, codes, if◌then◌else◌, refl, ap, ◌∙◌}
use Rattle.pb_values.specs.Name.{NameValue}
use Rattle.pb_syntax.specs.declared.token.Token.{Token}
use Rattle.pb_syntax.specs.declared.kind.TokenKind.{TokenKind}
use Rattle.pb_syntax.specs.declared.kind.TokenKind.TheVariants as k
use Rattle.pb_syntax.specs.declared.tree.expression.Level.{Level}
use Rattle.pb_syntax.specs.declared.tree.expression.Level.TheVariants as level
use Rattle.pb_syntax.specs.declared.refusal.Item.TheVariants as item
use Rattle.pb_form_parser.specs.declared.fault.Fault.TheVariants.{BadSyntax}
use Rattle.pb_syntax.specs.Kinds.{kind_of}
use Rattle.pb_syntax.specs.Stmts.{StmtTree}
use Rattle.pb_syntax.specs.Exprs.{ExprTree, call, cell, width, height, parentheses, exprs}
use Rattle.pb_grammar.specs.Next.{next_kind, next_place, next_is, word_is}
use Rattle.pb_grammar.specs.Want.{Want, statements, statement, more_targets, called, begin, product, total, compared, conjunction, expression, line, operand, more_operands, coordinates, after_coordinate, some_arguments, arguments, more_arguments, factor, primary, after_name, member, bracket, a_sign}
use Rattle.pb_syntax.specs.Limits.{over}
use Rattle.pb_grammar.specs.Reading.{take, refuse, read, step}
use Rattle.pb_form_parser.specs.Leads.{told, from}
use Rattle.pb_form_parser.specs.declared.cursor.Cursor.{Cursor}
use Rattle.pb_body_parser.proofs.ReadLemmas.{same_step}

pub line_is : (end : ℕ) (ts : List Token) (l : Level) (d : ℕ) (f : ExprTree → Want) →
    read end ts (line l d f) ≡ read end ts (operand l d (λ e. more_operands l d e [] f))
unfolding product total conjunction expression
line_is end ts level.Product d f = refl
line_is end ts level.Sum d f = refl
line_is end ts level.Conjunction d f = refl
line_is end ts level.Disjunction d f = refl

factor_step_else : (d : ℕ) (f : ExprTree → Want) (kind : TokenKind) (t : Token) → kind ≢ k.Minus → kind ≢ k.Not → step (factor d f) kind t ≡ step (primary d f) kind t
factor_step_else d f k.Minus t m n = absurd (m refl)
factor_step_else d f k.Not t m n = absurd (n refl)
factor_step_else d f _ t m n = refl

pub factor_else : (end : ℕ) (ts : List Token) (d : ℕ) (f : ExprTree → Want) → next_kind ts ≢ k.Minus → next_kind ts ≢ k.Not →
    read end ts (factor d f) ≡ read end ts (primary d f)
factor_else end [] d f m n = refl
factor_else end (t ∷ ts) d f m n = same_step end t ts (factor_step_else d f (kind_of t) t m n)

pub primary_open : (end : ℕ) (ts : List Token) (d : ℕ) (f : ExprTree → Want) → next_kind ts ≡ k.Open →
    read end ts (primary d f) ≡ read end ts (bracket d k.Open (expression (suc d) (λ e. a_sign k.Close (f (parentheses (next_place end ts) e)))))
primary_open end [] d f h = absurd (cc)
primary_open end (t ∷ ts) d f h = rw h refl

pub after_name_open : (end : ℕ) (ts : List Token) (d : ℕ) (n : NameValue) (f : ExprTree → Want) → next_kind ts ≡ k.Open →
    read end ts (after_name d n f) ≡ read end ts (bracket d k.Open (arguments (suc d) (λ es. f (call n (exprs es)))))
after_name_open end [] d n f h = absurd (cc)
after_name_open end (t ∷ ts) d n f h = rw h refl

arguments_step_else : (d : ℕ) (f : List ExprTree → Want) (kind : TokenKind) (t : Token) → kind ≢ k.Close → step (arguments d f) kind t ≡ step (some_arguments d f) kind t
unfolding some_arguments expression conjunction compared total product
arguments_step_else d f k.Close t h = absurd (h refl)
arguments_step_else d f _ t h = refl

pub arguments_else : (end : ℕ) (ts : List Token) (d : ℕ) (f : List ExprTree → Want) → next_kind ts ≢ k.Close →
    read end ts (arguments d f) ≡ read end ts (some_arguments d f)
unfolding some_arguments expression conjunction compared total product
arguments_else end [] d f h = refl
arguments_else end (t ∷ ts) d f h = same_step end t ts (arguments_step_else d f (kind_of t) t h)

more_arguments_step : (d : ℕ) (es : List ExprTree) (f : List ExprTree → Want) (kind : TokenKind) (t : Token) → kind ≢ k.Comma →
    step (more_arguments d es f) kind t ≡ step (a_sign k.Close (f es)) kind t
more_arguments_step d es f k.Comma t h = absurd (h refl)
more_arguments_step d es f _ t h = refl

pub more_arguments_else : (end : ℕ) (ts : List Token) (d : ℕ) (es : List ExprTree) (f : List ExprTree → Want) → next_kind ts ≢ k.Comma →
    read end ts (more_arguments d es f) ≡ read end ts (a_sign k.Close (f es))
more_arguments_else end [] d es f h = refl
more_arguments_else end (t ∷ ts) d es f h = same_step end t ts (more_arguments_step d es f (kind_of t) t h)

coordinate_step : (d : ℕ) (x : ExprTree) (f : List ExprTree → Want) (kind : TokenKind) (t : Token) → kind ≢ k.Comma →
    step (after_coordinate d x f) kind t ≡ step (a_sign k.Close (f (x ∷ []))) kind t
coordinate_step d x f k.Comma t h = absurd (h refl)
coordinate_step d x f _ t h = refl

pub coordinate_else : (end : ℕ) (ts : List Token) (d : ℕ) (x : ExprTree) (f : List ExprTree → Want) → next_kind ts ≢ k.Comma →
    read end ts (after_coordinate d x f) ≡ read end ts (a_sign k.Close (f (x ∷ [])))
coordinate_else end [] d x f h = refl
coordinate_else end (t ∷ ts) d x f h = same_step end t ts (coordinate_step d x f (kind_of t) t h)

member_kind : (d : ℕ) (n : NameValue) (f : ExprTree → Want) (kind : TokenKind) (t : Token) → step (member d n f) kind t ≡
    if word_is (codes "cell") kind t then take None (coordinates d (λ xs. f (cell n (exprs xs))))
    else (if word_is (codes "width") kind t then take None (bracket d k.Open (a_sign k.Close (f (width n))))
    else (if word_is (codes "height") kind t then take None (bracket d k.Open (a_sign k.Close (f (height n)))) else refuse))
member_kind d n f k.Name t = refl
member_kind d n f _ t = refl

pub member_cell : (end : ℕ) (ts : List Token) (t : Token) (rest : List Token) (d : ℕ) (n : NameValue) (f : ExprTree → Want) →
    ts ≡ t ∷ rest → next_is (codes "cell") ts ≡ true → read end ts (member d n f) ≡ read end rest (coordinates d (λ xs. f (cell n (exprs xs))))
member_cell end ts t rest d n f e c = rw e (same_step end t rest {y = take None (coordinates d (λ xs. f (cell n (exprs xs))))}
    (member_kind d n f (kind_of t) t ∙ rw (rw e at c) refl))

pub member_width : (end : ℕ) (ts : List Token) (t : Token) (rest : List Token) (d : ℕ) (n : NameValue) (f : ExprTree → Want) →
    ts ≡ t ∷ rest → next_is (codes "cell") ts ≡ false → next_is (codes "width") ts ≡ true →
    read end ts (member d n f) ≡ read end rest (bracket d k.Open (a_sign k.Close (f (width n))))
member_width end ts t rest d n f e c w = rw e (same_step end t rest {y = take None (bracket d k.Open (a_sign k.Close (f (width n))))}
    (member_kind d n f (kind_of t) t ∙ rw (rw e at c, rw e at w) refl))

pub member_height : (end : ℕ) (ts : List Token) (t : Token) (rest : List Token) (d : ℕ) (n : NameValue) (f : ExprTree → Want) →
    ts ≡ t ∷ rest → next_is (codes "cell") ts ≡ false → next_is (codes "width") ts ≡ false → next_is (codes "height") ts ≡ true →
    read end ts (member d n f) ≡ read end rest (bracket d k.Open (a_sign k.Close (f (height n))))
member_height end ts t rest d n f e c w h = rw e (same_step end t rest {y = take None (bracket d k.Open (a_sign k.Close (f (height n))))}
    (member_kind d n f (kind_of t) t ∙ rw (rw e at c, rw e at w, rw e at h) refl))

pub member_else : (end : ℕ) (ts : List Token) (d : ℕ) (n : NameValue) (f : ExprTree → Want) →
    next_is (codes "cell") ts ≡ false → next_is (codes "width") ts ≡ false → next_is (codes "height") ts ≡ false →
    told (read end ts (member d n f)) ≡ Err (BadSyntax (next_place end ts))
member_else end [] d n f c w h = refl
member_else end (t ∷ ts) d n f c w h = ap told (same_step end t ts {y = refuse} (member_kind d n f (kind_of t) t ∙ rw (c, w, h) refl))

statements_step : (d n : ℕ) (found : List StmtTree) (f : List StmtTree → ℕ → Want) (kind : TokenKind) (t : Token) → kind ≢ k.CloseBrace →
    step (statements d n found f) kind t ≡ step (begin (over item.Statements n) (statement d n (λ s m. statements d m (found ++ s ∷ []) f))) kind t
statements_step d n found f k.CloseBrace t h = absurd (h refl)
statements_step d n found f _ t h = refl

pub statements_else : (end : ℕ) (ts : List Token) (d n : ℕ) (found : List StmtTree) (f : List StmtTree → ℕ → Want) → next_kind ts ≢ k.CloseBrace →
    read end ts (statements d n found f) ≡ read end ts (begin (over item.Statements n) (statement d n (λ s m. statements d m (found ++ s ∷ []) f)))
statements_else end [] d n found f h = refl
statements_else end (t ∷ ts) d n found f h = same_step end t ts (statements_step d n found f (kind_of t) t h)

more_targets_step : (d : ℕ) (ns : List NameValue) (f : StmtTree → Want) (kind : TokenKind) (t : Token) → kind ≢ k.Comma →
    step (more_targets d ns f) kind t ≡ step (a_sign k.Assign (called d ns f)) kind t
more_targets_step d ns f k.Comma t h = absurd (h refl)
more_targets_step d ns f _ t h = refl

pub more_targets_else : (end : ℕ) (ts : List Token) (d : ℕ) (ns : List NameValue) (f : StmtTree → Want) → next_kind ts ≢ k.Comma →
    read end ts (more_targets d ns f) ≡ read end ts (a_sign k.Assign (called d ns f))
more_targets_else end [] d ns f h = refl
more_targets_else end (t ∷ ts) d ns f h = same_step end t ts (more_targets_step d ns f (kind_of t) t h)

-- a statement was read, and the others follow
pub statement_read : (before after : Cursor) (d n m : ℕ) (found : List StmtTree) (s : StmtTree) (f : List StmtTree → ℕ → Want) → next_kind before.rest.now ≢ k.CloseBrace →
    ((g : StmtTree → ℕ → Want) → from before (begin (over item.Statements n) (statement d n g)) ≡ from after (g s m)) →
    from before (statements d n found f) ≡ from after (statements d m (found ++ s ∷ []) f)
statement_read before after d n m found s f h p = statements_else before.end before.rest.now d n found f h ∙ p (λ s m. statements d m (found ++ s ∷ []) f)
