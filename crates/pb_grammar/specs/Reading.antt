-- What each token does to what is wanted, and what reading all tokens gives.
use Rattle.std.specs.Prelude.{ℕ, suc, ◌+◌, Bool, true, false, nat_le, ◌&&◌, List, [], ◌∷◌, ◌++◌, length, Option, Some, None, codes, if◌then◌else◌}
use Rattle.std.specs.Str.{bytes_eq}
use Rattle.pb_values.specs.Name.{NameValue}
use Rattle.pb_syntax.specs.declared.token.Token.{Token}
use Rattle.pb_syntax.specs.declared.refusal.Item.{Item}
use Rattle.pb_syntax.specs.declared.refusal.Item.TheVariants as item
use Rattle.pb_syntax.specs.declared.kind.TokenKind.{TokenKind}
use Rattle.pb_syntax.specs.declared.kind.TokenKind.TheVariants as k
use Rattle.pb_syntax.specs.declared.tree.expression.Level.TheVariants as level
use Rattle.pb_syntax.specs.declared.tree.expression.Relation.{Relation}
use Rattle.pb_syntax.specs.declared.tree.expression.UnarySign.TheVariants as sign
use Rattle.pb_syntax.specs.declared.tree.form.TermText.{TermText}
use Rattle.pb_syntax.specs.declared.tree.view.ViewText.{ViewText}
use Rattle.pb_syntax.specs.declared.tree.view.ViewText.TheVariants as view
use Rattle.pb_syntax.specs.declared.tree.view.MarkText.TheVariants as mark
use Rattle.pb_syntax.specs.Kinds.{kind_of, name_in, number_in}
use Rattle.pb_syntax.specs.Forms.{FormValue}
use Rattle.pb_syntax.specs.Exprs.{ExprTree, number, name, call, parentheses, cell, width, height, signed, chained, compare, exprs}
use Rattle.pb_syntax.specs.Stmts.{StmtTree, let_number, let_matrix, assign, if_stmt, if_else, stmts}
use Rattle.pb_syntax.specs.Trees.{RuleTree, TransformTree}
use Rattle.pb_syntax.specs.Operators.{operator_of, relation_of, condition_relation}
use Rattle.pb_syntax.specs.Limits.{Excess, over, too_great, after_form, counted, excess_of}
use Rattle.pb_syntax.specs.Kinds.{same_kind}
use Rattle.pb_grammar.specs.Want.{Want, token, word, begin, more_transforms, minimums, more_minimums, more_decls, through, after_dim, last_dim, rule, more_rules, small, more_uses, reads, conditions, more_conditions, view_or_none, view_name, after_x, after_high, form, term, times, quotient, divisor, more_terms, relation, statements, statement, after_let, after_target, more_targets, otherwise, factor, primary, after_name, member, arguments, more_arguments, after_coordinate, more_operands, comparison, bracket, a_sign, a_decl, decls, minimum, a_use, condition, after_mark, after_transform, total, expression, operand, coordinates, name_token, block, after_if, after_for, called, after_dot, dimensions}

pub data Step : Type 0 where
  take : Option Excess → Want → Step
  refuse : Step

-- the mark of what begins at a token comes before that of the token itself
abbrev pub marked : ℕ → Option Item → Step → Step
marked at None s = s
marked at (Some what) (take m w) = take (Some (record { what = what; at = at })) w
marked at (Some what) refuse = refuse

abbrev pub taken_if : Bool → Want → Step
taken_if true w = take None w
taken_if false w = refuse

abbrev pub term_of : Bool → ℕ → Option NameValue → ℕ → TermText
term_of m a n q = record { minus = m; factor = a; name = n; quotient = q }

abbrev pub term_step : Bool → (TermText → Want) → TokenKind → Token → Step
term_step m f k.Number t = take (too_great t) (times m (number_in t) f)
term_step m f k.Name t = take None (quotient m (name_in t) f)
term_step m f kind t = refuse

abbrev pub signed_form : Bool → (FormValue → Want) → TermText → Want
signed_form m f x = more_terms (x ∷ []) (λ xs. f (record { minus = m; terms = xs }))

abbrev pub form_step : (FormValue → Want) → TokenKind → Token → Step
form_step f k.Minus t = take None (term false (signed_form true f))
form_step f kind t = term_step false (signed_form false f) kind t

abbrev pub mark_step : (RuleTree → Want) → TokenKind → Step
mark_step f k.To = take None (after_mark mark.Unmarked f)
mark_step f k.Primary = take None (a_sign k.To (after_mark mark.Primary f))
mark_step f k.Secondary = take None (a_sign k.To (after_mark mark.Secondary f))
mark_step f k.Priority = take None (a_sign k.Open (small (λ n. a_sign k.Close (a_sign k.To (after_mark (mark.Priority n) f)))))
mark_step f kind = refuse

abbrev pub between : (ViewText → Want) → Want
between f = a_sign k.Open (form (λ a. a_sign k.Comma (form (λ b. after_high a b f))))

abbrev pub view_step : List ℕ → (ViewText → Want) → Step
view_step n f =
    if bytes_eq n (codes "cell") then take None (a_sign k.Open (form (λ x. after_x x f)))
    else (if bytes_eq n (codes "row") then take None (a_sign k.Open (form (λ y. a_sign k.Close (f (view.Row y)))))
    else (if bytes_eq n (codes "column") then take None (a_sign k.Open (form (λ x. a_sign k.Close (f (view.Column x)))))
    else (if bytes_eq n (codes "region") then take None (between f) else refuse)))

abbrev pub related : (Relation → Want) → Option Relation → Step
related f (Some r) = take None (f r)
related f None = refuse

abbrev pub primary_step : ℕ → (ExprTree → Want) → TokenKind → Token → Step
primary_step d f k.Number t = take None (f (number t.at (number_in t)))
primary_step d f k.Name t = take None (after_name d (name_in t) f)
primary_step d f k.Open t = marked t.at (over item.Nesting d) (take None (expression (suc d) (λ e. a_sign k.Close (f (parentheses t.at e)))))
primary_step d f kind t = refuse

abbrev pub factor_step : ℕ → (ExprTree → Want) → TokenKind → Token → Step
factor_step d f k.Minus t = take None (primary d (λ e. f (signed t.at sign.Minus e)))
factor_step d f k.Not t = take None (primary d (λ e. f (signed t.at sign.Not e)))
factor_step d f kind t = primary_step d f kind t

-- all that an expression reads after its first factor
abbrev pub after_factor : ℕ → (ExprTree → Want) → ExprTree → Want
after_factor d f e = more_operands level.Product d e [] (λ e. more_operands level.Sum d e [] (λ e. comparison d e (λ e.
    more_operands level.Conjunction d e [] (λ e. more_operands level.Disjunction d e [] f))))

abbrev pub member_step : ℕ → NameValue → (ExprTree → Want) → List ℕ → Step
member_step d n f m =
    if bytes_eq m (codes "cell") then take None (coordinates d (λ xs. f (cell n (exprs xs))))
    else (if bytes_eq m (codes "width") then take None (bracket d k.Open (a_sign k.Close (f (width n))))
    else (if bytes_eq m (codes "height") then take None (bracket d k.Open (a_sign k.Close (f (height n)))) else refuse))

abbrev pub statement_step : ℕ → ℕ → (StmtTree → ℕ → Want) → TokenKind → Token → Step
statement_step d n f k.Let t = take None (name_token (λ x. after_let d t.at x (λ s. f s (n + 1))))
statement_step d n f k.Name t = take None (after_target d (name_in t) (λ s. f s (n + 1)))
statement_step d n f k.If t = take None (after_if d (n + 1) t.at f)
statement_step d n f k.For t = take None (after_for d (n + 1) t.at f)
statement_step d n f kind t = refuse

-- an operator or relation is taken, or the token is left to what comes next
abbrev pub or_else : {A : Type 0} → Option A → (A → Want) → Step → Step
or_else (Some a) f s = take None (f a)
or_else None f s = s

abbrev pub step : Want → TokenKind → Token → Step
step (token kind f) seen t = taken_if (same_kind kind seen) (f t)
step (word w further) k.Name t = taken_if (bytes_eq (name_in t).bytes w) further
step (word w further) seen t = refuse
step (begin m w) seen t = marked t.at m (step w seen t)
step (more_transforms ts) k.Transform t = marked t.at (over item.Transforms (length ts)) (take None (after_transform (λ x. more_transforms (ts ++ x ∷ []))))
step (more_transforms ts) seen t = refuse
step (minimums f) k.Where t = take None (minimum 0 (λ m. more_minimums (m ∷ []) f))
step (minimums f) k.From t = take None (f [])
step (minimums f) seen t = refuse
step (more_minimums ms f) k.Comma t = take None (minimum (length ms) (λ m. more_minimums (ms ++ m ∷ []) f))
step (more_minimums ms f) k.From t = take None (f ms)
step (more_minimums ms f) seen t = refuse
step (more_decls before from ds f) k.Comma t = take None (a_decl (before + length ds) (counted from ds) (λ d. more_decls before from (ds ++ d ∷ []) f))
step (more_decls before from ds f) seen t = step (f ds) seen t
step (through before f) k.Through t = take None (decls before false (λ ds. a_sign k.To (f ds)))
step (through before f) k.To t = take None (f [])
step (through before f) seen t = refuse
step (after_dim known e f) k.Comma t = take (excess_of known e) (form (λ y. last_dim (after_form known e) y (f (e ∷ y ∷ []))))
step (after_dim known e f) k.CloseBracket t = take (excess_of known e) (f (e ∷ []))
step (after_dim known e f) seen t = refuse
step (last_dim known e w) k.CloseBracket t = take (excess_of known e) w
step (last_dim known e w) seen t = refuse
step (rule f) seen t = mark_step f seen
step (more_rules rs f) k.CloseBrace t = take None (f rs)
step (more_rules rs f) seen t = marked t.at (over item.Rules (length rs)) (mark_step (λ r. more_rules (rs ++ r ∷ []) f) seen)
step (small f) k.Number t = take (too_great t) (f (number_in t))
step (small f) seen t = refuse
step (more_uses what us f) k.Comma t = take None (a_use what (length us) (λ u. more_uses what (us ++ u ∷ []) f))
step (more_uses what us f) k.Close t = take None (f us)
step (more_uses what us f) seen t = refuse
step (reads f) k.Name t = take None (view_or_none (λ v. token k.Name (λ b. more_uses item.Reads
    (record { matrix = name_in t; view = v; bound = name_in b } ∷ []) f)))
step (reads f) k.Close t = take None (f [])
step (reads f) seen t = refuse
step (conditions f) k.Where t = take None (condition 0 (λ c. more_conditions (c ∷ []) f))
step (conditions f) k.OpenBrace t = take None (f [])
step (conditions f) seen t = refuse
step (more_conditions cs f) k.Comma t = take None (condition (length cs) (λ c. more_conditions (cs ++ c ∷ []) f))
step (more_conditions cs f) k.OpenBrace t = take None (f cs)
step (more_conditions cs f) seen t = refuse
step (view_or_none f) k.Dot t = take None (view_name f)
step (view_or_none f) seen t = step (f view.Whole) seen t
step (view_name f) k.Name t = view_step (name_in t).bytes f
step (view_name f) seen t = refuse
step (after_x x f) k.Comma t = take None (form (λ y. a_sign k.Close (f (view.Cell x (Some y)))))
step (after_x x f) k.Close t = take None (f (view.Cell x None))
step (after_x x f) seen t = refuse
step (after_high a b f) k.Comma t = take None (form (λ c. a_sign k.Comma (form (λ e. a_sign k.Close (f (view.Region a b c e))))))
step (after_high a b f) k.Close t = take None (f (view.Between a b))
step (after_high a b f) seen t = refuse
step (form f) seen t = form_step f seen t
step (term m f) seen t = term_step m f seen t
step (times m n f) k.Times t = take None (token k.Name (λ x. f (term_of m n (Some (name_in x)) 0)))
step (times m n f) seen t = step (f (term_of m n None 0)) seen t
step (quotient m n f) k.Over t = take None (divisor (λ q. f (term_of m 1 (Some n) q)))
step (quotient m n f) seen t = step (f (term_of m 1 (Some n) 0)) seen t
step (divisor f) k.Number t = taken_if (nat_le 2 (number_in t) && nat_le (number_in t) 4) (f (number_in t))
step (divisor f) seen t = refuse
step (more_terms xs f) k.Plus t = take None (begin (over item.Terms (length xs)) (term false (λ x. more_terms (xs ++ x ∷ []) f)))
step (more_terms xs f) k.Minus t = take None (begin (over item.Terms (length xs)) (term true (λ x. more_terms (xs ++ x ∷ []) f)))
step (more_terms xs f) seen t = step (f xs) seen t
step (relation f) seen t = related f (condition_relation seen)
step (statements d n found f) k.CloseBrace t = take None (f found n)
step (statements d n found f) seen t = marked t.at (over item.Statements n) (statement_step d n (λ s m. statements d m (found ++ s ∷ []) f) seen t)
step (statement d n f) seen t = statement_step d n f seen t
step (after_let d at n f) k.Assign t = take None (expression d (λ e. a_sign k.Semicolon (f (let_number at n e))))
step (after_let d at n f) k.OpenBracket t = take None (dimensions (λ dims. a_sign k.Semicolon (f (let_matrix at n dims))))
step (after_let d at n f) seen t = refuse
step (after_target d n f) k.Assign t = take None (expression d (λ e. a_sign k.Semicolon (f (assign n e))))
step (after_target d n f) k.Comma t = take None (name_token (λ x. more_targets d (n ∷ x ∷ []) f))
step (after_target d n f) k.Dot t = take None (after_dot d n f)
step (after_target d n f) seen t = refuse
step (more_targets d ns f) k.Comma t = take None (begin (over item.Targets (length ns)) (name_token (λ x. more_targets d (ns ++ x ∷ []) f)))
step (more_targets d ns f) k.Assign t = take None (called d ns f)
step (more_targets d ns f) seen t = refuse
step (otherwise d n at e body f) k.Else t = take None (block d n (λ other m. f (if_else at e (stmts body) (stmts other)) m))
step (otherwise d n at e body f) seen t = step (f (if_stmt at e (stmts body)) n) seen t
step (factor d f) seen t = factor_step d f seen t
step (primary d f) seen t = primary_step d f seen t
step (after_name d n f) k.Open t = marked t.at (over item.Nesting d) (take None (arguments (suc d) (λ es. f (call n (exprs es)))))
step (after_name d n f) k.Dot t = take None (member d n f)
step (after_name d n f) seen t = step (f (name n)) seen t
step (member d n f) k.Name t = member_step d n f (name_in t).bytes
step (member d n f) seen t = refuse
step (arguments d f) k.Close t = take None (f [])
step (arguments d f) seen t = factor_step d (after_factor d (λ e. more_arguments d (e ∷ []) f)) seen t
step (more_arguments d es f) k.Comma t = take None (begin (over item.Arguments (length es)) (expression d (λ e. more_arguments d (es ++ e ∷ []) f)))
step (more_arguments d es f) k.Close t = take None (f es)
step (more_arguments d es f) seen t = refuse
step (after_coordinate d x f) k.Comma t = take None (expression d (λ y. a_sign k.Close (f (x ∷ y ∷ []))))
step (after_coordinate d x f) k.Close t = take None (f (x ∷ []))
step (after_coordinate d x f) seen t = refuse
step (more_operands l d e xs f) seen t = or_else (operator_of l seen) (λ o. operand l d (λ x. more_operands l d e (xs ++ (o, x) ∷ []) f)) (step (f (chained l e xs)) seen t)
step (comparison d e f) seen t = or_else (relation_of seen) (λ r. total d (λ x. f (compare e r x))) (step (f e) seen t)

-- what reading gives: the tree; the token where no program goes on, by how many are left, and its place; or the item
-- too many, by how many tokens are left where it begins, and its place
pub data Verdict : Type 0 where
  accepted : List TransformTree → Verdict
  bad : ℕ → ℕ → Verdict
  too_many : Item → ℕ → ℕ → Verdict

abbrev pub finish : ℕ → Want → Verdict
finish end (more_transforms ts) = accepted ts
finish end (begin m w) = finish end w
finish end (more_decls before from ds f) = finish end (f ds)
finish end (view_or_none f) = finish end (f view.Whole)
finish end (times m n f) = finish end (f (term_of m n None 0))
finish end (quotient m n f) = finish end (f (term_of m 1 (Some n) 0))
finish end (more_terms xs f) = finish end (f xs)
finish end (otherwise d n at e body f) = finish end (f (if_stmt at e (stmts body)) n)
finish end (after_name d n f) = finish end (f (name n))
finish end (more_operands l d e xs f) = finish end (f (chained l e xs))
finish end (comparison d e f) = finish end (f e)
finish end w = bad 0 end

-- limits may be asked or not
abbrev pub on_with : Bool → Step → ℕ → ℕ → (Want → Verdict) → Verdict
on_with limits (take None w) left at further = further w
on_with true (take (Some x) w) left at further = too_many x.what left x.at
on_with false (take (Some x) w) left at further = further w
on_with limits refuse left at further = bad left at

abbrev pub read_with : Bool → ℕ → List Token → Want → Verdict
read_with limits end [] w = finish end w
read_with limits end (t ∷ ts) w = on_with limits (step w (kind_of t) t) (length (t ∷ ts)) t.at (read_with limits end ts)

abbrev pub on : Step → ℕ → ℕ → (Want → Verdict) → Verdict
on = on_with true

abbrev pub read : ℕ → List Token → Want → Verdict
read = read_with true
