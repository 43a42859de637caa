-- Reading an expression reads what it spells.
use Rattle.std.proofs.Common.{◌≡◌, ℕ, suc, ◌<◌, Bool, List, [], ◌∷◌, ◌++◌, length, Some, None, refl, sym, ◌∙◌, ap, subst, arith, append_assoc, length-append}
use Rattle.std.proofs.lemmas.List.{append-nil}
use Rattle.pb_values.specs.Name.{NameValue}
use Rattle.pb_syntax.specs.declared.token.Token.{Token}
use Rattle.pb_syntax.specs.declared.refusal.Item.TheVariants as item
use Rattle.pb_syntax.specs.declared.kind.TokenKind.{TokenKind}
use Rattle.pb_syntax.specs.declared.kind.TokenKind.TheVariants as k
use Rattle.pb_syntax.specs.declared.tree.expression.Level.{Level}
use Rattle.pb_syntax.specs.declared.tree.expression.Level.TheVariants as level
use Rattle.pb_syntax.specs.declared.tree.expression.Operator.{Operator}
use Rattle.pb_syntax.specs.declared.tree.expression.Relation.{Relation}
use Rattle.pb_syntax.specs.Kinds.{Is, kind_of, name_in}
use Rattle.pb_syntax.specs.Operators.{operator_of, relation_of}
use Rattle.pb_syntax.specs.Exprs.{ExprTree, chained, compare, call, cell, exprs}
use Rattle.pb_syntax.specs.Grammar.{IsWord, IsLine, a_line, IsOperands, no_operand, an_operand, IsOperand, a_conj, a_comp, a_prod, a_unary, IsComp, a_sum, two_sums, IsUnary, unsigned, minus_prim, not_prim, IsPrim, a_number, the_name, call_of_none, call_of, in_parentheses, cell_of, width_of, height_of, IsArguments, last_argument, an_argument, IsCoordinates, one_coordinate, two_coordinates}
use Rattle.pb_syntax.specs.Limits.{over}
use Rattle.pb_syntax.specs.TooMany.{TooMany, begun, in_line, in_operands, in_operand, in_comp, in_unary, in_prim, in_arguments, in_coordinates}
use Rattle.pb_grammar.specs.Next.{next_kind}
use Rattle.pb_grammar.specs.Want.{Want, token, a_sign, bracket, coordinates, factor, primary, member, arguments, more_arguments, after_coordinate, more_operands, comparison, operand, some_arguments, product, total, compared, conjunction, expression}
use Rattle.pb_grammar.specs.Reading.{take, step, or_else, member_step, Verdict}
use Rattle.pb_grammar.proofs.Steps.{caught, distance, rank, Ends, ends_at, Gives, plain, marks, same_step, skip_call, skip_operands, skip_comparison, took_begin, Takes, takes_by, counted_begin, mark_is}

-- a chain of binary operators
abbrev pub line : Level → ℕ → (ExprTree → Want) → Want
line p d f = operand p d (λ e. more_operands p d e [] f)

-- the rank of its operands
abbrev below : Level → ℕ
below level.Product = 1
below level.Sum = 2
below level.Conjunction = 4
below level.Disjunction = 5

below_rank : (p : Level) (n : ℕ) → rank p < n → below p < n
below_rank level.Product n h = omega (arith, h)
below_rank level.Sum n h = omega (arith, h)
below_rank level.Conjunction n h = omega (arith, h)
below_rank level.Disjunction n h = omega (arith, h)

operator_ends : (p : Level) (kind : TokenKind) (o : Operator) → operator_of p kind ≡ Some o → below p < distance kind
operator_ends level.Product k.Times o e = omega arith
operator_ends level.Product k.Over o e = omega arith
operator_ends level.Product k.Modulo o e = omega arith
operator_ends level.Sum k.Plus o e = omega arith
operator_ends level.Sum k.Minus o e = omega arith
operator_ends level.Conjunction k.And o e = omega arith
operator_ends level.Disjunction k.Or o e = omega arith
operator_ends _ _ o e = absurd (cc)

related_ends : (kind : TokenKind) (r : Relation) → relation_of kind ≡ Some r → 3 < distance kind
related_ends k.Less r e = omega arith
related_ends k.LessOrEqual r e = omega arith
related_ends k.Greater r e = omega arith
related_ends k.GreaterOrEqual r e = omega arith
related_ends k.Equal r e = omega arith
related_ends k.Unequal r e = omega arith
related_ends _ r e = absurd (cc)

operands_end : {p : Level} {xs : List (Operator × ExprTree)} {all rest : List Token} → IsOperands p xs all rest → Ends (rank p) rest → Ends (below p) all
operands_end {p = p} (no_operand {rest = rest}) e = below_rank p (distance (next_kind rest)) e
operands_end {p = p} (an_operand {o = o} {t = t} is x xs) e = operator_ends p (kind_of t) o is

-- the tokens that begin an operand
pub data Starts : List Token → Type 0 where
  by_number : {t : Token} {ts : List Token} → Is k.Number t → Starts (t ∷ ts)
  by_name : {t : Token} {ts : List Token} → Is k.Name t → Starts (t ∷ ts)
  by_open : {t : Token} {ts : List Token} → Is k.Open t → Starts (t ∷ ts)

pub data Signs : List Token → Type 0 where
  by_minus : {t : Token} {ts : List Token} → Is k.Minus t → Signs (t ∷ ts)
  by_not : {t : Token} {ts : List Token} → Is k.Not t → Signs (t ∷ ts)
  by_start : {ts : List Token} → Starts ts → Signs ts

prim_starts : {x : ExprTree} {all rest : List Token} → IsPrim x all rest → Starts all
prim_starts (a_number is) = by_number is
prim_starts (the_name is) = by_name is
prim_starts (call_of_none is i j) = by_name is
prim_starts (call_of is i xs) = by_name is
prim_starts (in_parentheses is x i) = by_open is
prim_starts (cell_of is i j m xs) = by_name is
prim_starts (width_of is i j m n) = by_name is
prim_starts (height_of is i j m n) = by_name is

mutual
  pub line_starts : {p : Level} {x : ExprTree} {all rest : List Token} → IsLine p x all rest → Signs all
  line_starts (a_line x xs) = operand_starts x

  operand_starts : {p : Level} {x : ExprTree} {all rest : List Token} → IsOperand p x all rest → Signs all
  operand_starts (a_conj x) = line_starts x
  operand_starts (a_comp (a_sum x)) = line_starts x
  operand_starts (a_comp (two_sums x is y)) = line_starts x
  operand_starts (a_prod x) = line_starts x
  operand_starts (a_unary (unsigned x)) = by_start (prim_starts x)
  operand_starts (a_unary (minus_prim is x)) = by_minus is
  operand_starts (a_unary (not_prim is x)) = by_not is

arguments_start : {xs : List ExprTree} {all rest : List Token} → IsArguments xs all rest → Signs all
arguments_start (last_argument x is) = line_starts x
arguments_start (an_argument x is xs) = line_starts x

module _ (lim : Bool) (end : ℕ) where
  as_primary : {all : List Token} {d : ℕ} {f : ExprTree → Want} {c : Verdict} → Starts all → Gives lim end all (primary d f) c → Gives lim end all (factor d f) c
  as_primary (by_number is) h = same_step lim end is refl h
  as_primary (by_name is) h = same_step lim end is refl h
  as_primary (by_open is) h = same_step lim end is refl h

  -- the first argument is read as any expression
  as_arguments : {all : List Token} {d : ℕ} {f : List ExprTree → Want} {c : Verdict} → Signs all
      → Gives lim end all (expression d (λ e. more_arguments d (e ∷ []) f)) c → Gives lim end all (arguments d f) c
  unfolding product total compared conjunction expression
  as_arguments (by_minus is) h = same_step lim end is refl h
  as_arguments (by_not is) h = same_step lim end is refl h
  as_arguments (by_start (by_number is)) h = same_step lim end is refl h
  as_arguments (by_start (by_name is)) h = same_step lim end is refl h
  as_arguments (by_start (by_open is)) h = same_step lim end is refl h

  takes_expression : {all : List Token} (d : ℕ) (f : ExprTree → Want) → Signs all → Takes lim end all (expression d f)
  unfolding product total compared conjunction expression
  takes_expression d f (by_minus is) = takes_by lim end is refl
  takes_expression d f (by_not is) = takes_by lim end is refl
  takes_expression d f (by_start (by_number is)) = takes_by lim end is refl
  takes_expression d f (by_start (by_name is)) = takes_by lim end is refl
  takes_expression d f (by_start (by_open {t = t} is)) = takes_by lim end is (mark_is lim end t.at (over item.Nesting d) _)

  worded : {n : List ℕ} {d : ℕ} {x : NameValue} {f : ExprTree → Want} {w : Token} {ts : List Token} {next : Want} {c : Verdict} → IsWord n w
      → member_step d x f n ≡ take None next → Gives lim end ts next c → Gives lim end (w ∷ ts) (member d x f) c
  worded {d = d} {x = x} {f = f} is s h = plain lim end is.0 (ap (λ (a : List ℕ). member_step d x f a) is.1 ∙ s) h

  -- a bracket that is opened
  pub opens : {kind : TokenKind} {w : Want} {t : Token} {ts : List Token} (d : ℕ) (l : List TooMany) (v : Verdict) → Is kind t → step (token kind (λ _. w)) kind t ≡ take None w
      → Gives lim end ts w (caught lim l v) → Gives lim end (t ∷ ts) (bracket d kind w) (caught lim (begun (over item.Nesting d) (t ∷ ts) l) v)
  opens d l v is s h = took_begin lim end (over item.Nesting d) l v (takes_by lim end is s) (plain lim end is s h)

  mutual
    unfolding product total compared conjunction expression coordinates some_arguments

    pub reads_line : {p : Level} {x : ExprTree} {all rest : List Token} (x' : IsLine p x all rest) (d : ℕ) (f : ExprTree → Want) (l : List TooMany) (v : Verdict)
        → Ends (rank p) rest → Gives lim end rest (f x) (caught lim l v) → Gives lim end all (line p d f) (caught lim (in_line d x' l) v)
    reads_line (a_line {l = p} {x = a} x xs) d f l v e h =
        reads_operand x d (λ y. more_operands p d y [] f) _ v (operands_end xs e) (reads_operands xs d a [] f l v e h)

    reads_operands : {p : Level} {xs : List (Operator × ExprTree)} {all rest : List Token} (xs' : IsOperands p xs all rest) (d : ℕ) (first : ExprTree)
        (found : List (Operator × ExprTree)) (f : ExprTree → Want) (l : List TooMany) (v : Verdict) → Ends (rank p) rest
        → Gives lim end rest (f (chained p first (found ++ xs))) (caught lim l v)
        → Gives lim end all (more_operands p d first found f) (caught lim (in_operands d xs' l) v)
    reads_operands {p = p} (no_operand {rest = rest}) d first found f l v e h =
        skip_operands lim end rest e (subst (λ (a : List (Operator × ExprTree)). Gives lim end rest (f (chained p first a)) (caught lim l v)) (append-nil found) h)
    reads_operands {p = p} {rest = rest} (an_operand {o = o} {x = a} {xs = bs} {t = t} is x xs) d first found f l v e h =
        plain lim end refl (ap (λ q. or_else q (λ o'. operand p d (λ y. more_operands p d first (found ++ (o', y) ∷ []) f)) (step (f (chained p first found)) (kind_of t) t)) is)
        (reads_operand x d (λ y. more_operands p d first (found ++ (o, y) ∷ []) f) _ v (operands_end xs e) (reads_operands xs d first (found ++ (o, a) ∷ []) f l v e
        (subst (λ (b : List (Operator × ExprTree)). Gives lim end rest (f (chained p first b)) (caught lim l v)) (sym (append_assoc found ((o, a) ∷ []) bs)) h)))

    reads_operand : {p : Level} {x : ExprTree} {all rest : List Token} (x' : IsOperand p x all rest) (d : ℕ) (f : ExprTree → Want) (l : List TooMany) (v : Verdict)
        → Ends (below p) rest → Gives lim end rest (f x) (caught lim l v) → Gives lim end all (operand p d f) (caught lim (in_operand d x' l) v)
    reads_operand (a_conj x) d f l v e h = reads_line x d f l v e h
    reads_operand (a_comp x) d f l v e h = reads_comp x d f l v e h
    reads_operand (a_prod x) d f l v e h = reads_line x d f l v e h
    reads_operand (a_unary x) d f l v e h = reads_unary x d f l v e h

    reads_comp : {x : ExprTree} {all rest : List Token} (x' : IsComp x all rest) (d : ℕ) (f : ExprTree → Want) (l : List TooMany) (v : Verdict)
        → Ends 4 rest → Gives lim end rest (f x) (caught lim l v) → Gives lim end all (operand level.Conjunction d f) (caught lim (in_comp d x' l) v)
    reads_comp (a_sum {rest = rest} x) d f l v e h =
        reads_line x d (λ y. comparison d y f) l v (omega (arith, e)) (skip_comparison lim end rest e h)
    reads_comp (two_sums {x = a} {t = t} {r = r} x is y) d f l v e h =
        reads_line x d (λ b. comparison d b f) _ v (related_ends (kind_of t) r is)
        (plain lim end refl (ap (λ q. or_else q (λ s. total d (λ b. f (compare a s b))) (step (f a) (kind_of t) t)) is) (reads_line y d (λ b. f (compare a r b)) l v (omega (arith, e)) h))

    reads_unary : {x : ExprTree} {all rest : List Token} (x' : IsUnary x all rest) (d : ℕ) (f : ExprTree → Want) (l : List TooMany) (v : Verdict)
        → Ends 1 rest → Gives lim end rest (f x) (caught lim l v) → Gives lim end all (factor d f) (caught lim (in_unary d x' l) v)
    reads_unary (unsigned x) d f l v e h = as_primary (prim_starts x) (reads_prim x d f l v e h)
    reads_unary (minus_prim is x) d f l v e h = plain lim end is refl (reads_prim x d _ l v e h)
    reads_unary (not_prim is x) d f l v e h = plain lim end is refl (reads_prim x d _ l v e h)

    reads_prim : {x : ExprTree} {all rest : List Token} (x' : IsPrim x all rest) (d : ℕ) (f : ExprTree → Want) (l : List TooMany) (v : Verdict)
        → Ends 1 rest → Gives lim end rest (f x) (caught lim l v) → Gives lim end all (primary d f) (caught lim (in_prim d x' l) v)
    reads_prim (a_number is) d f l v e h = plain lim end is refl h
    reads_prim (the_name {rest = rest} is) d f l v e h = plain lim end is refl (skip_call lim end rest e h)
    reads_prim (call_of_none is i j) d f l v e h = plain lim end is refl (marks lim end (over item.Nesting d) l v i refl (plain lim end j refl h))
    reads_prim (call_of {n = n} is i xs) d f l v e h =
        plain lim end is refl (marks lim end (over item.Nesting d) _ v i refl (as_arguments (arguments_start xs)
        (reads_arguments xs (suc d) 1 [] (λ es. f (call (name_in n) (exprs es))) l v refl h)))
    reads_prim (in_parentheses {c = c} {rest = rest} is x i) d f l v e h =
        marks lim end (over item.Nesting d) _ v is refl (reads_line x (suc d) _ l v (ends_at 6 c rest i (omega arith)) (plain lim end i refl h))
    reads_prim (cell_of {n = n} is i w o xs) d f l v e h =
        plain lim end is refl (plain lim end i refl (worded w refl (opens d _ v o refl (reads_coordinates xs (suc d) (λ es. f (cell (name_in n) (exprs es))) l v h))))
    reads_prim (width_of is i w o c) d f l v e h = plain lim end is refl (plain lim end i refl (worded w refl (opens d l v o refl (plain lim end c refl h))))
    reads_prim (height_of is i w o c) d f l v e h = plain lim end is refl (plain lim end i refl (worded w refl (opens d l v o refl (plain lim end c refl h))))

    pub reads_arguments : {xs : List ExprTree} {all rest : List Token} (xs' : IsArguments xs all rest) (d n : ℕ) (found : List ExprTree) (f : List ExprTree → Want)
        (l : List TooMany) (v : Verdict) → suc (length found) ≡ n
        → Gives lim end rest (f (found ++ xs)) (caught lim l v)
        → Gives lim end all (expression d (λ e. more_arguments d (found ++ e ∷ []) f)) (caught lim (in_arguments d n xs' l) v)
    reads_arguments (last_argument {c = c} {rest = rest} x is) d n found f l v s h =
        reads_line x d (λ e. more_arguments d (found ++ e ∷ []) f) l v (ends_at 6 c rest is (omega arith)) (plain lim end is refl h)
    reads_arguments {rest = rest} (an_argument {x = a} {xs = bs} {m = m} {mid = mid} x is xs) d n found f l v s h =
        reads_line x d (λ e. more_arguments d (found ++ e ∷ []) f) _ v (ends_at 6 m mid is (omega arith))
        (plain lim end is refl (counted_begin lim end item.Arguments (length (found ++ a ∷ [])) n (omega (arith, s, length-append found (a ∷ [])))
        (took_begin lim end (over item.Arguments n) _ v (takes_expression d (λ e. more_arguments d ((found ++ a ∷ []) ++ e ∷ []) f) (arguments_start xs))
        (reads_arguments xs d (suc n) (found ++ a ∷ []) f l v (omega (arith, s, length-append found (a ∷ [])))
        (subst (λ (b : List ExprTree). Gives lim end rest (f b) (caught lim l v)) (sym (append_assoc found (a ∷ []) bs)) h)))))

    pub reads_coordinates : {xs : List ExprTree} {all rest : List Token} (xs' : IsCoordinates xs all rest) (d : ℕ) (f : List ExprTree → Want)
        (l : List TooMany) (v : Verdict) → Gives lim end rest (f xs) (caught lim l v)
        → Gives lim end all (expression d (λ x. after_coordinate d x f)) (caught lim (in_coordinates d xs' l) v)
    reads_coordinates (one_coordinate {c = c} {rest = rest} x is) d f l v h =
        reads_line x d (λ y. after_coordinate d y f) l v (ends_at 6 c rest is (omega arith)) (plain lim end is refl h)
    reads_coordinates (two_coordinates {x = a} {m = m} {c = c} {mid = mid} {rest = rest} x is y i) d f l v h =
        reads_line x d (λ b. after_coordinate d b f) _ v (ends_at 6 m mid is (omega arith)) (plain lim end is refl
        (reads_line y d (λ b. a_sign k.Close (f (a ∷ b ∷ []))) l v (ends_at 6 c rest i (omega arith)) (plain lim end i refl h)))
