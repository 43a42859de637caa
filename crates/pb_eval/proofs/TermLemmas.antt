-- Terms, and the expressions that they stand for.
use Rattle.std.proofs.Common.{◌≡◌, ◌∙◌, refl, sym, ap, ℕ, zero, suc, ◌+◌, ◌<◌, ◌≤◌, ℤ, pos, List, [], ◌∷◌, ◌++◌, length, take, get_or, drop, drop-cons, add-one, Option, Some, None, IfSome, Ok, Err, Result, arith}
use Rattle.std.proofs.lemmas.List.{take_all, take_more}
use Rattle.pb_syntax.specs.declared.tree.expression.Operator.{Operator}
use Rattle.pb_values.specs.declared.outcome.Kind.{Kind}
use Rattle.std.specs.Global.{Vec}
use Rattle.pb_program.specs.declared.expression.Expr.{Expr, Call}
use Rattle.pb_program.specs.declared.meaning.Called.{Called}
use Rattle.pb_program.specs.declared.meaning.Callee.TheVariants as callee
use Rattle.pb_program.specs.declared.meaning.Function.TheVariants as function
use Rattle.pb_program.specs.declared.meaning.Meaning.{Meaning}
use Rattle.pb_program.specs.declared.meaning.Meaning.TheVariants.{Read}
use Rattle.pb_program.specs.Exprs.{bare}
use Rattle.pb_model.specs.Bodies.{Bindings, Store, by_operator, if_ok, operated, summed, value, values, view_of}
use Rattle.pb_model.specs.Grids.{Grid}
use Rattle.pb_numbers.specs.Deciding.{decided}
use Rattle.pb_eval.specs.Terms.{AreSteps, AreTerms, IsTerm, TermsValue, steps_value, term_value, terms_value}
use Rattle.pb_statements.specs.Working.{called_in, function_in, operand_in, value_in, values_in, view_in}
use Rattle.pb_eval.specs.declared.terms.Term.{Term}
use Rattle.pb_eval.specs.declared.terms.Term.TheVariants.{Sum}
use Rattle.pb_statements.proofs.ArgumentLemmas.{by_open, sum_there}
use Rattle.pb_statements.proofs.ExprLemmas.{call_in}

last : (r : Result ℤ Kind) → r ≡ if_ok r (λ n. Ok n)
last (Ok n) = refl
last (Err k) = refl

through : (r : Result ℤ Kind) (f g h : ℤ → Result ℤ Kind) → ((n : ℤ) → f n ≡ if_ok (g n) h) → if_ok r f ≡ if_ok (if_ok r g) h
through (Ok n) f g h e = e n
through (Err k) f g h e = refl

module _ (b : Bindings) (st : Store) where
  pub sum_read : (xs : List Expr) (x : Expr) (m : Meaning) (k : ℕ) → 1 ≤ length xs → length xs < 2 → x ≡ get_or xs 0 x → view_of b st m ≡ view_in b st x → m ≡ Read k → function_in b st function.Sum xs ≡ term_value b st (Sum k)
  unfolding term_value
  sum_read xs x m k some few is v e =
      sym (sum_there b st xs x some few is) ∙ ap (λ (g : Grid ℤ). summed (pos 0) g.cells) (sym v) ∙ ap (λ n. summed (pos 0) (view_of b st n).cells) e

  -- ---- one step more
  values_last : (l : List (Operator × Expr)) (o : Operator × Expr) (a : ℤ) → values_in b st a (l ++ o ∷ []) ≡ if_ok (values_in b st a l) (λ n. operand_in b st n o.0 o.1)
  unfolding values_in operand_in value_in values
  values_last [] o a = sym (last (by_operator o.0 a (value b st (bare o.1))))
  values_last (p ∷ l) o a =
      through (by_operator p.0 a (value b st (bare p.1))) (λ n. values_in b st n (l ++ o ∷ [])) (λ n. values_in b st n l) (λ n. operand_in b st n o.0 o.1) (λ n. values_last l o n)

  steps_last : (l : List (Operator × Term)) (t : Operator × Term) (a : ℤ) → steps_value b st a (l ++ t ∷ []) ≡ if_ok (steps_value b st a l) (λ n. by_operator t.0 n (term_value b st t.1))
  unfolding steps_value
  steps_last [] t a = sym (last (by_operator t.0 a (term_value b st t.1)))
  steps_last (p ∷ l) t a =
      through (by_operator p.0 a (term_value b st p.1)) (λ n. steps_value b st n (l ++ t ∷ [])) (λ n. steps_value b st n l) (λ n. by_operator t.0 n (term_value b st t.1)) (λ n. steps_last l t n)

  step_as : (o : Operator) (x : Expr) (t : Term) (r : Result ℤ Kind) → value_in b st x ≡ term_value b st t → if_ok r (λ n. operand_in b st n o x) ≡ if_ok r (λ n. by_operator o n (term_value b st t))
  unfolding operand_in
  step_as o x t r e = ap (λ v. if_ok r (λ n. by_operator o n v)) e

pub steps_begin : (rest : List (Operator × Expr)) (ts : List (Operator × Term)) → ts ≡ [] → AreSteps (take 0 rest) ts
unfolding values_in steps_value values
steps_begin rest ts e b st a = sym (ap (steps_value b st a) e)

pub steps_more : (rest : List (Operator × Expr)) (i : ℕ) (o : Operator × Expr) (old new : List (Operator × Term)) (t : Term) → i < length rest → o ≡ get_or rest i o → AreSteps (take i rest) old → IsTerm o.1 t → new ≡ old ++ (o.0, t) ∷ [] → AreSteps (take (i + 1) rest) new
steps_more rest i o old new t below is before one made b st a =
    ap (values_in b st a) (take_more rest i o below ∙ ap (λ p. take i rest ++ p ∷ []) (sym is))
    ∙ values_last b st (take i rest) o a ∙ ap (λ r. if_ok r (λ n. operand_in b st n o.0 o.1)) (before b st a) ∙ step_as b st o.0 o.1 t (steps_value b st a old) (one b st)
    ∙ sym (steps_last b st old (o.0, t) a) ∙ sym (ap (steps_value b st a) made)

pub steps_all : (rest : List (Operator × Expr)) (i : ℕ) (ts : List (Operator × Term)) → length rest ≤ i → AreSteps (take i rest) ts → AreSteps rest ts
steps_all rest i ts past are b st a = sym (ap (values_in b st a) (take_all i rest past)) ∙ are b st a

pub sum_called : (e : Expr) (c : Called) (xs : Vec Expr) (ys : List Expr) (found : Option Term) → e ≡ Call c xs → c.what ≡ callee.Function function.Sum → ys ≡ xs.items
    → IfSome found (λ t. (b : Bindings) (st : Store) → function_in b st function.Sum ys ≡ term_value b st t) → IfSome found (IsTerm e)
unfolding function_in
sum_called e c xs ys None is what same h = h
sum_called e c xs ys (Some t) is what same h = λ b st. named b st ∙ h b st
  where
    named : (b : Bindings) (st : Store) → value_in b st e ≡ function_in b st function.Sum ys
    named b st = ap (value_in b st) is ∙ call_in b st c xs ∙ ap (λ m. called_in b st m xs.items) what ∙ ap (called_in b st (callee.Function function.Sum)) (sym same)

-- ---- all terms
pub alone : (e : Expr) (t : TermsValue) → t.rest ≡ [] → IsTerm e t.first → AreTerms e t
unfolding terms_value steps_value
alone e t none one b st = one b st ∙ last (term_value b st t.first) ∙ sym (ap (λ ts. if_ok (term_value b st t.first) (λ a. steps_value b st a ts)) none)

pub together : (e x : Expr) (rest : List (Operator × Expr)) (t : TermsValue) → ((b : Bindings) (st : Store) → value_in b st e ≡ if_ok (value_in b st x) (λ a. values_in b st a rest)) → IsTerm x t.first → AreSteps rest t.rest → AreTerms e t
unfolding terms_value
together e x rest t chain one are b st = chain b st ∙ ap (λ r. if_ok r (λ a. values_in b st a rest)) (one b st) ∙ each (term_value b st t.first)
  where
    each : (r : Result ℤ Kind) → if_ok r (λ a. values_in b st a rest) ≡ if_ok r (λ a. steps_value b st a t.rest)
    each (Ok a) = are b st a
    each (Err k) = refl

pub same_terms : (e : Expr) (t u : TermsValue) → u.first ≡ t.first → u.rest ≡ t.rest → AreTerms e t → AreTerms e u
unfolding terms_value
same_terms e t u first rest are b st = are b st ∙ (λ i. if_ok (term_value b st (sym first i)) (λ a. steps_value b st a (sym rest i)))

pub operated_by : (o : Operator) (a c v w : ℤ) (r q : Result ℤ Kind) → a ≡ c → v ≡ w → q ≡ operated o a v → r ≡ Ok w → decided o c ≡ None → q ≡ by_operator o c r
operated_by o a c v w r q e f made at open_ = made ∙ ap (λ n. operated o n v) e ∙ ap (operated o c) f ∙ ap (λ s. if_ok s (operated o c)) (sym at) ∙ sym (by_open o c r open_)

pub trapped_by : (o : Operator) (c : ℤ) (k : Kind) (r : Result ℤ Kind) → r ≡ Err k → decided o c ≡ None → Err k ≡ by_operator o c r
trapped_by o c k r at open_ = ap (λ s. if_ok s (operated o c)) (sym at) ∙ sym (by_open o c r open_)

-- ---- steps from a place on
module _ (b : Bindings) (st : Store) where
  steps_next : (rest : List (Operator × Term)) (i : ℕ) (d : Operator × Term) (total : ℤ) → i < length rest
      → steps_value b st total (drop i rest) ≡ if_ok (by_operator (get_or rest i d).0 total (term_value b st (get_or rest i d).1)) (λ a. steps_value b st a (drop (i + 1) rest))
  unfolding steps_value
  steps_next rest i d total below = rw (add-one) (ap (steps_value b st total) (drop-cons rest i d below))

  pub steps_ok : (rest : List (Operator × Term)) (i : ℕ) (d : Operator × Term) (total n u : ℤ) → i < length rest → u ≡ n → by_operator (get_or rest i d).0 total (term_value b st (get_or rest i d).1) ≡ Ok n
      → steps_value b st u (drop (i + 1) rest) ≡ steps_value b st total (drop i rest)
  steps_ok rest i d total n u below same made =
      ap (λ v. steps_value b st v (drop (i + 1) rest)) same ∙ sym (steps_next rest i d total below ∙ ap (λ r. if_ok r (λ a. steps_value b st a (drop (i + 1) rest))) made)

  pub steps_err : (rest : List (Operator × Term)) (i : ℕ) (d : Operator × Term) (total : ℤ) (k : Kind) → i < length rest → by_operator (get_or rest i d).0 total (term_value b st (get_or rest i d).1) ≡ Err k
      → Err k ≡ steps_value b st total (drop i rest)
  steps_err rest i d total k below made = sym (steps_next rest i d total below ∙ ap (λ r. if_ok r (λ a. steps_value b st a (drop (i + 1) rest))) made)

  pub steps_same : (rest : List (Operator × Term)) (a c : ℤ) (r : Result ℤ Kind) → a ≡ c → r ≡ steps_value b st a rest → r ≡ steps_value b st c rest
  steps_same rest a c r e h = h ∙ ap (λ v. steps_value b st v rest) e

  pub steps_end : (rest : List (Operator × Term)) (i : ℕ) (total : ℤ) → length rest ≤ i → steps_value b st total (drop i rest) ≡ Ok total
  unfolding steps_value
  steps_end rest i total past = ap (steps_value b st total) (none rest i past)
    where
      none : (l : List (Operator × Term)) (i : ℕ) → length l ≤ i → drop i l ≡ []
      none [] zero past = refl
      none [] (suc i) past = refl
      none (n ∷ l) zero past = absurd (omega arith)
      none (n ∷ l) (suc i) past = none l i (omega arith)
