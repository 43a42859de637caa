-- One token at a time: what is read where a token is taken, or left to what comes next.
use Rattle.std.proofs.Common.{◌≡◌, ◌≢◌, ℕ, ◌<◌, Bool, true, false, List, [], ◌∷◌, ◌++◌, length, Option, Some, None, refl, sym, ◌∙◌, ap, subst, arith}
use Rattle.pb_syntax.specs.declared.token.Token.{Token}
use Rattle.pb_syntax.specs.declared.refusal.Item.{Item}
use Rattle.pb_syntax.specs.declared.kind.TokenKind.{TokenKind}
use Rattle.pb_syntax.specs.declared.kind.TokenKind.TheVariants as k
use Rattle.pb_syntax.specs.declared.tree.expression.Level.{Level}
use Rattle.pb_syntax.specs.declared.tree.expression.Level.TheVariants as level
use Rattle.pb_syntax.specs.declared.tree.expression.Operator.{Operator}
use Rattle.pb_syntax.specs.declared.tree.form.TermText.{TermText}
use Rattle.pb_syntax.specs.declared.tree.view.ViewText.{ViewText}
use Rattle.pb_syntax.specs.declared.tree.view.ViewText.TheVariants as view
use Rattle.pb_syntax.specs.Kinds.{Is, kind_of}
use Rattle.pb_syntax.specs.Operators.{operator_of, relation_of}
use Rattle.pb_syntax.specs.Exprs.{ExprTree, name, chained, compare}
use Rattle.pb_syntax.specs.Forms.{DeclValue}
use Rattle.pb_syntax.specs.Stmts.{StmtTree, if_stmt, stmts}
use Rattle.pb_syntax.specs.Limits.{Excess, here, over}
use Rattle.pb_syntax.specs.TooMany.{TooMany, note, begun}
use Rattle.pb_values.specs.Name.{NameValue}
use Rattle.pb_grammar.specs.Next.{next_kind}
use Rattle.pb_grammar.specs.Want.{Want, begin, more_decls, view_or_none, times, quotient, more_terms, otherwise, after_name, more_operands, comparison, operand, total}
use Rattle.pb_grammar.specs.Reading.{Step, take, marked, step, term_of, or_else, Verdict, too_many, on_with, read_with}

-- the first item too many, if limits are asked
abbrev pub caught : Bool → List TooMany → Verdict → Verdict
caught false l v = v
caught true [] v = v
caught true (x ∷ _) v = too_many x.what x.left x.at

-- how far a token is from going on with an expression: 7 for one that never does
abbrev pub distance : TokenKind → ℕ
distance k.Open = 1
distance k.Dot = 1
distance k.Times = 2
distance k.Over = 2
distance k.Modulo = 2
distance k.Plus = 3
distance k.Minus = 3
distance k.Less = 4
distance k.LessOrEqual = 4
distance k.Greater = 4
distance k.GreaterOrEqual = 4
distance k.Equal = 4
distance k.Unequal = 4
distance k.And = 5
distance k.Or = 6
distance _ = 7

abbrev pub rank : Level → ℕ
rank level.Product = 2
rank level.Sum = 3
rank level.Conjunction = 5
rank level.Disjunction = 6

-- the next token doesn't go on with a part of this rank
abbrev pub Ends : ℕ → List Token → Type 0
Ends n ts = n < distance (next_kind ts)

pub ends_at : {kind : TokenKind} (n : ℕ) (t : Token) (ts : List Token) → Is kind t → n < distance kind → Ends n (t ∷ ts)
ends_at n t ts is h = subst (λ (a : TokenKind). n < distance a) (sym is) h

module _ (lim : Bool) (end : ℕ) where
  pub record Gives (ts : List Token) (w : Want) (c : Verdict) : Type 0 where
    pub is : read_with lim end ts w ≡ c

  -- a token is taken
  pub plain : {w next : Want} {kind : TokenKind} {t : Token} {ts : List Token} {c : Verdict}
      → Is kind t → step w kind t ≡ take None next → Gives ts next c → Gives (t ∷ ts) w c
  plain {w = w} {t = t} {ts = ts} is s h = record {
    is =
        ap (λ (a : TokenKind). on_with lim (step w a t) (length (t ∷ ts)) t.at (read_with lim end ts)) is
        ∙ ap (λ (a : Step). on_with lim a (length (t ∷ ts)) t.at (read_with lim end ts)) s ∙ h.is;
  }

  -- two wants that do the same with the next token
  pub same_step : {w other : Want} {kind : TokenKind} {t : Token} {ts : List Token} {c : Verdict}
      → Is kind t → step w kind t ≡ step other kind t → Gives (t ∷ ts) other c → Gives (t ∷ ts) w c
  same_step {w = w} {other = other} {t = t} {ts = ts} is s h = record {
    is =
        ap (λ (a : TokenKind). on_with lim (step w a t) (length (t ∷ ts)) t.at (read_with lim end ts)) is
        ∙ ap (λ (a : Step). on_with lim a (length (t ∷ ts)) t.at (read_with lim end ts)) s
        ∙ sym (ap (λ (a : TokenKind). on_with lim (step other a t) (length (t ∷ ts)) t.at (read_with lim end ts)) is) ∙ h.is;
  }

  on_take : (b : Bool) (m : Option Excess) (next : Want) (t : Token) (ts : List Token) (l : List TooMany) (v : Verdict)
      → read_with b end ts next ≡ caught b l v → on_with b (take m next) (length (t ∷ ts)) t.at (read_with b end ts) ≡ caught b (note m (t ∷ ts) l) v
  on_take true None next t ts l v h = h
  on_take false None next t ts l v h = h
  on_take true (Some x) next t ts l v h = refl
  on_take false (Some x) next t ts l v h = h

  -- a token is taken, with what is too many there
  pub noted : {w next : Want} {kind : TokenKind} {t : Token} {ts : List Token} (m : Option Excess) (l : List TooMany) (v : Verdict)
      → Is kind t → step w kind t ≡ take m next → Gives ts next (caught lim l v) → Gives (t ∷ ts) w (caught lim (note m (t ∷ ts) l) v)
  noted {w = w} {next = next} {t = t} {ts = ts} m l v is s h = record {
    is =
        ap (λ (a : TokenKind). on_with lim (step w a t) (length (t ∷ ts)) t.at (read_with lim end ts)) is
        ∙ ap (λ (a : Step). on_with lim a (length (t ∷ ts)) t.at (read_with lim end ts)) s ∙ on_take lim m next t ts l v h.is;
  }

  pub mark_is : (at : ℕ) (m : Option Item) (next : Want) → marked at m (take None next) ≡ take (here at m) next
  mark_is at None next = refl
  mark_is at (Some x) next = refl

  -- a token is taken that begins an item
  pub marks : {w next : Want} {kind : TokenKind} {t : Token} {ts : List Token} (m : Option Item) (l : List TooMany) (v : Verdict)
      → Is kind t → step w kind t ≡ marked t.at m (take None next) → Gives ts next (caught lim l v) → Gives (t ∷ ts) w (caught lim (begun m (t ∷ ts) l) v)
  marks {next = next} {t = t} m l v is s h = noted (here t.at m) l v is (s ∙ mark_is t.at m next) h

  -- what isn't there is left out where the next token doesn't go on with it
  skip : (w next : Want) (good : TokenKind → Type 0) → ((t : Token) (kind : TokenKind) → good kind → step w kind t ≡ step next kind t)
      → read_with lim end [] w ≡ read_with lim end [] next → (ts : List Token) → good (next_kind ts) → read_with lim end ts w ≡ read_with lim end ts next
  skip w next good same at_end [] g = at_end
  skip w next good same at_end (t ∷ ts) g = ap (λ (a : Step). on_with lim a (length (t ∷ ts)) t.at (read_with lim end ts)) (same t (kind_of t) g)

  no_terms_step : (xs : List TermText) (f : List TermText → Want) (t : Token) (kind : TokenKind) → 3 < distance kind → step (more_terms xs f) kind t ≡ step (f xs) kind t
  no_terms_step xs f t k.Plus h = absurd (omega arith)
  no_terms_step xs f t k.Minus h = absurd (omega arith)
  no_terms_step xs f t _ h = refl

  pub skip_terms : {xs : List TermText} {f : List TermText → Want} {c : Verdict} (ts : List Token) → Ends 3 ts → Gives ts (f xs) c → Gives ts (more_terms xs f) c
  skip_terms {xs = xs} {f = f} ts e h = record { is = skip (more_terms xs f) (f xs) (λ (a : TokenKind). 3 < distance a) (no_terms_step xs f) refl ts e ∙ h.is }

  no_times_step : (m : Bool) (n : ℕ) (f : TermText → Want) (t : Token) (kind : TokenKind) → 2 < distance kind → step (times m n f) kind t ≡ step (f (term_of m n None 0)) kind t
  no_times_step m n f t k.Times h = absurd (omega arith)
  no_times_step m n f t _ h = refl

  pub skip_times : {m : Bool} {n : ℕ} {f : TermText → Want} {c : Verdict} (ts : List Token) → Ends 2 ts → Gives ts (f (term_of m n None 0)) c → Gives ts (times m n f) c
  skip_times {m = m} {n = n} {f = f} ts e h =
      record { is = skip (times m n f) (f (term_of m n None 0)) (λ (a : TokenKind). 2 < distance a) (no_times_step m n f) refl ts e ∙ h.is }

  no_quotient_step : (m : Bool) (n : NameValue) (f : TermText → Want) (t : Token) (kind : TokenKind) → 2 < distance kind
      → step (quotient m n f) kind t ≡ step (f (term_of m 1 (Some n) 0)) kind t
  no_quotient_step m n f t k.Over h = absurd (omega arith)
  no_quotient_step m n f t _ h = refl

  pub skip_quotient : {m : Bool} {n : NameValue} {f : TermText → Want} {c : Verdict} (ts : List Token) → Ends 2 ts
      → Gives ts (f (term_of m 1 (Some n) 0)) c → Gives ts (quotient m n f) c
  skip_quotient {m = m} {n = n} {f = f} ts e h =
      record { is = skip (quotient m n f) (f (term_of m 1 (Some n) 0)) (λ (a : TokenKind). 2 < distance a) (no_quotient_step m n f) refl ts e ∙ h.is }

  no_decls_step : (n : ℕ) (from : Bool) (ds : List DeclValue) (f : List DeclValue → Want) (t : Token) (kind : TokenKind) → kind ≢ k.Comma
      → step (more_decls n from ds f) kind t ≡ step (f ds) kind t
  no_decls_step n from ds f t k.Comma h = absurd (h refl)
  no_decls_step n from ds f t _ h = refl

  pub skip_decls : {n : ℕ} {from : Bool} {ds : List DeclValue} {f : List DeclValue → Want} {c : Verdict} (ts : List Token) → next_kind ts ≢ k.Comma
      → Gives ts (f ds) c → Gives ts (more_decls n from ds f) c
  skip_decls {n = n} {from = from} {ds = ds} {f = f} ts e h =
      record { is = skip (more_decls n from ds f) (f ds) (λ (a : TokenKind). (a ≢ k.Comma)) (no_decls_step n from ds f) refl ts e ∙ h.is }

  no_view_step : (f : ViewText → Want) (t : Token) (kind : TokenKind) → kind ≢ k.Dot → step (view_or_none f) kind t ≡ step (f view.Whole) kind t
  no_view_step f t k.Dot h = absurd (h refl)
  no_view_step f t _ h = refl

  pub skip_view : {f : ViewText → Want} {c : Verdict} (ts : List Token) → next_kind ts ≢ k.Dot → Gives ts (f view.Whole) c → Gives ts (view_or_none f) c
  skip_view {f = f} ts e h = record { is = skip (view_or_none f) (f view.Whole) (λ (a : TokenKind). (a ≢ k.Dot)) (no_view_step f) refl ts e ∙ h.is }

  no_else_step : (d n at : ℕ) (x : ExprTree) (ss : List StmtTree) (f : StmtTree → ℕ → Want) (t : Token) (kind : TokenKind) → kind ≢ k.Else
      → step (otherwise d n at x ss f) kind t ≡ step (f (if_stmt at x (stmts ss)) n) kind t
  no_else_step d n at x ss f t k.Else h = absurd (h refl)
  no_else_step d n at x ss f t _ h = refl

  pub skip_else : {d n at : ℕ} {x : ExprTree} {ss : List StmtTree} {f : StmtTree → ℕ → Want} {c : Verdict} (ts : List Token) → next_kind ts ≢ k.Else
      → Gives ts (f (if_stmt at x (stmts ss)) n) c → Gives ts (otherwise d n at x ss f) c
  skip_else {d = d} {n = n} {at = at} {x = x} {ss = ss} {f = f} ts e h =
      record { is = skip (otherwise d n at x ss f) (f (if_stmt at x (stmts ss)) n) (λ (a : TokenKind). (a ≢ k.Else)) (no_else_step d n at x ss f) refl ts e ∙ h.is }

  no_call_step : (d : ℕ) (n : NameValue) (f : ExprTree → Want) (t : Token) (kind : TokenKind) → 1 < distance kind → step (after_name d n f) kind t ≡ step (f (name n)) kind t
  no_call_step d n f t k.Open h = absurd (omega arith)
  no_call_step d n f t k.Dot h = absurd (omega arith)
  no_call_step d n f t _ h = refl

  pub skip_call : {d : ℕ} {n : NameValue} {f : ExprTree → Want} {c : Verdict} (ts : List Token) → Ends 1 ts → Gives ts (f (name n)) c → Gives ts (after_name d n f) c
  skip_call {d = d} {n = n} {f = f} ts e h =
      record { is = skip (after_name d n f) (f (name n)) (λ (a : TokenKind). 1 < distance a) (no_call_step d n f) refl ts e ∙ h.is }

  no_operator : (p : Level) (kind : TokenKind) → rank p < distance kind → operator_of p kind ≡ None
  no_operator level.Product k.Times h = absurd (omega arith)
  no_operator level.Product k.Over h = absurd (omega arith)
  no_operator level.Product k.Modulo h = absurd (omega arith)
  no_operator level.Sum k.Plus h = absurd (omega arith)
  no_operator level.Sum k.Minus h = absurd (omega arith)
  no_operator level.Conjunction k.And h = absurd (omega arith)
  no_operator level.Disjunction k.Or h = absurd (omega arith)
  no_operator _ _ h = refl

  pub skip_operands : {p : Level} {d : ℕ} {x : ExprTree} {xs : List (Operator × ExprTree)} {f : ExprTree → Want} {c : Verdict} (ts : List Token) → Ends (rank p) ts
      → Gives ts (f (chained p x xs)) c → Gives ts (more_operands p d x xs f) c
  skip_operands {p = p} {d = d} {x = x} {xs = xs} {f = f} ts e h = record {
    is =
        skip (more_operands p d x xs f) (f (chained p x xs)) (λ (a : TokenKind). rank p < distance a)
        (λ t a g. ap (λ o. or_else o (λ o'. operand p d (λ y. more_operands p d x (xs ++ (o', y) ∷ []) f)) (step (f (chained p x xs)) a t)) (no_operator p a g)) refl ts e ∙ h.is;
  }

  no_relation : (kind : TokenKind) → 4 < distance kind → relation_of kind ≡ None
  no_relation k.Less h = absurd (omega arith)
  no_relation k.LessOrEqual h = absurd (omega arith)
  no_relation k.Greater h = absurd (omega arith)
  no_relation k.GreaterOrEqual h = absurd (omega arith)
  no_relation k.Equal h = absurd (omega arith)
  no_relation k.Unequal h = absurd (omega arith)
  no_relation _ h = refl

  pub skip_comparison : {d : ℕ} {x : ExprTree} {f : ExprTree → Want} {c : Verdict} (ts : List Token) → Ends 4 ts → Gives ts (f x) c → Gives ts (comparison d x f) c
  skip_comparison {d = d} {x = x} {f = f} ts e h = record {
    is =
        skip (comparison d x f) (f x) (λ (a : TokenKind). 4 < distance a) (λ t a g. ap (λ o. or_else o (λ r. total d (λ y. f (compare x r y))) (step (f x) a t)) (no_relation a g)) refl ts e ∙ h.is;
  }

  -- what is wanted takes the next token
  pub data Takes : List Token → Want → Type 0 where
    takes : {w next : Want} {m : Option Excess} {t : Token} {ts : List Token} → step w (kind_of t) t ≡ take m next → Takes (t ∷ ts) w

  pub takes_by : {w next : Want} {m : Option Excess} {kind : TokenKind} {t : Token} {ts : List Token} → Is kind t → step w kind t ≡ take m next → Takes (t ∷ ts) w
  takes_by {w = w} {t = t} is s = takes (ap (λ (a : TokenKind). step w a t) is ∙ s)

  -- the number of items before may be told in another way
  pub counted_begin : {w : Want} {ts : List Token} {c : Verdict} (what : Item) (m n : ℕ) → m ≡ n → Gives ts (begin (over what n) w) c → Gives ts (begin (over what m) w) c
  counted_begin {w = w} {ts = ts} {c = c} what m n e h = subst (λ (a : ℕ). Gives ts (begin (over what a) w) c) (sym e) h

  pub took_begin : {w : Want} {ts : List Token} (m : Option Item) (l : List TooMany) (v : Verdict) → Takes ts w
      → Gives ts w (caught lim l v) → Gives ts (begin m w) (caught lim (begun m ts l) v)
  took_begin {w = w} None l v (takes {t = t} {ts = ts} s) h = record { is = h.is }
  took_begin {w = w} (Some x) l v (takes {next = next} {m = m} {t = t} {ts = ts} s) h = record {
    is =
        ap (λ (a : Step). on_with lim (marked t.at (Some x) a) (length (t ∷ ts)) t.at (read_with lim end ts)) s ∙ took lim h.is;
  }
    where
      unlimited : (m : Option Excess) → on_with false (take m next) (length (t ∷ ts)) t.at (read_with false end ts) ≡ read_with false end ts next
      unlimited None = refl
      unlimited (Some y) = refl

      took : (b : Bool) → read_with b end (t ∷ ts) w ≡ caught b l v
          → on_with b (take (Some (record { what = x; at = t.at })) next) (length (t ∷ ts)) t.at (read_with b end ts) ≡ caught b (begun (Some x) (t ∷ ts) l) v
      took true h = refl
      took false h = sym (ap (λ (a : Step). on_with false a (length (t ∷ ts)) t.at (read_with false end ts)) s ∙ unlimited m) ∙ h
