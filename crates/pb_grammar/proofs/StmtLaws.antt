-- Reading a body reads what it spells.
use Rattle.std.proofs.Common.{◌≡◌, ◌≢◌, ℕ, suc, ◌+◌, ◌<◌, Bool, true, List, [], ◌∷◌, ◌++◌, length, None, refl, sym, ◌∙◌, ap, subst, arith, append_assoc}
use Rattle.std.specs.Str.{bytes_eq}
use Rattle.std.proofs.lemmas.List.{append-nil}
use Rattle.pb_values.specs.Name.{NameValue}
use Rattle.pb_syntax.specs.declared.token.Token.{Token}
use Rattle.pb_syntax.specs.declared.refusal.Item.TheVariants as item
use Rattle.pb_syntax.specs.declared.kind.TokenKind.{TokenKind}
use Rattle.pb_syntax.specs.declared.kind.TokenKind.TheVariants as k
use Rattle.pb_syntax.specs.Kinds.{Is, name_in}
use Rattle.pb_syntax.specs.Exprs.{ExprTree}
use Rattle.pb_syntax.specs.Stmts.{StmtTree, call_stmt, stmts}
use Rattle.pb_syntax.specs.Grammar.{Commas, no_comma, a_comma, IsWord, IsName, a_name, IsExpr, IsArguments, IsStmt, let_a_number, let_a_matrix, an_assignment, a_call, a_cell_assignment, an_if, an_if_else, a_for, IsBlock, a_block, IsStmts, no_stmt, one_stmt}
use Rattle.pb_syntax.specs.Limits.{over}
use Rattle.pb_syntax.specs.TooMany.{TooMany, begun, in_commas, in_name, in_line, in_arguments, statements_in, statements_among, among, in_stmt, in_block, in_stmts}
use Rattle.pb_grammar.specs.Next.{next_kind}
use Rattle.pb_grammar.specs.Want.{Want, name_token, block, after_if, after_for, after_dot, called, coordinates, dimensions, some_arguments, conjunction, word, a_sign, more_targets, statements, expression}
use Rattle.pb_grammar.specs.Reading.{taken_if, Verdict}
use Rattle.pb_grammar.proofs.Steps.{caught, distance, ends_at, Gives, plain, marks, skip_else, took_begin, takes_by, counted_begin}
use Rattle.pb_grammar.proofs.FormLaws.{one_longer, reads_dims}
use Rattle.pb_grammar.proofs.ExprLaws.{opens, reads_line, reads_arguments, reads_coordinates}

pub among_is : (ss : List StmtTree) → statements_among (stmts ss) ≡ among ss
among_is [] = refl
among_is (s ∷ ss) = ap (λ n. statements_in s + n) (among_is ss)

stmt_first : {s : StmtTree} {all rest : List Token} → IsStmt s all rest → next_kind all ≢ k.Else
stmt_first (let_a_number i j m x s) e = cc
stmt_first (let_a_matrix i j m ds s) e = cc
stmt_first (an_assignment i j x s) e = cc
stmt_first (a_call i j m ns p q r xs s) e = cc
stmt_first (a_cell_assignment i j w o xs p x s) e = cc
stmt_first (an_if i o x c ss) e = cc
stmt_first (an_if_else i o x c ss l others) e = cc
stmt_first (a_for i o n p a d b c ss) e = cc

stmts_first : {ss : List StmtTree} {all rest : List Token} → IsStmts ss all rest → next_kind all ≢ k.Else
stmts_first (no_stmt is) e = cc
stmts_first (one_stmt s ss) e = stmt_first s e

module _ (lim : Bool) (end : ℕ) where
  -- an expression that a token ends
  expr_to : {kind : TokenKind} {x : ExprTree} {t : Token} {all rest : List Token} (x' : IsExpr x all (t ∷ rest)) (d : ℕ) (f : ExprTree → Want) (l : List TooMany) (v : Verdict)
      → Is kind t → 6 < distance kind → Gives lim end (t ∷ rest) (f x) (caught lim l v)
      → Gives lim end all (expression d f) (caught lim (in_line d x' l) v)
  unfolding expression conjunction
  expr_to {t = t} {rest = rest} x d f l v is e h = reads_line lim end x d f l v (ends_at 6 t rest is e) h

  the_word : {n : List ℕ} {next : Want} {w : Token} {ts : List Token} {c : Verdict} → IsWord n w → bytes_eq n n ≡ true
      → Gives lim end ts next c → Gives lim end (w ∷ ts) (word n next) c
  the_word {n = n} {next = next} is same h =
      plain lim end is.0 (ap (λ (b : List ℕ). taken_if (bytes_eq b n) next) is.1 ∙ ap (λ b. taken_if b next) same) h

  reads_targets : {ns : List NameValue} {xs : List ExprTree} {e c o s : Token} {all mid rest : List Token} (ns' : Commas IsName ns all (e ∷ c ∷ o ∷ mid))
      (i : Is k.Assign e) (j : Is k.Name c) (m : Is k.Open o) (xs' : IsArguments xs mid (s ∷ rest)) (q : Is k.Semicolon s)
      (d n : ℕ) (found : List NameValue) (f : StmtTree → Want) (l : List TooMany) (v : Verdict) → length found ≡ n
      → Gives lim end rest (f (call_stmt (found ++ ns) (name_in c) xs)) (caught lim l v)
      → Gives lim end all (more_targets d found f)
      (caught lim (in_commas item.Targets (λ x a b. in_name) n ns' (begun (over item.Nesting d) (o ∷ mid) (in_arguments (suc d) 1 xs' l))) v)
  unfolding name_token called some_arguments
  reads_targets {xs = es} {c = c} {rest = rest} no_comma i j m xs q d n found f l v s h =
      plain lim end i refl (plain lim end j refl (opens lim end d _ v m refl (reads_arguments lim end xs (suc d) 1 []
      (λ a. a_sign k.Semicolon (f (call_stmt found (name_in c) a))) l v refl (plain lim end q refl
      (subst (λ (a : List NameValue). Gives lim end rest (f (call_stmt a (name_in c) es)) (caught lim l v)) (append-nil found) h)))))
  reads_targets {xs = es} {c = c} {rest = rest} (a_comma {xs = bs} r (a_name {t = t} is) ns) i j m xs q d n found f l v s h =
      plain lim end r refl (counted_begin lim end item.Targets (length found) n s (took_begin lim end (over item.Targets n) _ v (takes_by lim end is refl)
      (plain lim end is refl (reads_targets ns i j m xs q d (suc n) (found ++ name_in t ∷ []) f l v (one_longer found (name_in t) n s)
      (subst (λ (b : List NameValue). Gives lim end rest (f (call_stmt b (name_in c) es)) (caught lim l v)) (sym (append_assoc found (name_in t ∷ []) bs)) h)))))

  -- the number of statements before may be told in another way
  told_count : {d m n : ℕ} {found : List StmtTree} {f : List StmtTree → ℕ → Want} {ts : List Token} {c : Verdict} → n ≡ m
      → Gives lim end ts (statements d n found f) c → Gives lim end ts (statements d m found f) c
  told_count {d = d} {found = found} {f = f} {ts = ts} {c = c} e h = subst (λ (a : ℕ). Gives lim end ts (statements d a found f) c) e h

  mutual
    unfolding name_token after_if after_for after_dot block coordinates dimensions

    reads_stmt : {s : StmtTree} {all rest : List Token} (s' : IsStmt s all rest) (d n : ℕ) (found : List StmtTree) (f : List StmtTree → ℕ → Want)
        (l : List TooMany) (v : Verdict) → next_kind rest ≢ k.Else
        → Gives lim end rest (statements d (n + statements_in s) (found ++ s ∷ []) f) (caught lim l v)
        → Gives lim end all (statements d n found f) (caught lim (begun (over item.Statements n) all (in_stmt d n s' l)) v)
    reads_stmt (let_a_number i j m x s) d n found f l v e h =
        marks lim end (over item.Statements n) _ v i refl (plain lim end j refl (plain lim end m refl
        (expr_to x d _ l v s (omega arith) (plain lim end s refl h))))
    reads_stmt (let_a_matrix i j m ds s) d n found f l v e h =
        marks lim end (over item.Statements n) _ v i refl (plain lim end j refl (plain lim end m refl
        (reads_dims lim end None ds _ l v (plain lim end s refl h))))
    reads_stmt (an_assignment i j x s) d n found f l v e h =
        marks lim end (over item.Statements n) _ v i refl (plain lim end j refl (expr_to x d _ l v s (omega arith) (plain lim end s refl h)))
    reads_stmt (a_call {n = a} {p = b} i j m ns p q o xs s) d n found f l v e h =
        marks lim end (over item.Statements n) _ v i refl (plain lim end j refl (plain lim end m refl
        (reads_targets ns p q o xs s d 2 (name_in a ∷ name_in b ∷ []) (λ x. statements d (n + 1) (found ++ x ∷ []) f) l v refl h)))
    reads_stmt (a_cell_assignment {n = a} i j w o xs p x s) d n found f l v e h =
        marks lim end (over item.Statements n) _ v i refl (plain lim end j refl (the_word w refl
        (opens lim end d _ v o refl (reads_coordinates lim end xs (suc d) _ _ v (plain lim end p refl (expr_to x d _ l v s (omega arith) (plain lim end s refl h)))))))
    reads_stmt (an_if {ss = body} i o x c ss) d n found f l v e h =
        marks lim end (over item.Statements n) _ v i refl (opens lim end d _ v o refl (expr_to x (suc d) _ _ v c (omega arith) (plain lim end c refl
        (reads_block ss d (n + 1) _ l v (skip_else lim end _ e (told_count (omega (arith, among_is body)) h))))))
    reads_stmt (an_if_else {ss = body} {others = other} i o x c ss m others) d n found f l v e h =
        marks lim end (over item.Statements n) _ v i refl (opens lim end d _ v o refl (expr_to x (suc d) _ _ v c (omega arith) (plain lim end c refl
        (reads_block ss d (n + 1) _ _ v (plain lim end m refl
        (reads_block others d ((n + 1) + among body) _ l v (told_count (omega (arith, among_is body, among_is other)) h)))))))
    reads_stmt (a_for {a = lo} {b = hi} {ss = body} i o m p a q b c ss) d n found f l v e h =
        marks lim end (over item.Statements n) _ v i refl (opens lim end d _ v o refl (plain lim end m refl (plain lim end p refl
        (expr_to a (suc d) _ _ v q (omega arith) (plain lim end q refl (expr_to b (suc d) _ _ v c (omega arith) (plain lim end c refl
        (reads_block ss d (n + 1) _ l v (told_count (omega (arith, among_is body)) h)))))))))

    reads_block : {ss : List StmtTree} {all rest : List Token} (ss' : IsBlock ss all rest) (d n : ℕ) (f : List StmtTree → ℕ → Want) (l : List TooMany) (v : Verdict)
        → Gives lim end rest (f ss (n + among ss)) (caught lim l v)
        → Gives lim end all (block d n f) (caught lim (in_block d n ss' l) v)
    reads_block (a_block is ss) d n f l v h = opens lim end d _ v is refl (reads_stmts ss (suc d) n [] f l v h)

    pub reads_stmts : {ss : List StmtTree} {all rest : List Token} (ss' : IsStmts ss all rest) (d n : ℕ) (found : List StmtTree) (f : List StmtTree → ℕ → Want)
        (l : List TooMany) (v : Verdict) → Gives lim end rest (f (found ++ ss) (n + among ss)) (caught lim l v)
        → Gives lim end all (statements d n found f) (caught lim (in_stmts d n ss' l) v)
    reads_stmts {rest = rest} (no_stmt is) d n found f l v h = plain lim end is refl
        (subst (λ (m : ℕ). Gives lim end rest (f found m) (caught lim l v)) (omega arith)
        (subst (λ (a : List StmtTree). Gives lim end rest (f a (n + 0)) (caught lim l v)) (append-nil found) h))
    reads_stmts {rest = rest} (one_stmt {s = a} {ss = bs} s ss) d n found f l v h =
        reads_stmt s d n found f _ v (stmts_first ss) (reads_stmts ss d (n + statements_in a) (found ++ a ∷ []) f l v
        (subst (λ (m : ℕ). Gives lim end rest (f ((found ++ a ∷ []) ++ bs) m) (caught lim l v)) (omega arith)
        (subst (λ (b : List StmtTree). Gives lim end rest (f b (n + among (a ∷ bs))) (caught lim l v)) (sym (append_assoc found (a ∷ []) bs)) h)))
