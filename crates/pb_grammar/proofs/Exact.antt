-- What reading gives is exact.
use Rattle.std.proofs.Common.{◌≡◌, ℕ, suc, ◌<◌, ◌≤◌, true, false, ◌⊎◌, inl, inr, List, [], ◌∷◌, ◌++◌, length, Option, Some, None, refl, sym, ◌∙◌, ap, subst, arith, append_assoc, length-append}
use Rattle.std.proofs.lemmas.List.{append-nil}
use Rattle.pb_syntax.specs.declared.token.Token.{Token}
use Rattle.pb_syntax.specs.declared.refusal.Item.{Item}
use Rattle.pb_syntax.specs.declared.refusal.Item.TheVariants as item
use Rattle.pb_syntax.specs.declared.tree.view.ViewText.TheVariants as view
use Rattle.pb_syntax.specs.Kinds.{kind_of}
use Rattle.pb_syntax.specs.Exprs.{name, chained}
use Rattle.pb_syntax.specs.Stmts.{if_stmt, stmts}
use Rattle.pb_syntax.specs.Trees.{TransformTree}
use Rattle.pb_syntax.specs.Grammar.{no_comma, number_term, name_term, no_terms, whole, an_if, the_name, no_operand, a_sum, no_transforms, IsTerm, IsStmt, IsPrim, IsProgram}
use Rattle.pb_syntax.specs.Limits.{Excess}
use Rattle.pb_syntax.specs.TooMany.{TooMany, in_program}
use Rattle.pb_syntax.specs.Faults.{Begins, NoneGoesOn, place_or, FirstSeenIn, FirstIs, BadSyntaxAt, OverLimitAt, Accepted}
use Rattle.pb_grammar.specs.Want as w
use Rattle.pb_grammar.specs.Want.{Want, program}
use Rattle.pb_grammar.specs.Reading.{Step, take, refuse, step, term_of, Verdict, accepted, bad, too_many, finish, on_with, read}
use Rattle.pb_grammar.specs.Meaning.{Means}
use Rattle.pb_grammar.proofs.Steps.{caught}
use Rattle.pb_grammar.proofs.ProgramLaws.{reads_program}
use Rattle.pb_grammar.proofs.Spelled.{put, Spelled}
use Rattle.pb_grammar.proofs.Keeps.{spelled_program}
use Rattle.pb_grammar.proofs.Taken.{Kept, keeps}
use Rattle.pb_grammar.proofs.Endings.{completes}

-- what verdicts say
abbrev IsAccepted : Verdict → Type 0
IsAccepted (accepted t) = Unit {0}
IsAccepted _ = ⊥

abbrev IsBad : Verdict → Type 0
IsBad (bad l a) = Unit {0}
IsBad _ = ⊥

abbrev IsTooMany : Verdict → Type 0
IsTooMany (too_many x l a) = Unit {0}
IsTooMany _ = ⊥

abbrev tree_of : Verdict → List TransformTree
tree_of (accepted t) = t
tree_of _ = []

abbrev left_of : Verdict → ℕ
left_of (too_many x l a) = l
left_of _ = 0

abbrev at_of : Verdict → ℕ
at_of (too_many x l a) = a
at_of (bad l a) = a
at_of _ = 0

abbrev what_of : Verdict → Item
what_of (too_many x l a) = x
what_of _ = item.Number

-- a program is never read as bad
not_bad : (l : List TooMany) (t : List TransformTree) (c : Verdict) → caught true l (accepted t) ≡ c → IsBad c → ⊥
not_bad [] t c e b = subst IsBad (sym e) b
not_bad (x ∷ _) t c e b = subst IsBad (sym e) b

one_tree_at : {x y : List TransformTree} {ts : List Token} → IsProgram x ts → IsProgram y ts → x ≡ y
one_tree_at p q = ap tree_of (sym (reads_program false 0 p).is ∙ (reads_program false 0 q).is)

pub one_tree : (tokens : List Token) (x y : List TransformTree) → IsProgram x tokens → IsProgram y tokens → x ≡ y
one_tree tokens x y p q = one_tree_at p q

module _ (end : ℕ) where
  -- reading some first tokens passes them, or stops at one of them whatever is after it
  data Walk (v : Want) : List Token → Type 0 where
    passes : {ts : List Token} (next : Want) → ((others : List Token) → read end (ts ++ others) v ≡ read end others next)
        → ((others : List Token) (tree : List TransformTree) → Spelled next others tree → Spelled v (ts ++ others) tree) → Walk v ts
    refuses : {ts : List Token} (front : List Token) (t : Token) (rest : List Token) (next : Want) → ts ≡ front ++ t ∷ rest → step next (kind_of t) t ≡ refuse
        → ((others : List Token) → read end (front ++ others) v ≡ read end others next)
        → ((others : List Token) (tree : List TransformTree) → Spelled next others tree → Spelled v (front ++ others) tree) → Walk v ts
    exceeds : {ts : List Token} (front : List Token) (t : Token) (rest : List Token) (x : Excess) (next : Want) → ts ≡ front ++ t ∷ rest
        → ((others : List Token) → read end (front ++ t ∷ others) v ≡ too_many x.what (suc (length others)) x.at)
        → ((others : List Token) (tree : List TransformTree) → Spelled next others tree → Spelled v (front ++ t ∷ others) tree) → Walk v ts

  spelled_on : {next : Want} {m : Option Excess} (v : Want) (t : Token) → step v (kind_of t) t ≡ take m next
      → (others : List Token) (tree : List TransformTree) → Spelled next others tree → Spelled v (t ∷ others) tree
  spelled_on v t e others tree = subst (λ (s : Step). Kept tree s v t) e (keeps tree v (kind_of t) t refl) others

  read_on : {s : Step} (v : Want) (t : Token) (ts : List Token) → step v (kind_of t) t ≡ s
      → read end (t ∷ ts) v ≡ on_with true s (length (t ∷ ts)) t.at (read end ts)
  read_on v t ts e = ap (λ (s : Step). on_with true s (length (t ∷ ts)) t.at (read end ts)) e

  walk : (ts : List Token) (v : Want) → Walk v ts
  walk [] v = passes v (λ others. refl) (λ others tree s. s)
  walk (t ∷ ts) v = go (step v (kind_of t) t) refl (λ next. walk ts next)
    where
      on_from : (next : Want) → step v (kind_of t) t ≡ take None next → Walk next ts → Walk v (t ∷ ts)
      on_from next e (passes last same spelled) = passes last (λ others. read_on v t (ts ++ others) e ∙ same others)
          (λ others tree s. spelled_on v t e (ts ++ others) tree (spelled others tree s))
      on_from next e (refuses front u rest last parts r same spelled) = refuses (t ∷ front) u rest last (ap (λ l. t ∷ l) parts) r
          (λ others. read_on v t (front ++ others) e ∙ same others) (λ others tree s. spelled_on v t e (front ++ others) tree (spelled others tree s))
      on_from next e (exceeds front u rest x last parts same spelled) = exceeds (t ∷ front) u rest x last (ap (λ l. t ∷ l) parts)
          (λ others. read_on v t (front ++ u ∷ others) e ∙ same others) (λ others tree s. spelled_on v t e (front ++ u ∷ others) tree (spelled others tree s))

      go : (s : Step) → step v (kind_of t) t ≡ s → ((next : Want) → Walk next ts) → Walk v (t ∷ ts)
      go (take None next) e further = on_from next e (further next)
      go (take (Some x) next) e further = exceeds [] t ts x next refl (λ others. read_on v t others e) (λ others tree s. spelled_on v t e others tree s)
      go refuse e further = refuses [] t ts v refl e (λ others. refl) (λ others tree s. s)

  -- at the end of the text
  abbrev Finished : Want → Verdict → Type 0
  Finished v (accepted tree) = Spelled v [] tree
  Finished v (bad l a) = a ≡ end
  Finished v (too_many x l a) = ⊥

  finished_on : (v next : Want) (c : Verdict) → ((tree : List TransformTree) → Spelled next [] tree → Spelled v [] tree) → Finished next c → Finished v c
  finished_on v next (accepted tree) g h = g tree h
  finished_on v next (bad l a) g h = h
  finished_on v next (too_many x l a) g h = h

  finished : (v : Want) → Finished v (finish end v)
  finished (w.more_transforms ts) = ([], (no_transforms, sym (append-nil ts)))
  finished (w.begin m v) = finished_on (w.begin m v) v (finish end v) (λ tree s. s) (finished v)
  finished (w.more_decls n from ds f) = finished_on (w.more_decls n from ds f) (f ds) (finish end (f ds))
      (λ tree s. (put [] [] no_comma (subst (λ b. Spelled (f b) [] tree) (sym (append-nil ds)) s))) (finished (f ds))
  finished (w.view_or_none f) = finished_on (w.view_or_none f) (f view.Whole) (finish end (f view.Whole)) (λ tree s. (put view.Whole [] whole s)) (finished (f view.Whole))
  finished (w.times m n f) = finished_on (w.times m n f) (f (term_of m n None 0)) (finish end (f (term_of m n None 0)))
      (λ tree s. (put (term_of m n None 0) [] (λ u i e. subst (λ a. IsTerm m (term_of m a None 0) (u ∷ []) []) e (number_term i)) s)) (finished (f (term_of m n None 0)))
  finished (w.quotient m n f) = finished_on (w.quotient m n f) (f (term_of m 1 (Some n) 0)) (finish end (f (term_of m 1 (Some n) 0)))
      (λ tree s. (put (term_of m 1 (Some n) 0) [] (λ u i e. subst (λ a. IsTerm m (term_of m 1 (Some a) 0) (u ∷ []) []) e (name_term i)) s)) (finished (f (term_of m 1 (Some n) 0)))
  finished (w.more_terms xs f) = finished_on (w.more_terms xs f) (f xs) (finish end (f xs))
      (λ tree s. (put [] [] no_terms (subst (λ b. Spelled (f b) [] tree) (sym (append-nil xs)) s))) (finished (f xs))
  finished (w.otherwise d n at e ss f) = finished_on (w.otherwise d n at e ss f) (f (if_stmt at e (stmts ss)) n) (finish end (f (if_stmt at e (stmts ss)) n))
      (λ tree s. (put (if_stmt at e (stmts ss)) [] (λ u o c all mid i ea j x q body. subst (λ a. IsStmt (if_stmt a e (stmts ss)) (u ∷ o ∷ all) []) ea (an_if i j x q body)) (n, s)))
      (finished (f (if_stmt at e (stmts ss)) n))
  finished (w.after_name d n f) = finished_on (w.after_name d n f) (f (name n)) (finish end (f (name n)))
      (λ tree s. (put (name n) [] (λ u i e. subst (λ a. IsPrim (name a) (u ∷ []) []) e (the_name i)) s)) (finished (f (name n)))
  finished (w.more_operands p d x xs f) = finished_on (w.more_operands p d x xs f) (f (chained p x xs)) (finish end (f (chained p x xs)))
      (λ tree s. (put [] [] no_operand (subst (λ b. Spelled (f (chained p x b)) [] tree) (sym (append-nil xs)) s))) (finished (f (chained p x xs)))
  finished (w.comparison d e f) = finished_on (w.comparison d e f) (f e) (finish end (f e)) (λ tree s. (put e [] (λ all a. a_sum a) s)) (finished (f e))
  finished _ = refl

  begins_on : (front : List Token) (next : Want) → ((others : List Token) (tree : List TransformTree) → Spelled next others tree → Spelled program (front ++ others) tree) → Begins front
  begins_on front next spelled = let e = completes next in
      record { others = e.tokens; tree = e.tree; program = spelled_program e.tree (front ++ e.tokens) (spelled e.tokens e.tree e.spelled) }

  -- an item too many is seen at one of the tokens
  seen_within : (ts : List Token) (v : Want) (c : Verdict) → read end ts v ≡ c → IsTooMany c → left_of c ≤ length ts
  seen_within ts v c e is = go (walk ts v)
    where
      go : Walk v ts → left_of c ≤ length ts
      go (passes next same spelled) = at_end (finish end next) (finished next)
          (sym (ap (λ l. read end l v) (append-nil ts)) ∙ same [])
        where
          at_end : (d : Verdict) → Finished next d → read end ts v ≡ d → left_of c ≤ length ts
          at_end (accepted tree) h q = absurd (subst IsTooMany (sym e ∙ q) is)
          at_end (bad l a) h q = absurd (subst IsTooMany (sym e ∙ q) is)
          at_end (too_many x l a) h q = absurd h
      go (refuses front t rest next parts r same spelled) =
          absurd (subst IsTooMany (sym e ∙ ap (λ l. read end l v) parts ∙ same (t ∷ rest) ∙ read_on next t rest r) is)
      go (exceeds front t rest x next parts same spelled) =
          omega (arith, ap left_of (sym e ∙ ap (λ l. read end l v) parts ∙ same rest), ap length parts, length-append front (t ∷ rest))

  first_seen : (l : List TooMany) (others : List Token) (tree : List TransformTree) (next : Want) → caught true l (accepted tree) ≡ read end others next → FirstSeenIn others l
  first_seen [] others tree next e = tt
  first_seen (x ∷ _) others tree next e = seen_within others next (too_many x.what x.left x.at) (sym e) tt

  first_is : (l : List TooMany) (others : List Token) (tree : List TransformTree) (x : Excess) → caught true l (accepted tree) ≡ too_many x.what (suc (length others)) x.at
      → FirstIs x.what x.at others l
  first_is [] others tree x e = absurd (subst IsAccepted e tt)
  first_is (y ∷ _) others tree x e = (ap what_of e, ap at_of e, omega (arith, ap left_of e))

  read_of : {tree : List TransformTree} {ts : List Token} (p : IsProgram tree ts) → caught true (in_program p) (accepted tree) ≡ read end ts program
  read_of p = sym (reads_program true end p).is

  -- what reading gives, and what that says
  pub data Answer (ts : List Token) : Type 0 where
    good : (tree : List TransformTree) → read end ts program ≡ accepted tree → Accepted tree ts → Answer ts
    faulty : (left at : ℕ) → read end ts program ≡ bad left at → BadSyntaxAt ts end at → Answer ts
    excess : (what : Item) (left at : ℕ) → read end ts program ≡ too_many what left at → OverLimitAt ts what at → Answer ts

  nothing_caught : (l : List TooMany) (tree other : List TransformTree) → caught true l (accepted tree) ≡ accepted other → l ≡ []
  nothing_caught [] tree other e = refl
  nothing_caught (x ∷ _) tree other e = absurd (subst IsTooMany e tt)

  pub answer : (ts : List Token) → Answer ts
  answer ts = go (walk ts program)
    where
      go : Walk program ts → Answer ts
      go (passes next same spelled) = at_end (finish end next) (finished next) (ap (λ l. read end l program) (sym (append-nil ts)) ∙ same [])
        where
          at_end : (d : Verdict) → Finished next d → read end ts program ≡ d → Answer ts
          at_end (accepted tree) h q =
              let p = subst (λ l. IsProgram tree l) (append-nil ts) (spelled_program tree (ts ++ []) (spelled [] tree h)) in
              good tree q (p, nothing_caught (in_program p) tree tree (read_of p ∙ q))
          at_end (bad l a) h q = faulty l a q (record {
            front = ts;
            rest = [];
            parts = sym (append-nil ts);
            place = h;
            before = begins_on ts next spelled;
            none = λ tree p. not_bad (in_program p) tree (bad l a) (read_of p ∙ q) tt;
            few = λ tree others p. first_seen (in_program p) others tree next (read_of p ∙ same others);
          })
          at_end (too_many x l a) h q = absurd h
      go (refuses front t rest next parts r same spelled) =
          faulty (length (t ∷ rest)) t.at (ap (λ l. read end l program) parts ∙ same (t ∷ rest) ∙ read_on next t rest r)
          (record {
            front = front;
            rest = t ∷ rest;
            parts = parts;
            place = refl;
            before = begins_on front next spelled;
            none = λ tree others p. not_bad (in_program p) tree (bad (length (t ∷ others)) t.at) (read_of p ∙ same (t ∷ others) ∙ read_on next t others r) tt;
            few = λ tree others p. first_seen (in_program p) others tree next (read_of p ∙ same others);
          })
      go (exceeds front t rest x next parts same spelled) =
          let seam = λ (others : List Token). append_assoc front (t ∷ []) others in
          excess x.what (suc (length rest)) x.at (ap (λ l. read end l program) parts ∙ same rest)
          (record {
            front = front ++ t ∷ [];
            rest = rest;
            parts = parts ∙ sym (seam rest);
            before = begins_on (front ++ t ∷ []) next (λ others tree s. subst (λ l. Spelled program l tree) (sym (seam others)) (spelled others tree s));
            first = λ tree others p. first_is (in_program p) others tree x (read_of p ∙ ap (λ l. read end l program) (seam others) ∙ same others);
          })

  split : (front : List Token) (t : Token) (rest others : List Token) (ts : List Token) → ts ≡ front ++ t ∷ rest → ts ++ others ≡ front ++ t ∷ (rest ++ others)
  split front t rest others ts e = ap (λ l. l ++ others) e ∙ append_assoc front (t ∷ rest) others

  not_over : (l : List TooMany) (others : List Token) (tree : List TransformTree) (x : Item) (n at : ℕ) → FirstSeenIn others l → length others < n
      → caught true l (accepted tree) ≡ too_many x n at → ⊥
  not_over [] others tree x n at h more e = subst IsAccepted e tt
  not_over (y ∷ _) others tree x n at h more e = omega (arith, ap left_of e, h, more)

  bad_reads : (ts : List Token) (at : ℕ) (b : BadSyntaxAt ts end at) (c : Verdict) → read end ts program ≡ c → (IsBad c × (at_of c ≡ at))
  bad_reads ts at b c q = go (walk b.front program)
    where
      p : IsProgram b.before.tree (b.front ++ b.before.others)
      p = b.before.program

      from_end : (next : Want) → ((others : List Token) (tree : List TransformTree) → Spelled next others tree → Spelled program (b.front ++ others) tree)
          → (rest : List Token) → NoneGoesOn b.front rest → at ≡ place_or end rest → c ≡ read end rest next → (IsBad c × (at_of c ≡ at))
      from_end next spelled [] none place e = finite (finish end next) (finished next) e
        where
          finite : (d : Verdict) → Finished next d → c ≡ d → (IsBad c × (at_of c ≡ at))
          finite (accepted tree) h i = absurd (none tree (subst (λ l. IsProgram tree l) (append-nil b.front) (spelled_program tree (b.front ++ []) (spelled [] tree h))))
          finite (bad l a) h i = (subst IsBad (sym i) tt, ap at_of i ∙ h ∙ sym place)
          finite (too_many x l a) h i = absurd h
      from_end next spelled (t ∷ rest) none place e = stepped (step next (kind_of t) t) refl
        where
          stepped : (s : Step) → step next (kind_of t) t ≡ s → (IsBad c × (at_of c ≡ at))
          stepped (take m after) i = let r = completes after in
              absurd (none r.tree r.tokens (spelled_program r.tree (b.front ++ t ∷ r.tokens) (spelled (t ∷ r.tokens) r.tree (spelled_on next t i r.tokens r.tree r.spelled))))
          stepped refuse i = let z = e ∙ read_on next t rest i in (subst IsBad (sym z) tt, ap at_of z ∙ sym place)

      go : Walk program b.front → (IsBad c × (at_of c ≡ at))
      go (passes next same spelled) = from_end next spelled b.rest b.none b.place (sym q ∙ ap (λ l. read end l program) b.parts ∙ same b.rest)
      go (refuses f t r next parts z same spelled) =
          absurd (not_bad (in_program p) b.before.tree (bad (length (t ∷ r ++ b.before.others)) t.at)
          (read_of p ∙ ap (λ l. read end l program) (split f t r b.before.others b.front parts) ∙ same (t ∷ r ++ b.before.others) ∙ read_on next t (r ++ b.before.others) z) tt)
      go (exceeds f t r x next parts same spelled) =
          absurd (not_over (in_program p) b.before.others b.before.tree x.what (suc (length (r ++ b.before.others))) x.at (b.few b.before.tree b.before.others p)
          (omega (arith, length-append r b.before.others)) (read_of p ∙ ap (λ l. read end l program) (split f t r b.before.others b.front parts) ∙ same (r ++ b.before.others)))

  over_reads : (ts : List Token) (what : Item) (at : ℕ) (o : OverLimitAt ts what at) (c : Verdict) → read end ts program ≡ c
      → (IsTooMany c × (what_of c ≡ what) × (at_of c ≡ at))
  over_reads ts what at o c q = go (walk o.front program) (in_program p) (o.first o.before.tree o.before.others p) (read_of p)
    where
      p : IsProgram o.before.tree (o.front ++ o.before.others)
      p = o.before.program

      go : Walk program o.front → (l : List TooMany) → FirstIs what at o.before.others l
          → caught true l (accepted o.before.tree) ≡ read end (o.front ++ o.before.others) program → (IsTooMany c × (what_of c ≡ what) × (at_of c ≡ at))
      go walked [] h e = absurd h
      go (passes next same spelled) (y ∷ _) h e =
          absurd (omega (arith, h.2, seen_within o.before.others next (too_many y.what y.left y.at) (sym (e ∙ same o.before.others)) tt))
      go (refuses f t r next parts z same spelled) (y ∷ _) h e =
          absurd (subst IsTooMany (e ∙ ap (λ l. read end l program) (split f t r o.before.others o.front parts) ∙ same (t ∷ r ++ o.before.others)
          ∙ read_on next t (r ++ o.before.others) z) tt)
      go (exceeds f t r x next parts same spelled) (y ∷ _) h e =
          let d = e ∙ ap (λ l. read end l program) (split f t r o.before.others o.front parts) ∙ same (r ++ o.before.others) in
          let z = sym q ∙ ap (λ l. read end l program) (o.parts ∙ split f t r o.rest o.front parts) ∙ same (r ++ o.rest) in
          (subst IsTooMany (sym z) tt, ap what_of z ∙ sym (ap what_of d) ∙ h.0, ap at_of z ∙ sym (ap at_of d) ∙ h.1)

-- what reading gives is exact
pub read_means : (end : ℕ) (ts : List Token) → Means ts end (read end ts program)
read_means end ts = go (answer end ts)
  where
    go : Answer end ts → Means ts end (read end ts program)
    go (good tree q a) = subst (Means ts end) (sym q) a
    go (faulty left at q b) = subst (Means ts end) (sym q) b
    go (excess what left at q o) = subst (Means ts end) (sym q) o

-- a list of tokens has one of three answers
apart : (c : Verdict) → IsBad c → IsTooMany c → ⊥
apart (accepted t) b m = b
apart (bad l a) b m = m
apart (too_many w l a) b m = b

pub some_answer : (ts : List Token) (end : ℕ) → ((tree : List TransformTree) × Accepted tree ts)
    ⊎ (((at : ℕ) × BadSyntaxAt ts end at) ⊎ ((what : Item) × (at : ℕ) × OverLimitAt ts what at))
some_answer ts end = go (answer end ts)
  where
    go : Answer end ts → ((tree : List TransformTree) × Accepted tree ts) ⊎ (((at : ℕ) × BadSyntaxAt ts end at) ⊎ ((what : Item) × (at : ℕ) × OverLimitAt ts what at))
    go (good tree q a) = inl (tree, a)
    go (faulty left at q b) = inr (inl (at, b))
    go (excess what left at q o) = inr (inr (what, at, o))

pub one_place : (ts : List Token) (end at other : ℕ) → BadSyntaxAt ts end at → BadSyntaxAt ts end other → at ≡ other
one_place ts end at other b c = sym (bad_reads end ts at b (read end ts program) refl).1 ∙ (bad_reads end ts other c (read end ts program) refl).1

pub one_item : (ts : List Token) (what other : Item) (at place : ℕ) → OverLimitAt ts what at → OverLimitAt ts other place → (what ≡ other) × (at ≡ place)
one_item ts what other at place o p =
    let a = over_reads 0 ts what at o (read 0 ts program) refl in
    let b = over_reads 0 ts other place p (read 0 ts program) refl in
    (sym a.1 ∙ b.1, sym a.2 ∙ b.2)

pub not_both : (ts : List Token) (end at : ℕ) (what : Item) (place : ℕ) → BadSyntaxAt ts end at → OverLimitAt ts what place → ⊥
not_both ts end at what place b o =
    apart (read end ts program) (bad_reads end ts at b (read end ts program) refl).0 (over_reads end ts what place o (read end ts program) refl).0

pub no_bad_program : (ts : List Token) (end at : ℕ) (tree : List TransformTree) → BadSyntaxAt ts end at → Accepted tree ts → ⊥
no_bad_program ts end at tree b a = not_bad (in_program a.0) tree (read end ts program) (read_of end a.0) (bad_reads end ts at b (read end ts program) refl).0

pub no_large_program : (ts : List Token) (what : Item) (at : ℕ) (tree : List TransformTree) → OverLimitAt ts what at → Accepted tree ts → ⊥
no_large_program ts what at tree o a =
    let e : accepted tree ≡ read 0 ts program = ap (λ l. caught true l (accepted tree)) (sym a.1) ∙ read_of 0 a.0 in
    subst IsTooMany (sym e) (over_reads 0 ts what at o (read 0 ts program) refl).0
