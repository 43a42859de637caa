-- The statements of a plan, one after the other, and what is known after them.
use Rattle.std.proofs.Common.{min, take, ◌-◌, length-drop, ◌≡◌, ℕ, zero, suc, ◌+◌, ◌<◌, ◌≤◌, true, List, [], ◌∷◌, ◌++◌, Option, Some, None, length, get_or, set, map, drop, slice_get, refl, ap, ◌∙◌, sym, arith, add-one, append_assoc}
use Rattle.std.proofs.Math.Seq.{drop-cons, take-length}
use Rattle.std.proofs.lemmas.List.{drop_all, drop_min}
use Rattle.std.proofs.lemmas.Option.{slice_get-map}
use Rattle.std.specs.Option.{option_map}
use Rattle.pb_program.specs.declared.expression.Expr.{Expr}
use Rattle.pb_program.specs.declared.meaning.Named.{Named}
use Rattle.pb_program.specs.declared.statement.Stmt.{Stmt}
use Rattle.pb_program.specs.Exprs.{bare}
use Rattle.pb_program.specs.Forms.{DeclValue}
use Rattle.pb_program.specs.Transforms.{TransformValue}
use Rattle.pb_program.specs.Trees.{ProgTransform, bare_transform}
use Rattle.pb_types.specs.declared.known.Target.{Target}
use Rattle.pb_types.specs.Least.{unless, least, least_of}
use Rattle.pb_types.specs.Plans.{Known, made_at, is_free, make, make_all, targets_broken, argument_misfit, numbered, takes, gives, never_made}
use Rattle.pb_types.specs.Working.{argument_in, arguments_in, step_in, after_in, steps_in}
use Rattle.pb_types.proofs.LeastLemmas.{least_none, least_assoc, least_alone, least_append}

pub made_within : (ts : List Target) (i : ℕ) (t d : Target) → i < length ts → t ≡ record (get_or ts i d) { made = true } → set ts i t ≡ made_at ts i
made_within [] i t d within is = absurd (omega arith)
made_within (x ∷ ts) zero t d within is = ap (λ y. y ∷ ts) is
made_within (x ∷ ts) (suc i) t d within is = ap (λ ys. x ∷ ys) (made_within ts i t d (omega arith) is)

pub made_past : (ts : List Target) (i : ℕ) → length ts ≤ i → ts ≡ made_at ts i
made_past [] i past = refl
made_past (x ∷ ts) zero past = absurd (omega arith)
made_past (x ∷ ts) (suc i) past = ap (λ ys. x ∷ ys) (made_past ts i (omega arith))

left_at : {A : Type 0} (xs : List A) (i : ℕ) (d : A) → i < length xs → drop i xs ≡ get_or xs i d ∷ drop (i + 1) xs
left_at xs i d within = rw (add-one, drop-cons xs i d) refl

module _ (k first : Known) (ns : List Named) (i : ℕ) where
  module _ (d : Named) (within : i < length ns) (u : Known) (made : u ≡ make k (get_or ns i d).what) where
    pub targets_next : (found next : Option ℕ) → least found (least_of (targets_broken k (drop i ns))) ≡ least_of (targets_broken first ns)
        → next ≡ least_of (unless (is_free k (get_or ns i d).what) (get_or ns i d).at) → least (least found next) (least_of (targets_broken u (drop (i + 1) ns))) ≡ least_of (targets_broken first ns)
    targets_next found next before is =
        sym (least_assoc found next (least_of (targets_broken u (drop (i + 1) ns))))
        ∙ ap (λ z. least found (least next (least_of (targets_broken z (drop (i + 1) ns))))) made
        ∙ ap (λ m. least found (least m (least_of (targets_broken (make k (get_or ns i d).what) (drop (i + 1) ns))))) is
        ∙ ap (least found) (sym (least_append (unless (is_free k (get_or ns i d).what) (get_or ns i d).at) (targets_broken (make k (get_or ns i d).what) (drop (i + 1) ns))))
        ∙ ap (λ l. least found (least_of (targets_broken k l))) (sym (left_at ns i d within)) ∙ before

    pub made_next : make_all k (drop i ns) ≡ make_all first ns → make_all u (drop (i + 1) ns) ≡ make_all first ns
    made_next before = ap (λ z. make_all z (drop (i + 1) ns)) made ∙ ap (make_all k) (sym (left_at ns i d within)) ∙ before

  pub targets_end : (found : Option ℕ) → least found (least_of (targets_broken k (drop i ns))) ≡ least_of (targets_broken first ns)
      → length ns ≤ i → found ≡ least_of (targets_broken first ns)
  targets_end found before end = sym (least_alone found) ∙ ap (least found) (sym least_none ∙ ap (λ l. least_of (targets_broken k l)) (sym (drop_all i ns end))) ∙ before

  pub made_end : make_all k (drop i ns) ≡ make_all first ns → length ns ≤ i → k ≡ make_all first ns
  made_end made end = ap (make_all k) (sym (drop_all i ns end)) ∙ made

pub mapped_next : {A B : Type 0} (f : A → B) (old new : List B) (xs : List A) (i : ℕ) (x : A) → old ++ map f (drop i xs) ≡ map f xs → new ≡ old ++ f x ∷ []
    → i < length xs → x ≡ get_or xs i x → new ++ map f (drop (i + 1) xs) ≡ map f xs
mapped_next f old new xs i x before put within here =
    ap (λ l. l ++ map f (drop (i + 1) xs)) put ∙ append_assoc old (f x ∷ []) (map f (drop (i + 1) xs)) ∙ ap (λ y. old ++ f y ∷ map f (drop (i + 1) xs)) here ∙ ap (λ l. old ++ map f l) (sym (left_at xs i x within)) ∙ before

-- a list whose items have numbers
module _ {A : Type 0} (places : ℕ → A → List ℕ) (xs : List A) (i : ℕ) where
  pub numbered_at : (d : A) (found next : Option ℕ) → least found (least_of (numbered places i (drop i xs))) ≡ least_of (numbered places 0 xs)
      → next ≡ least_of (places i (get_or xs i d)) → i < length xs
      → least (least found next) (least_of (numbered places (i + 1) (drop (i + 1) xs))) ≡ least_of (numbered places 0 xs)
  numbered_at d found next before is within =
      sym (least_assoc found next (least_of (numbered places (i + 1) (drop (i + 1) xs)))) ∙ ap (λ n. least found (least n (least_of (numbered places (i + 1) (drop (i + 1) xs))))) is
      ∙ ap (least found) (sym (least_append (places i (get_or xs i d)) (numbered places (i + 1) (drop (i + 1) xs)))
      ∙ ap (λ l. least_of (numbered places i l)) (sym (left_at xs i d within))) ∙ before

  pub numbered_next : (x : A) (found next : Option ℕ) → least found (least_of (numbered places i (drop i xs))) ≡ least_of (numbered places 0 xs)
      → next ≡ least_of (places i x) → i < length xs → x ≡ get_or xs i x
      → least (least found next) (least_of (numbered places (i + 1) (drop (i + 1) xs))) ≡ least_of (numbered places 0 xs)
  numbered_next x found next before is within here = numbered_at x found next before (is ∙ ap (λ y. least_of (places i y)) here) within

  pub numbered_end : (found : Option ℕ) → least found (least_of (numbered places i (drop i xs))) ≡ least_of (numbered places 0 xs) → length xs ≤ i
      → found ≡ least_of (numbered places 0 xs)
  numbered_end found before end =
      sym (least_alone found) ∙ ap (least found) (sym least_none ∙ ap (λ l. least_of (numbered places i l)) (sym (drop_all i xs end))) ∙ before

arguments_from : (k : Known) (takes : List DeclValue) (i : ℕ) (xs : List Expr) → numbered (argument_misfit k takes) i (map bare xs) ≡ numbered (argument_in k takes) i xs
unfolding argument_in
arguments_from k takes i [] = refl
arguments_from k takes i (x ∷ xs) = ap (λ rest. argument_in k takes i x ++ rest) (arguments_from k takes (i + 1) xs)

pub arguments_listed : (k : Known) (takes : List DeclValue) (xs : List Expr) → arguments_in k takes xs ≡ numbered (argument_in k takes) 0 xs
unfolding arguments_in
arguments_listed k takes xs = arguments_from k takes 0 xs

pub given : {A : Type 0} (m n : ℕ) (xs : List A) → m ≡ min n (length xs) → take (length xs - m) (drop m xs) ≡ drop n xs
given m n xs is = ap (λ i. take i (drop m xs)) (sym (length-drop m xs)) ∙ take-length (drop m xs) ∙ ap (λ i. drop i xs) is ∙ drop_min n xs

-- the matrices of a called transform
module _ (ts : List TransformValue) (n : ℕ) where
  pub takes_none : slice_get ts n ≡ None → [] ≡ takes (slice_get (map bare_transform ts) n)
  takes_none h = sym (ap (λ t. takes (option_map bare_transform t)) h) ∙ ap takes (sym (slice_get-map bare_transform ts n))

  pub takes_some : (t : TransformValue) → slice_get ts n ≡ Some t → take t.inputs t.matrices ≡ takes (slice_get (map bare_transform ts) n)
  takes_some t h = sym (ap (λ t. takes (option_map bare_transform t)) h) ∙ ap takes (sym (slice_get-map bare_transform ts n))

  pub gives_none : slice_get ts n ≡ None → [] ≡ gives (slice_get (map bare_transform ts) n)
  gives_none h = sym (ap (λ t. gives (option_map bare_transform t)) h) ∙ ap gives (sym (slice_get-map bare_transform ts n))

  pub gives_some : (t : TransformValue) → slice_get ts n ≡ Some t → drop (t.inputs + t.middles) t.matrices ≡ gives (slice_get (map bare_transform ts) n)
  gives_some t h = sym (ap (λ t. gives (option_map bare_transform t)) h) ∙ ap gives (sym (slice_get-map bare_transform ts n))

-- the statements of a plan
module _ (ts : List ProgTransform) (k first : Known) (ss : List Stmt) (i : ℕ) where
  pub steps_next : (x : Stmt) (u : Known) (found next : Option ℕ) → least found (least_of (steps_in ts k (drop i ss))) ≡ least_of (steps_in ts first ss)
      → next ≡ least_of (step_in ts k x) → u ≡ after_in k x → i < length ss → x ≡ get_or ss i x
      → least (least found next) (least_of (steps_in ts u (drop (i + 1) ss))) ≡ least_of (steps_in ts first ss)
  unfolding step_in after_in steps_in
  steps_next x u found next before is after within here =
      ap (λ z. least (least found next) (least_of (steps_in ts z (drop (i + 1) ss)))) after
      ∙ sym (least_assoc found next (least_of (steps_in ts (after_in k x) (drop (i + 1) ss))))
      ∙ ap (λ n. least found (least n (least_of (steps_in ts (after_in k x) (drop (i + 1) ss))))) is
      ∙ ap (least found) (sym (least_append (step_in ts k x) (steps_in ts (after_in k x) (drop (i + 1) ss))))
      ∙ ap (λ l. least found (least_of (steps_in ts k l))) (ap (λ y. y ∷ drop (i + 1) ss) here ∙ sym (left_at ss i x within)) ∙ before

  pub steps_end : (found : Option ℕ) → least found (least_of (steps_in ts k (drop i ss))) ≡ least_of (steps_in ts first ss) → length ss ≤ i
      → least found (least_of (never_made k)) ≡ least_of (steps_in ts first ss)
  unfolding steps_in
  steps_end found before end = ap (λ l. least found (least_of (steps_in ts k l))) (sym (drop_all i ss end)) ∙ before
