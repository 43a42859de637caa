-- Reading a form reads what it spells.
use Rattle.std.proofs.Common.{◌≡◌, ℕ, suc, ◌≤◌, Bool, true, false, ◌&&◌, nat_le, List, [], ◌∷◌, ◌++◌, length, Some, None, refl, sym, ap, subst, arith, append_assoc, length-append}
use Rattle.std.proofs.lemmas.Bool.Decides.{nat_tests}
use Rattle.std.proofs.lemmas.List.{append-nil}
use Rattle.pb_syntax.specs.declared.token.Token.{Token}
use Rattle.pb_syntax.specs.declared.refusal.Item.TheVariants as item
use Rattle.pb_syntax.specs.declared.kind.TokenKind.TheVariants as k
use Rattle.pb_syntax.specs.declared.tree.form.TermText.{TermText}
use Rattle.pb_syntax.specs.Kinds.{name_in, number_in}
use Rattle.pb_syntax.specs.Forms.{FormValue}
use Rattle.pb_syntax.specs.Grammar.{IsTerm, number_term, name_term, multiple, fraction, IsTerms, no_terms, plus, minus, IsForm, plain_form, minus_form, IsDims, one_dim, two_dims}
use Rattle.pb_syntax.specs.Limits.{over, too_great, SizeNames, after_form, excess_of}
use Rattle.pb_syntax.specs.TooMany.{TooMany, in_term, in_terms, in_form, in_dims}
use Rattle.pb_grammar.specs.Want.{Want, divisor, term, more_terms, form, after_dim}
use Rattle.pb_grammar.specs.Reading.{take, step, taken_if, term_of, signed_form, Verdict}
use Rattle.pb_grammar.proofs.Steps.{caught, Ends, ends_at, Gives, plain, noted, skip_terms, skip_times, skip_quotient, took_begin, Takes, takes_by, counted_begin, same_step}

pub one_longer : {A : Type 0} (found : List A) (x : A) (n : ℕ) → length found ≡ n → length (found ++ x ∷ []) ≡ suc n
one_longer found x n e = omega (arith, e, length-append found (x ∷ []))

module _ (lim : Bool) (end : ℕ) where
  within : (q : ℕ) → 2 ≤ q → q ≤ 4 → (nat_le 2 q && nat_le q 4) ≡ true
  within q lo hi = grind (arith, nat_tests)

  divisor_step : (f : ℕ → Want) (t : Token) → 2 ≤ number_in t → number_in t ≤ 4 → step (divisor f) k.Number t ≡ take None (f (number_in t))
  divisor_step f t lo hi = ap (λ b. taken_if b (f (number_in t))) (within (number_in t) lo hi)

  pub reads_term : {m : Bool} {x : TermText} {all rest : List Token} (x' : IsTerm m x all rest) (f : TermText → Want) (l : List TooMany) (v : Verdict)
      → Ends 2 rest → Gives lim end rest (f x) (caught lim l v) → Gives lim end all (term m f) (caught lim (in_term x' l) v)
  reads_term (number_term {t = t} {rest = rest} is) f l v e h = noted lim end (too_great t) l v is refl (skip_times lim end rest e h)
  reads_term (name_term {rest = rest} is) f l v e h = plain lim end is refl (skip_quotient lim end rest e h)
  reads_term (multiple {t = t} is i j) f l v e h = noted lim end (too_great t) l v is refl (plain lim end i refl (plain lim end j refl h))
  reads_term (fraction {m = m} {n = n} {q = q} is i j lo hi) f l v e h =
      plain lim end is refl (plain lim end i refl (plain lim end j (divisor_step (λ a. f (term_of m 1 (Some (name_in n)) a)) q lo hi) h))

  takes_term : {m : Bool} {x : TermText} {all rest : List Token} (x' : IsTerm m x all rest) (f : TermText → Want) → Takes lim end all (term m f)
  takes_term (number_term is) f = takes_by lim end is refl
  takes_term (name_term is) f = takes_by lim end is refl
  takes_term (multiple is i j) f = takes_by lim end is refl
  takes_term (fraction is i j lo hi) f = takes_by lim end is refl

  terms_end : {xs : List TermText} {all rest : List Token} → IsTerms xs all rest → Ends 3 rest → Ends 2 all
  terms_end no_terms e = omega (arith, e)
  terms_end (plus {t = t} {all = all} is x xs) e = ends_at 2 t all is (omega arith)
  terms_end (minus {t = t} {all = all} is x xs) e = ends_at 2 t all is (omega arith)

  pub reads_terms : {xs : List TermText} {all rest : List Token} (n : ℕ) (xs' : IsTerms xs all rest) (found : List TermText) (f : List TermText → Want)
      (l : List TooMany) (v : Verdict) → length found ≡ n
      → Ends 3 rest → Gives lim end rest (f (found ++ xs)) (caught lim l v) → Gives lim end all (more_terms found f) (caught lim (in_terms n xs' l) v)
  reads_terms n (no_terms {rest = rest}) found f l v s e h =
      skip_terms lim end rest e (subst (λ (a : List TermText). Gives lim end rest (f a) (caught lim l v)) (append-nil found) h)
  reads_terms n (plus {x = a} {xs = bs} {rest = rest} is x xs) found f l v s e h =
      plain lim end is refl (counted_begin lim end item.Terms (length found) n s (took_begin lim end (over item.Terms n) _ v (takes_term x _)
      (reads_term x _ _ v (terms_end xs e) (reads_terms (suc n) xs (found ++ a ∷ []) f l v (one_longer found a n s) e
      (subst (λ (b : List TermText). Gives lim end rest (f b) (caught lim l v)) (sym (append_assoc found (a ∷ []) bs)) h)))))
  reads_terms n (minus {x = a} {xs = bs} {rest = rest} is x xs) found f l v s e h =
      plain lim end is refl (counted_begin lim end item.Terms (length found) n s (took_begin lim end (over item.Terms n) _ v (takes_term x _)
      (reads_term x _ _ v (terms_end xs e) (reads_terms (suc n) xs (found ++ a ∷ []) f l v (one_longer found a n s) e
      (subst (λ (b : List TermText). Gives lim end rest (f b) (caught lim l v)) (sym (append_assoc found (a ∷ []) bs)) h)))))

  as_term : {x : TermText} {all rest : List Token} {c : Verdict} (x' : IsTerm false x all rest) (f : FormValue → Want)
      → Gives lim end all (term false (signed_form false f)) c → Gives lim end all (form f) c
  as_term (number_term is) f h = same_step lim end is refl h
  as_term (name_term is) f h = same_step lim end is refl h
  as_term (multiple is i j) f h = same_step lim end is refl h
  as_term (fraction is i j lo hi) f h = same_step lim end is refl h

  pub reads_form : {x : FormValue} {all rest : List Token} (x' : IsForm x all rest) (f : FormValue → Want) (l : List TooMany) (v : Verdict)
      → Ends 3 rest → Gives lim end rest (f x) (caught lim l v) → Gives lim end all (form f) (caught lim (in_form x' l) v)
  reads_form (plain_form {x = a} x xs) f l v e h =
      as_term x f (reads_term x _ _ v (terms_end xs e) (reads_terms 1 xs (a ∷ []) _ l v refl e h))
  reads_form (minus_form {x = a} is x xs) f l v e h =
      plain lim end is refl (reads_term x _ _ v (terms_end xs e) (reads_terms 1 xs (a ∷ []) _ l v refl e h))

  pub takes_form : {x : FormValue} {all rest : List Token} (x' : IsForm x all rest) (f : FormValue → Want) → Takes lim end all (form f)
  takes_form (plain_form (number_term is) xs) f = takes_by lim end is refl
  takes_form (plain_form (name_term is) xs) f = takes_by lim end is refl
  takes_form (plain_form (multiple is i j) xs) f = takes_by lim end is refl
  takes_form (plain_form (fraction is i j lo hi) xs) f = takes_by lim end is refl
  takes_form (minus_form is x xs) f = takes_by lim end is refl

  -- the dimensions of a matrix, after its bracket
  pub reads_dims : {ds : List FormValue} {all rest : List Token} (known : SizeNames) (ds' : IsDims ds all rest) (f : List FormValue → Want) (l : List TooMany) (v : Verdict)
      → Gives lim end rest (f ds) (caught lim l v)
      → Gives lim end all (form (λ e. after_dim known e f)) (caught lim (in_dims known ds' l) v)
  reads_dims known (one_dim {x = x} {c = c} {rest = rest} d is) f l v h =
      reads_form d _ _ v (ends_at 3 c rest is (omega arith)) (noted lim end (excess_of known x) l v is refl h)
  reads_dims known (two_dims {x = x} {y = y} {m = m} {c = c} {mid = mid} {rest = rest} d is e i) f l v h =
      reads_form d _ _ v (ends_at 3 m mid is (omega arith)) (noted lim end (excess_of known x) _ v is refl
      (reads_form e _ _ v (ends_at 3 c rest i (omega arith)) (noted lim end (excess_of (after_form known x) y) l v i refl h)))
