-- Tokens that are written one after the other.
use Rattle.std.proofs.Common.{◌≡◌, ℕ, zero, suc, add-one, ◌+◌, Bool, true, false, List, [], ◌∷◌, ◌++◌, length, get_or, drop, ◌<◌, ◌≤◌, refl, ap, sym, subst, Result, OnOk, ◌∙◌, arith}
use Rattle.std.proofs.lemmas.List.{append_assoc, append-nil, drop_more, drop_all}
use Rattle.pb_syntax.specs.declared.tree.expression.Relation.{Relation}
use Rattle.pb_syntax.specs.declared.tree.expression.Relation.TheVariants as relation
use Rattle.pb_syntax.specs.declared.tree.form.TermText.{TermText}
use Rattle.pb_prog.specs.Canonical.{indentation, layout}
use Rattle.pb_prog.specs.Spelling.{Written, sign_at, term_sign, relation_sign, word, comma, in_order, after_commas, with_commas, after_keyword, term_tokens, next_term_tokens, sum_tokens}
use Rattle.pb_prog.specs.Writing.{WriterValue, put, puts, comma_unless, commas_from, sign_unless, terms_from}

indentation_suc : (n : ℕ) → indentation (suc n) ≡ indentation n ++ (32 ∷ 32 ∷ [])
indentation_suc zero = refl
indentation_suc (suc n) = ap (λ bs. 32 ∷ 32 ∷ bs) (indentation_suc n)

pub indentation_more : (text : List ℕ) (n : ℕ) → text ++ indentation (n + 1) ≡ (text ++ indentation n) ++ (32 ∷ 32 ∷ [])
indentation_more text n = rw (add-one, indentation_suc n) (sym (append_assoc text (indentation n) (32 ∷ 32 ∷ [])))

pub relation_listed : (r : Relation) → relation_sign r < 25
relation_listed relation.Less = omega arith
relation_listed relation.LessOrEqual = omega arith
relation_listed relation.Greater = omega arith
relation_listed relation.GreaterOrEqual = omega arith
relation_listed relation.Equal = omega arith
relation_listed relation.Unequal = omega arith

pub puts_append : (w : WriterValue) (xs ys : List Written) → puts w (xs ++ ys) ≡ puts (puts w xs) ys
puts_append w [] ys = refl
puts_append w (x ∷ xs) ys = puts_append (put w x) xs ys

-- tokens that are put in two or three steps
pub two_steps : {E : Type 0} (r : Result (Unit {0}) E) (w v u : WriterValue) (xs ys all : List Written)
    → all ≡ xs ++ ys → v ≡ puts w xs → OnOk r (u ≡ puts v ys) → OnOk r (u ≡ puts w all)
two_steps r w v u xs ys all is first ok = subst (λ z. OnOk r (u ≡ z)) (ap (λ v. puts v ys) first ∙ sym (puts_append w xs ys) ∙ ap (puts w) (sym is)) ok

pub three_steps : {E : Type 0} (r : Result (Unit {0}) E) (w v₁ v₂ u : WriterValue) (xs ys zs all : List Written)
    → all ≡ xs ++ (ys ++ zs) → v₁ ≡ puts w xs → v₂ ≡ puts v₁ ys → OnOk r (u ≡ puts v₂ zs) → OnOk r (u ≡ puts w all)
three_steps r w v₁ v₂ u xs ys zs all is first second ok = two_steps r w v₁ u xs (ys ++ zs) all is first (two_steps r v₁ v₂ u ys zs (ys ++ zs) refl second ok)

pub puts_text : (w : WriterValue) (ts : List Written) → (puts w ts).text ≡ w.text ++ layout w.depth w.last ts
unfolding put
puts_text w [] = sym (append-nil w.text)
puts_text w (t ∷ ts) = puts_text (put w t) ts ∙ append_assoc w.text _ _

module _ {A : Type 0} (tokens : A → List Written) (w v : WriterValue) (xs : List A) (i : ℕ) (x : A) where
  -- one more item of several
  pub order_more : v ≡ puts w (tokens x) → i < length xs → x ≡ get_or xs i x
      → puts v (in_order tokens (drop (i + 1) xs)) ≡ puts w (in_order tokens (drop i xs))
  order_more done within here =
      let split : drop i xs ≡ x ∷ drop (i + 1) xs = drop_more xs i x within ∙ ap (λ y. y ∷ drop (i + 1) xs) (sym here) in
      rw (split, done) (sym (puts_append w (tokens x) (in_order tokens (drop (i + 1) xs))))

  pub commas_more : (b : Bool) → v ≡ puts (puts w (comma_unless b)) (tokens x) → i < length xs → x ≡ get_or xs i x
      → puts v (after_commas tokens (drop (i + 1) xs)) ≡ puts w (commas_from b tokens (drop i xs))
  commas_more true done within here =
      let split : drop i xs ≡ x ∷ drop (i + 1) xs = drop_more xs i x within ∙ ap (λ y. y ∷ drop (i + 1) xs) (sym here) in
      rw (split, done) (sym (puts_append w (tokens x) (after_commas tokens (drop (i + 1) xs))))
  commas_more false done within here =
      let split : drop i xs ≡ x ∷ drop (i + 1) xs = drop_more xs i x within ∙ ap (λ y. y ∷ drop (i + 1) xs) (sym here) in
      rw (split, done) (sym (puts_append (put w comma) (tokens x) (after_commas tokens (drop (i + 1) xs))))

-- no item is left
pub order_end : {A : Type 0} (tokens : A → List Written) (w : WriterValue) (xs : List A) (i : ℕ) → length xs ≤ i → puts w (in_order tokens (drop i xs)) ≡ w
order_end tokens w xs i past = rw (drop_all i xs past) refl

pub commas_end : {A : Type 0} (b : Bool) (tokens : A → List Written) (w : WriterValue) (xs : List A) (i : ℕ) → length xs ≤ i → puts w (commas_from b tokens (drop i xs)) ≡ w
commas_end true tokens w xs i past = rw (drop_all i xs past) refl
commas_end false tokens w xs i past = rw (drop_all i xs past) refl

pub terms_more : (b : Bool) (w v : WriterValue) (xs : List TermText) (i : ℕ) (x : TermText) → v ≡ puts (puts w (sign_unless b x.minus)) (term_tokens x)
    → i < length xs → x ≡ get_or xs i x → puts v (terms_from false (drop (i + 1) xs)) ≡ puts w (terms_from b (drop i xs))
unfolding sum_tokens next_term_tokens
terms_more true w v xs i x done within here =
    let split : drop i xs ≡ x ∷ drop (i + 1) xs = drop_more xs i x within ∙ ap (λ y. y ∷ drop (i + 1) xs) (sym here) in
    rw (split, done) (sym (puts_append w (term_tokens x) (in_order next_term_tokens (drop (i + 1) xs))))
terms_more false w v xs i x done within here =
    let split : drop i xs ≡ x ∷ drop (i + 1) xs = drop_more xs i x within ∙ ap (λ y. y ∷ drop (i + 1) xs) (sym here) in
    rw (split, done) (sym (puts_append (put w (sign_at (term_sign x.minus))) (term_tokens x) (in_order next_term_tokens (drop (i + 1) xs))))

pub terms_end : (b : Bool) (w : WriterValue) (xs : List TermText) (i : ℕ) → length xs ≤ i → puts w (terms_from b (drop i xs)) ≡ w
unfolding sum_tokens
terms_end true w xs i past = rw (drop_all i xs past) refl
terms_end false w xs i past = rw (drop_all i xs past) refl

pub keyword_some : {A : Type 0} (keyword : List ℕ) (tokens : A → List Written) (xs : List A) → 1 ≤ length xs
    → after_keyword keyword tokens xs ≡ word keyword ∷ with_commas tokens xs
keyword_some keyword tokens [] within = absurd (omega arith)
keyword_some keyword tokens (x ∷ xs) within = refl
