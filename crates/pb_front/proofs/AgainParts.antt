-- Forms, matrices, views, conditions and marks are spelled again.
use Rattle.std.proofs.Common.{◌≡◌, ℕ, suc, ◌+◌, ◌≤◌, Bool, true, false, ◌==◌, List, [], ◌∷◌, ◌++◌, length, map, Some, None, codes, if◌then◌else◌, refl, sym, ap, ap₂, ◌∙◌, subst, arith}
use Rattle.std.proofs.lemmas.Bool.Decides.{nat_tests}
use Rattle.pb_values.specs.Name.{NameValue}
use Rattle.pb_syntax.specs.declared.token.Token.{Token}
use Rattle.pb_syntax.specs.declared.refusal.Item.TheVariants as item
use Rattle.pb_syntax.specs.declared.kind.TokenKind.{TokenKind}
use Rattle.pb_syntax.specs.declared.kind.TokenKind.TheVariants as k
use Rattle.pb_syntax.specs.declared.tree.expression.Relation.{Relation}
use Rattle.pb_syntax.specs.declared.tree.expression.Relation.TheVariants as relation
use Rattle.pb_syntax.specs.declared.tree.form.TermText.{TermText}
use Rattle.pb_syntax.specs.declared.tree.view.ViewText.{ViewText}
use Rattle.pb_syntax.specs.declared.tree.view.ViewText.TheVariants as view
use Rattle.pb_syntax.specs.declared.tree.view.UseText.{UseText}
use Rattle.pb_syntax.specs.declared.tree.view.CondText.{CondText}
use Rattle.pb_syntax.specs.Kinds.{kind_of, sign_kind, Is, name_in, number_in}
use Rattle.pb_syntax.specs.Operators.{condition_relation}
use Rattle.pb_syntax.specs.Forms.{FormValue, DeclValue}
use Rattle.pb_prog.specs.Spelling.{word, numeral, sign_at, term_sign, relation_sign, in_order, with_commas, after_commas, factor_tokens, quotient_tokens, term_tokens, next_term_tokens, sum_tokens, form_tokens, decl_tokens, view_tokens, use_tokens, cond_tokens, minimum_tokens, minimums_tokens, conds_tokens, through_tokens, mark_tokens}
use Rattle.pb_syntax.specs.Grammar.{Commas, no_comma, a_comma, IsTerm, number_term, name_term, multiple, fraction, IsTerms, no_terms, plus, minus, IsForm, plain_form, minus_form, IsDims, one_dim, two_dims, IsDecl, a_decl, IsDecls, some_decls, IsView, whole, cell_x, cell_xy, row, column, region_2, region_4, IsUse, a_use, IsCond, a_cond, IsMinimum, a_minimum, IsMinimums, no_minimums, some_minimums, IsThrough, no_through, some_through, IsReads, no_reads, some_reads, IsConds, no_conds, some_conds, IsMark, unmarked, primary, secondary, priority}
use Rattle.pb_syntax.specs.Limits.{over, too_great, SizeNames, after_form, excess_of, counted}
use Rattle.pb_syntax.specs.TooMany.{note, in_term, in_terms, in_form, in_dims, in_decl, in_more_decls, in_decls, in_view, in_use, in_cond, in_minimum, in_minimums, in_through, in_reads, in_conds, in_mark}
use Rattle.pb_syntax.specs.Places.{unplaced_term, unplaced_form, unplaced_decl, unplaced_view, unplaced_use, unplaced_cond, unplaced_minimum}
use Rattle.pb_front.proofs.Written.{Takes, nothing, one}
use Rattle.pb_front.proofs.Unplaced.{same_after, same_counted, same_length}
use Rattle.pb_front.proofs.Again.{cut, split, is, number_is, is_name, same_name, is_word, Again, made, again_commas, Fewer, Adds, dropped_fewer, begun_fewer, number_fewer, form_fewer}
use Rattle.pb_syntax.specs.declared.tree.view.MarkText.{MarkText}
use Rattle.pb_syntax.specs.declared.tree.view.MarkText.TheVariants as mark

abbrev pub TermAgain : {m : Bool} {x : TermText} {all rest : List Token} → IsTerm m x all rest → List Token → List Token → Type 0
TermAgain {m} {x} d all rest = Again (IsTerm m) unplaced_term x all rest (λ y d'. Adds (in_term d) (in_term d'))

-- a factor 1 isn't written
multiple_again : (m : Bool) (t s n : Token) (rest : List Token) {all' rest' : List Token} (i : Is k.Number t) (j : Is k.Times s) (o : Is k.Name n) (b : Bool) → (number_in t == 1) ≡ b
    → Takes ((if b then [] else (numeral (number_in t) ∷ sign_at 19 ∷ [])) ++ (word (name_in n).bytes ∷ [])) all' rest'
    → TermAgain (multiple {m = m} {t = t} {s = s} {n = n} {rest = rest} i j o) all' rest'
multiple_again m t s n rest i j o true q (one {t = u} e nothing) =
    let a : number_in t ≡ 1 = grind (arith, nat_tests) in made (record { minus = m; factor = 1; name = Some (name_in u); quotient = 0 }) (name_term (is_name n u o e))
    (ap₂ (λ a b. record { minus = m; factor = a; name = Some b; quotient = 0 }) (sym a) (same_name n u e)) (λ l l' h. dropped_fewer (too_great t) (t ∷ s ∷ n ∷ rest) h)
multiple_again m t s n rest i j o false q (one {t = u} e (one {t = v} f (one {t = w} {all = new} g nothing))) = made (record { minus = m; factor = number_in u; name = Some (name_in w); quotient = 0 })
    (multiple (is u e) (is v f) (is_name n w o g)) (ap₂ (λ a b. record { minus = m; factor = a; name = Some b; quotient = 0 }) (number_is u e) (same_name n w g))
    (λ l l' h. number_fewer t u (t ∷ s ∷ n ∷ rest) (u ∷ v ∷ w ∷ new) (number_is u e) h)

fraction_again : (m : Bool) (n s q : Token) (rest : List Token) {all' rest' : List Token} (i : Is k.Name n) (j : Is k.Over s) (o : Is k.Number q)
    (lo : 2 ≤ number_in q) (hi : number_in q ≤ 4) (b : Bool) → b ≡ false
    → Takes (word (name_in n).bytes ∷ (if b then [] else (sign_at 20 ∷ numeral (number_in q) ∷ []))) all' rest'
    → TermAgain (fraction {m = m} {n = n} {s = s} {q = q} {rest = rest} i j o lo hi) all' rest'
fraction_again m n s q rest i j o lo hi true z a = absurd (cc)
fraction_again m n s q rest i j o lo hi false z (one {t = u} e (one {t = v} f (one {t = w} g nothing))) = made (record { minus = m; factor = 1; name = Some (name_in u); quotient = number_in w })
    (fraction (is_name n u i e) (is v f) (is w g) (subst (λ a. 2 ≤ a) (sym (number_is w g)) lo) (subst (λ a. a ≤ 4) (sym (number_is w g)) hi))
    (ap₂ (λ b a. record { minus = m; factor = 1; name = Some b; quotient = a }) (same_name n u e) (number_is w g)) (λ l l' h. h)

pub again_term : {m : Bool} {x : TermText} {all rest all' rest' : List Token} (d : IsTerm m x all rest) → Takes (term_tokens x) all' rest' → TermAgain d all' rest'
unfolding term_tokens factor_tokens quotient_tokens
again_term (number_term {m = m} {t = t} {rest = rest} i) (one {t = u} {all = new} e nothing) = made (record { minus = m; factor = number_in u; name = None; quotient = 0 })
    (number_term (is u e)) (ap (λ a. record { minus = m; factor = a; name = None; quotient = 0 }) (number_is u e))
    (λ l l' h. number_fewer t u (t ∷ rest) (u ∷ new) (number_is u e) h)
again_term (name_term {m = m} {t = t} i) (one {t = u} e nothing) = made (record { minus = m; factor = 1; name = Some (name_in u); quotient = 0 }) (name_term (is_name t u i e))
    (ap (λ b. record { minus = m; factor = 1; name = Some b; quotient = 0 }) (same_name t u e)) (λ l l' h. h)
again_term (multiple {m = m} {t = t} {s = s} {n = n} {rest = rest} i j o) a = multiple_again m t s n rest i j o (number_in t == 1) refl a
again_term (fraction {m = m} {n = n} {s = s} {q = q} {rest = rest} i j o lo hi) a = fraction_again m n s q rest i j o lo hi (number_in q == 0) (grind (arith, nat_tests)) a

sign_of : {m : Bool} {x : TermText} {all rest : List Token} → IsTerm m x all rest → x.minus ≡ m
sign_of (number_term i) = refl
sign_of (name_term i) = refl
sign_of (multiple i j o) = refl
sign_of (fraction i j o lo hi) = refl

pub again_terms : {xs : List TermText} {all rest all' rest' : List Token} (d : IsTerms xs all rest) → Takes (in_order next_term_tokens xs) all' rest'
    → Again IsTerms (map unplaced_term) xs all' rest' (λ ys d'. (n : ℕ) → Adds (in_terms n d) (in_terms n d'))
unfolding next_term_tokens
again_terms no_terms nothing = made [] no_terms refl (λ n l m h. h)
again_terms (plus {x = x} {xs = xs} {all = old} i d ds) (one {t = u} {all = new} e t) = elim (split {a = term_tokens x} {b = in_order next_term_tokens xs} t) [
  | cut a b ↦ let r = again_term d a in let s = again_terms ds b in made (r.tree ∷ s.tree) (plus (is u e ∙ ap (λ m. sign_kind (term_sign m)) (sign_of d)) r.spelled s.spelled)
      (ap₂ (λ y ys. y ∷ ys) r.same s.same) (λ n l m h. begun_fewer (over item.Terms n) old new (r.few _ _ (s.few (suc n) l m h)))
]
again_terms (minus {x = x} {xs = xs} {all = old} i d ds) (one {t = u} {all = new} e t) = elim (split {a = term_tokens x} {b = in_order next_term_tokens xs} t) [
  | cut a b ↦ let r = again_term d a in let s = again_terms ds b in made (r.tree ∷ s.tree)
      (minus (is u e ∙ ap (λ m. sign_kind (term_sign m)) (sign_of d)) r.spelled s.spelled) (ap₂ (λ y ys. y ∷ ys) r.same s.same)
      (λ n l m h. begun_fewer (over item.Terms n) old new (r.few _ _ (s.few (suc n) l m h)))
]

abbrev pub FormAgain : {x : FormValue} {all rest : List Token} → IsForm x all rest → List Token → List Token → Type 0
FormAgain {x} d all rest = Again IsForm unplaced_form x all rest (λ y d'. Adds (in_form d) (in_form d'))

pub again_form : {x : FormValue} {all rest all' rest' : List Token} (d : IsForm x all rest) → Takes (form_tokens x) all' rest' → FormAgain d all' rest'
unfolding form_tokens sum_tokens
again_form (plain_form {x = x} {xs = xs} d ds) t = elim (split {a = term_tokens x} {b = in_order next_term_tokens xs} t) [
  | cut a b ↦ let r = again_term d a in let s = again_terms ds b in made (record { minus = false; terms = r.tree ∷ s.tree }) (plain_form r.spelled s.spelled)
      (ap₂ (λ y ys. record { minus = false; terms = y ∷ ys }) r.same s.same) (λ l m h. r.few _ _ (s.few 1 l m h))
]
again_form (minus_form {x = x} {xs = xs} i d ds) (one {t = u} e t) = elim (split {a = term_tokens x} {b = in_order next_term_tokens xs} t) [
  | cut a b ↦ let r = again_term d a in let s = again_terms ds b in made (record { minus = true; terms = r.tree ∷ s.tree }) (minus_form (is u e) r.spelled s.spelled)
      (ap₂ (λ y ys. record { minus = true; terms = y ∷ ys }) r.same s.same) (λ l m h. r.few _ _ (s.few 1 l m h))
]

-- dimensions, with the bracket that closes them
pub again_dims : {ds : List FormValue} {all rest all' rest' : List Token} {c : Token} (d : IsDims ds all rest) → Takes (with_commas form_tokens ds) all' (c ∷ rest') → Is k.CloseBracket c
    → Again IsDims (map unplaced_form) ds all' rest' (λ es d'. (known : SizeNames) → Adds (in_dims known d) (in_dims known d'))
again_dims {rest' = new} {c = v} (one_dim {x = x} {c = c} {rest = old} d i) t j = elim (split {a = form_tokens x} {b = []} t) [
  | cut a nothing ↦ let r = again_form d a in made (r.tree ∷ []) (one_dim r.spelled j) (ap (λ y. y ∷ []) r.same)
      (λ known l m h. r.few _ _ (form_fewer known x r.tree (c ∷ old) (v ∷ new) r.same h))
]
again_dims {rest' = new} {c = v} (two_dims {x = x} {y = y} {m = m} {c = c} {mid = mid} {rest = old} d i e o) t j = elim (split {a = form_tokens x} t) [
  | cut a (one {t = u} {all = more} f t) ↦ elim (split {a = form_tokens y} {b = []} t) [
    | cut b nothing ↦ let r = again_form d a in let s = again_form e b in made (r.tree ∷ s.tree ∷ []) (two_dims r.spelled (is u f) s.spelled j)
        (ap₂ (λ y z. y ∷ z ∷ []) r.same s.same)
        (λ known l n h. r.few _ _ (form_fewer known x r.tree (m ∷ mid) (u ∷ more) r.same (s.few _ _
        (subst (λ k. Fewer (note (excess_of (after_form known x) y) (c ∷ old) l) (note (excess_of k s.tree) (v ∷ new) n)) (sym (same_after known r.tree x r.same))
        (form_fewer (after_form known x) y s.tree (c ∷ old) (v ∷ new) s.same h)))))
  ]
]

pub again_decl : {x : DeclValue} {all rest all' rest' : List Token} (d : IsDecl x all rest) → Takes (decl_tokens x) all' rest'
    → Again IsDecl unplaced_decl x all' rest' (λ y d'. (n : ℕ) (known : SizeNames) → Adds (in_decl n known d) (in_decl n known d'))
unfolding decl_tokens
again_decl (a_decl {ds = ds} {n = n} {b = b} {all = old} i j d) (one {t = u} e (one {t = v} {all = new} f t)) = elim (split {a = with_commas form_tokens ds} t) [
  | cut a (one {t = w} g nothing) ↦ let r = again_dims d a (is w g) in made (record { name = name_in u; dims = r.tree }) (a_decl (is_name n u i e) (is v f) r.spelled)
      (ap₂ (λ y ys. record { name = y; dims = ys }) (same_name n u e) r.same)
      (λ n' known l m h. begun_fewer (over item.Matrices n') (n ∷ b ∷ old) (u ∷ v ∷ new) (r.few known l m h))
]

map_append : {A : Type 0} (g : A → A) (xs ys : List A) → map g (xs ++ ys) ≡ map g xs ++ map g ys
map_append g [] ys = refl
map_append g (x ∷ xs) ys = rw (map_append g xs ys) refl

longer : {A : Type 0} (g : A → A) (xs ys : List A) (x y : A) → map g ys ≡ map g xs → g y ≡ g x → map g (ys ++ y ∷ []) ≡ map g (xs ++ x ∷ [])
longer g xs ys x y e f = map_append g ys (y ∷ []) ∙ ap₂ (λ zs z. zs ++ z ∷ []) e f ∙ sym (map_append g xs (x ∷ []))

-- what depends on the matrices before is the same after those that differ in places alone
same_before : (n : ℕ) (from : Bool) (found others : List DeclValue) → map unplaced_decl others ≡ map unplaced_decl found → (P : ℕ → SizeNames → Type 0)
    → P (n + length found) (counted from found) → P (n + length others) (counted from others)
same_before n from found others e P h = subst (λ k. P (n + k) (counted from others)) (sym (same_length unplaced_decl others found e))
    (subst (P (n + length found)) (sym (same_counted from others found e)) h)

again_more_decls : {ds : List DeclValue} {all rest all' rest' : List Token} (d : Commas IsDecl ds all rest) → Takes (after_commas decl_tokens ds) all' rest'
    → Again (Commas IsDecl) (map unplaced_decl) ds all' rest' (λ es d'. (n : ℕ) (from : Bool) (found others : List DeclValue)
    → map unplaced_decl others ≡ map unplaced_decl found → Adds (in_more_decls n from found d) (in_more_decls n from others d'))
again_more_decls no_comma nothing = made [] no_comma refl (λ n from found others e l m h. h)
again_more_decls (a_comma {x = x} {xs = xs} i d ds) (one {t = c} e t) = elim (split {a = decl_tokens x} {b = after_commas decl_tokens xs} t) [
  | cut a b ↦ let r = again_decl d a in let s = again_more_decls ds b in made (r.tree ∷ s.tree) (a_comma (is c e) r.spelled s.spelled) (ap₂ (λ y ys. y ∷ ys) r.same s.same)
      (λ n from found others q l m h. same_before n from found others q
      (λ k known. Fewer (in_decl (n + length found) (counted from found) d (in_more_decls n from (found ++ x ∷ []) ds l))
      (in_decl k known r.spelled (in_more_decls n from (others ++ r.tree ∷ []) s.spelled m)))
      (r.few _ _ _ _ (s.few n from (found ++ x ∷ []) (others ++ r.tree ∷ []) (longer unplaced_decl found others x r.tree q r.same) l m h)))
]

pub again_decls : {ds : List DeclValue} {all rest all' rest' : List Token} (d : IsDecls ds all rest) → Takes (with_commas decl_tokens ds) all' rest'
    → Again IsDecls (map unplaced_decl) ds all' rest' (λ es d'. (n : ℕ) (from : Bool) → Adds (in_decls n from d) (in_decls n from d'))
again_decls (some_decls {d = x} {ds = xs} d ds) t = elim (split {a = decl_tokens x} {b = after_commas decl_tokens xs} t) [
  | cut a b ↦ let r = again_decl d a in let s = again_more_decls ds b in made (r.tree ∷ s.tree) (some_decls r.spelled s.spelled) (ap₂ (λ y ys. y ∷ ys) r.same s.same)
      (λ n from l m h. r.few n (counted from []) _ _ (s.few n from (x ∷ []) (r.tree ∷ []) (ap (λ y. y ∷ []) r.same) l m h))
]

again_view : {v : ViewText} {all rest all' rest' : List Token} (d : IsView v all rest) → Takes (view_tokens v) all' rest'
    → Again IsView unplaced_view v all' rest' (λ y d'. Adds (in_view d) (in_view d'))
unfolding view_tokens
again_view whole nothing = made view.Whole whole refl (λ l m h. h)
again_view (cell_x {x = x} d w o i c) (one {t = t} e (one {t = u} f (one {t = v} g a))) = elim (split {a = form_tokens x} a) [
  | cut a (one {t = z} q nothing) ↦ let r = again_form i a in made (view.Cell r.tree None) (cell_x (is t e) (is_word (codes "cell") u refl f) (is v g) r.spelled (is z q))
      (ap (λ y. view.Cell y None) r.same) r.few
]
again_view (cell_xy {x = x} {y = y} d w o i m j c) (one {t = t} e (one {t = u} f (one {t = v} g a))) = elim (split {a = form_tokens x} a) [
  | cut a (one {t = n} p b) ↦ elim (split {a = form_tokens y} b) [
    | cut b (one {t = z} q nothing) ↦ let r = again_form i a in let s = again_form j b in made (view.Cell r.tree (Some s.tree))
        (cell_xy (is t e) (is_word (codes "cell") u refl f) (is v g) r.spelled (is n p) s.spelled (is z q)) (ap₂ (λ y z. view.Cell y (Some z)) r.same s.same)
        (λ l m h. r.few _ _ (s.few l m h))
  ]
]
again_view (row {y = x} d w o i c) (one {t = t} e (one {t = u} f (one {t = v} g a))) = elim (split {a = form_tokens x} a) [
  | cut a (one {t = z} q nothing) ↦ let r = again_form i a in made (view.Row r.tree) (row (is t e) (is_word (codes "row") u refl f) (is v g) r.spelled (is z q))
      (ap (λ y. view.Row y) r.same) r.few
]
again_view (column {x = x} d w o i c) (one {t = t} e (one {t = u} f (one {t = v} g a))) = elim (split {a = form_tokens x} a) [
  | cut a (one {t = z} q nothing) ↦ let r = again_form i a in made (view.Column r.tree) (column (is t e) (is_word (codes "column") u refl f) (is v g) r.spelled (is z q))
      (ap (λ y. view.Column y) r.same) r.few
]
again_view (region_2 {a = x} {b = y} d w o i m j c) (one {t = t} e (one {t = u} f (one {t = v} g a))) = elim (split {a = form_tokens x} a) [
  | cut a (one {t = n} p b) ↦ elim (split {a = form_tokens y} b) [
    | cut b (one {t = z} q nothing) ↦ let r = again_form i a in let s = again_form j b in made (view.Between r.tree s.tree)
        (region_2 (is t e) (is_word (codes "region") u refl f) (is v g) r.spelled (is n p) s.spelled (is z q)) (ap₂ (λ y z. view.Between y z) r.same s.same)
        (λ l m h. r.few _ _ (s.few l m h))
  ]
]
again_view (region_4 {a = x} {b = y} {e = z} {f = k} d w o i m j p x' q y' c) (one {t = t} e (one {t = u} f (one {t = v} g a))) = elim (split {a = form_tokens x} a) [
  | cut a (one {t = n₁} p₁ b) ↦ elim (split {a = form_tokens y} b) [
    | cut b (one {t = n₂} p₂ c') ↦ elim (split {a = form_tokens z} c') [
      | cut c' (one {t = n₃} p₃ d') ↦ elim (split {a = form_tokens k} d') [
        | cut d' (one {t = n₄} p₄ nothing) ↦
            let r₁ = again_form i a in let r₂ = again_form j b in let r₃ = again_form x' c' in let r₄ = again_form y' d' in made (view.Region r₁.tree r₂.tree r₃.tree r₄.tree)
            (region_4 (is t e) (is_word (codes "region") u refl f) (is v g) r₁.spelled (is n₁ p₁) r₂.spelled (is n₂ p₂) r₃.spelled (is n₃ p₃) r₄.spelled (is n₄ p₄))
            (ap₂ (λ (y z : FormValue × FormValue). view.Region y.0 y.1 z.0 z.1) (ap₂ (λ y z. (y, z)) r₁.same r₂.same) (ap₂ (λ y z. (y, z)) r₃.same r₄.same))
            (λ l m h. r₁.few _ _ (r₂.few _ _ (r₃.few _ _ (r₄.few l m h))))
      ]
    ]
  ]
]

pub again_use : (x : UseText) (all rest all' rest' : List Token) (d : IsUse x all rest) → Takes (use_tokens x) all' rest'
    → Again IsUse unplaced_use x all' rest' (λ y d'. Adds (in_use d) (in_use d'))
unfolding use_tokens
again_use x all rest all' rest' (a_use {v = v} {m = m} {b = b} i d j) (one {t = t} e a) = elim (split {a = view_tokens v} a) [
  | cut a (one {t = u} f nothing) ↦ let r = again_view d a in made (record { matrix = name_in t; view = r.tree; bound = name_in u })
      (a_use (is_name m t i e) r.spelled (is_name b u j f))
      (ap₂ (λ (y : NameValue × NameValue) z. record { matrix = y.0; view = z; bound = y.1 }) (ap₂ (λ y z. (y, z)) (same_name m t e) (same_name b u f)) r.same) r.few
]

no_unequal : (kind : TokenKind) → condition_relation kind ≡ Some relation.Unequal → ⊥
no_unequal k.Less e = absurd (cc)
no_unequal _ e = absurd (cc)

relation_again : (kind : TokenKind) (r : Relation) → condition_relation kind ≡ Some r → condition_relation (sign_kind (relation_sign r)) ≡ Some r
relation_again kind relation.Unequal e = absurd (no_unequal kind e)
relation_again kind _ e = refl

again_cond : (x : CondText) (all rest all' rest' : List Token) (d : IsCond x all rest) → Takes (cond_tokens x) all' rest'
    → Again IsCond unplaced_cond x all' rest' (λ y d'. Adds (in_cond d) (in_cond d'))
unfolding cond_tokens
again_cond c all rest all' rest' (a_cond {a = x} {b = y} {t = t} {r = r} d i e) a = elim (split {a = form_tokens x} a) [
  | cut a (one {t = u} f b) ↦ let s = again_form d a in let z = again_form e b in made (record { left = s.tree; relation = r; right = z.tree })
      (a_cond s.spelled (ap condition_relation (is u f) ∙ relation_again (kind_of t) r i) z.spelled) (ap₂ (λ y z. record { left = y; relation = r; right = z }) s.same z.same)
      (λ l m h. s.few _ _ (z.few l m h))
]

again_minimum : (x : NameValue × ℕ) (all rest all' rest' : List Token) (d : IsMinimum x all rest) → Takes (minimum_tokens x) all' rest'
    → Again IsMinimum unplaced_minimum x all' rest' (λ y d'. Adds (in_minimum d) (in_minimum d'))
unfolding minimum_tokens
again_minimum x all rest all' rest' (a_minimum {n = t} {v = o} {rest = old} i j q) (one {t = u} e (one {t = v} f (one {t = w} {all = new} g nothing))) = made (name_in u, number_in w)
    (a_minimum (is_name t u i e) (is v f) (is w g)) (ap₂ (λ y z. (y, z)) (same_name t u e) (number_is w g)) (λ l m h. number_fewer o w (o ∷ old) (w ∷ new) (number_is w g) h)

pub again_minimums : {xs : List (NameValue × ℕ)} {all rest all' rest' : List Token} (d : IsMinimums xs all rest) → Takes (minimums_tokens xs) all' rest'
    → Again IsMinimums (map unplaced_minimum) xs all' rest' (λ y d'. Adds (in_minimums d) (in_minimums d'))
again_minimums no_minimums nothing = made [] no_minimums refl (λ l m h. h)
again_minimums (some_minimums {x = x} {xs = xs} i d ds) (one {t = u} e t) = elim (split {a = minimum_tokens x} {b = after_commas minimum_tokens xs} t) [
  | cut a b ↦ let r = again_minimum x _ _ _ _ d a in let s = again_commas unplaced_minimum minimum_tokens (λ x a b. in_minimum) again_minimum ds b in made (r.tree ∷ s.tree)
      (some_minimums (is u e) r.spelled s.spelled) (ap₂ (λ y ys. y ∷ ys) r.same s.same) (λ l m h. r.few _ _ (s.few item.Minimums 1 l m h))
]

pub again_through : {ds : List DeclValue} {all rest all' rest' : List Token} (d : IsThrough ds all rest) → Takes (through_tokens ds) all' rest'
    → Again IsThrough (map unplaced_decl) ds all' rest' (λ y d'. (n : ℕ) → Adds (in_through n d) (in_through n d'))
again_through no_through nothing = made [] no_through refl (λ n l m h. h)
again_through (some_through i (some_decls d ds)) (one {t = u} e t) = let r = again_decls (some_decls d ds) t in
    made r.tree (some_through (is u e) r.spelled) r.same (λ n l m h. r.few n false l m h)

pub again_reads : {us : List UseText} {all rest all' rest' : List Token} (d : IsReads us all rest) → Takes (with_commas use_tokens us) all' rest'
    → Again IsReads (map unplaced_use) us all' rest' (λ y d'. Adds (in_reads d) (in_reads d'))
again_reads no_reads nothing = made [] no_reads refl (λ l m h. h)
again_reads (some_reads {u = x} {us = xs} d ds) t = elim (split {a = use_tokens x} {b = after_commas use_tokens xs} t) [
  | cut a b ↦ let r = again_use _ _ _ _ _ d a in let s = again_commas unplaced_use use_tokens (λ x a b. in_use) again_use ds b in made (r.tree ∷ s.tree)
      (some_reads r.spelled s.spelled) (ap₂ (λ y ys. y ∷ ys) r.same s.same) (λ l m h. r.few _ _ (s.few item.Reads 1 l m h))
]

pub again_conds : {cs : List CondText} {all rest all' rest' : List Token} (d : IsConds cs all rest) → Takes (conds_tokens cs) all' rest'
    → Again IsConds (map unplaced_cond) cs all' rest' (λ y d'. Adds (in_conds d) (in_conds d'))
again_conds no_conds nothing = made [] no_conds refl (λ l m h. h)
again_conds (some_conds {c = x} {cs = xs} i d ds) (one {t = u} e t) = elim (split {a = cond_tokens x} {b = after_commas cond_tokens xs} t) [
  | cut a b ↦ let r = again_cond _ _ _ _ _ d a in let s = again_commas unplaced_cond cond_tokens (λ x a b. in_cond) again_cond ds b in made (r.tree ∷ s.tree)
      (some_conds (is u e) r.spelled s.spelled) (ap₂ (λ y ys. y ∷ ys) r.same s.same) (λ l m h. r.few _ _ (s.few item.Conditions 1 l m h))
]

pub again_mark : {x : MarkText} {all rest all' rest' : List Token} (d : IsMark x all rest) → Takes (mark_tokens x) all' rest'
    → Again IsMark (λ m. m) x all' rest' (λ y d'. Adds (in_mark d) (in_mark d'))
unfolding mark_tokens
again_mark unmarked nothing = made mark.Unmarked unmarked refl (λ l m h. h)
again_mark (primary i) (one {t = u} e nothing) = made mark.Primary (primary (is u e)) refl (λ l m h. h)
again_mark (secondary i) (one {t = u} e nothing) = made mark.Secondary (secondary (is u e)) refl (λ l m h. h)
again_mark (priority {n = o} {c = c} {rest = old} i j k' q) (one {t = u} e (one {t = v} f (one {t = w} g (one {t = z} {all = new} p nothing)))) = made (mark.Priority (number_in w))
    (priority (is u e) (is v f) (is w g) (is z p)) (ap mark.Priority (number_is w g)) (λ l m h. number_fewer o w (o ∷ c ∷ old) (w ∷ z ∷ new) (number_is w g) h)
