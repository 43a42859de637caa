-- What is found under a name, and what a form is that is a name alone.
use Rattle.std.proofs.Common.{◌≡◌, ℕ, pos, Bool, true, false, cond, ◌&&◌, not, ◌==◌, if◌then◌else◌, List, [], ◌∷◌, ◌++◌, Option, Some, None, is_some, refl, ap, sym, ◌∙◌}
use Rattle.std.specs.Str.{bytes_eq}
use Rattle.std.proofs.lemmas.Bool.{and_parts, eqb-true, cond-true, false_from_ne_true}
use Rattle.std.proofs.lemmas.Slice.Eq.{bytes_eq-Decides}
use Rattle.pb_values.specs.Name.{NameValue}
use Rattle.pb_syntax.specs.declared.tree.form.TermText.{TermText}
use Rattle.pb_syntax.specs.Forms.{FormValue}
use Rattle.pb_syntax.specs.Limits.{alone, alone_in}
use Rattle.pb_program.specs.declared.meaning.Meaning.{Meaning}
use Rattle.pb_program.specs.Forms.{nothing}
use Rattle.pb_names.specs.Faults.{bad_output, duplicate, unknown}
use Rattle.pb_names.specs.Names.{look}
use Rattle.pb_names.specs.Sums.{add_by_name, add_found, collected, sum_of_terms}

-- where a fault isn't there
pub none_duplicate : (b : Bool) (n : NameValue) → duplicate b n ≡ [] → b ≡ false
none_duplicate true n e = cc
none_duplicate false n e = refl

pub none_bad : (b : Bool) (n : NameValue) → bad_output b n ≡ [] → b ≡ false
none_bad true n e = cc
none_bad false n e = refl

pub none_unknown : {V : Type 0} (o : Option V) (n : NameValue) → unknown (not (is_some o)) n ≡ [] → is_some o ≡ true
none_unknown (Some x) n e = refl
none_unknown None n e = cc

pub none_found : {V : Type 0} (o : Option V) → is_some o ≡ false → o ≡ None
none_found (Some x) e = cc
none_found None e = refl

-- texts that are the same
pub same_text : (n : List ℕ) → bytes_eq n n ≡ true
same_text n = (bytes_eq-Decides n n).1 refl

pub other_text : (a b : List ℕ) → bytes_eq a b ≡ false → bytes_eq b a ≡ false
other_text a b e = false_from_ne_true (bytes_eq b a) (λ h. let k = (bytes_eq-Decides a b).1 (sym ((bytes_eq-Decides b a).0 h)) in cc)

module _ {V : Type 0} where
  kept_by : (b : Bool) (v w : V) (rest more : Option V) → (rest ≡ Some w → more ≡ Some w) → cond b (Some v) rest ≡ Some w → cond b (Some v) more ≡ Some w
  kept_by true v w rest more f e = e
  kept_by false v w rest more f e = f e

  -- what is found stays where names are added
  pub look_kept : (n : List ℕ) (w : V) (names others : List (List ℕ × V)) → look n names ≡ Some w → look n (names ++ others) ≡ Some w
  look_kept n w [] others e = cc
  look_kept n w (x ∷ names) others e = kept_by (bytes_eq n x.0) x.1 w (look n names) (look n (names ++ others)) (look_kept n w names others) e

  none_by : (b : Bool) (v : V) (rest : Option V) → cond b (Some v) rest ≡ None → (b ≡ false) × (rest ≡ None)
  none_by true v rest e = cc
  none_by false v rest e = (refl, e)

  -- a new name goes last
  pub look_last : (n : List ℕ) (w : V) (names : List (List ℕ × V)) → look n names ≡ None → look n (names ++ (n, w) ∷ []) ≡ Some w
  look_last n w [] e = cond-true (bytes_eq n n) (Some w) None (same_text n)
  look_last n w (x ∷ names) e =
      let k = none_by (bytes_eq n x.0) x.1 (look n names) e in
      ap (λ b. cond b (Some x.1) (look n (names ++ (n, w) ∷ []))) k.0 ∙ look_last n w names k.1

  -- a name that isn't there isn't among the first, nor the last
  pub look_before : (n k : List ℕ) (w : V) (names : List (List ℕ × V)) → look n (names ++ (k, w) ∷ []) ≡ None → (look n names ≡ None) × (bytes_eq n k ≡ false)
  look_before n k w [] e = (refl, (none_by (bytes_eq n k) w None e).0)
  look_before n k w (x ∷ names) e =
      let h = none_by (bytes_eq n x.0) x.1 (look n (names ++ (k, w) ∷ [])) e in
      let rest = look_before n k w names h.1 in
      (ap (λ b. cond b (Some x.1) (look n names)) h.0 ∙ rest.0, rest.1)

-- a form that is a name alone
module _ (names : List (List ℕ × Meaning)) (n : NameValue) where
  term_by : (b : Bool) (o : Option NameValue) (factor q : ℕ) → (b ≡ true → (factor ≡ 1) × (q ≡ 0)) → (if b then o else None) ≡ Some n
      → add_by_name names nothing o q (pos factor) ≡ add_found nothing (look n.bytes names) 0 (pos 1)
  term_by true o factor q h e =
      let k = h refl in
      ap (λ m. add_by_name names nothing m q (pos factor)) e ∙ (λ i. add_found nothing (look n.bytes names) (k.1 i) (pos (k.0 i)))
  term_by false o factor q h e = cc

  sum_by : (minus : Bool) (ts : List TermText) → alone_in minus ts ≡ Some n → sum_of_terms names minus ts ≡ add_found nothing (look n.bytes names) 0 (pos 1)
  sum_by false (t ∷ []) e =
      term_by (t.factor == 1 && (t.quotient == 0)) t.name t.factor t.quotient
      (λ h. let k = and_parts (t.factor == 1) (t.quotient == 0) h in (eqb-true t.factor 1 k.0, eqb-true t.quotient 0 k.1)) e
  sum_by false [] e = cc
  sum_by false (t ∷ u ∷ ts) e = cc
  sum_by true ts e = cc

  pub alone_is : (f : FormValue) → alone f ≡ Some n → collected names f ≡ add_found nothing (look n.bytes names) 0 (pos 1)
  alone_is f e = sum_by f.minus f.terms e
