-- Reading views, conditions and marks reads what they spell.
use Rattle.std.proofs.Common.{◌≡◌, ◌≢◌, ℕ, suc, ◌<◌, Bool, List, [], ◌∷◌, ◌++◌, length, Some, None, refl, sym, ◌∙◌, ap, subst, arith, append_assoc}
use Rattle.std.proofs.lemmas.List.{append-nil}
use Rattle.pb_syntax.specs.declared.token.Token.{Token}
use Rattle.pb_syntax.specs.declared.refusal.Item.{Item}
use Rattle.pb_syntax.specs.declared.refusal.Item.TheVariants as item
use Rattle.pb_syntax.specs.declared.kind.TokenKind.{TokenKind}
use Rattle.pb_syntax.specs.declared.kind.TokenKind.TheVariants as k
use Rattle.pb_syntax.specs.declared.tree.expression.Relation.{Relation}
use Rattle.pb_syntax.specs.declared.tree.view.ViewText.{ViewText}
use Rattle.pb_syntax.specs.declared.tree.view.UseText.{UseText}
use Rattle.pb_syntax.specs.declared.tree.view.CondText.{CondText}
use Rattle.pb_syntax.specs.Kinds.{Is}
use Rattle.pb_syntax.specs.Forms.{FormValue}
use Rattle.pb_syntax.specs.Operators.{condition_relation}
use Rattle.pb_syntax.specs.Grammar.{Commas, no_comma, a_comma, IsWord, IsForm, IsView, whole, cell_x, cell_xy, row, column, region_2, region_4, IsUse, a_use, IsReads, no_reads, some_reads, IsCond, a_cond, IsConds, no_conds, some_conds}
use Rattle.pb_syntax.specs.declared.limits.TheConstants.{MOST_VIEWS}
use Rattle.pb_syntax.specs.Limits.{limited, most, over}
use Rattle.pb_syntax.specs.TooMany.{TooMany, in_commas, in_form, in_view, in_use, in_reads, in_cond, in_conds}
use Rattle.pb_grammar.specs.Next.{next_kind}
use Rattle.pb_grammar.specs.Want.{Want, begin, form, use_line, condition_line, view_or_none, view_name, more_uses, reads, conditions, more_conditions}
use Rattle.pb_grammar.specs.Reading.{take, view_step, related, Verdict}
use Rattle.pb_grammar.proofs.Steps.{caught, distance, Ends, ends_at, Gives, plain, skip_view, took_begin, Takes, takes_by, counted_begin}
use Rattle.pb_grammar.proofs.FormLaws.{one_longer, reads_form, takes_form}

relation_ends : (kind : TokenKind) (r : Relation) → condition_relation kind ≡ Some r → 3 < distance kind
relation_ends k.Less r e = omega arith
relation_ends k.LessOrEqual r e = omega arith
relation_ends k.Greater r e = omega arith
relation_ends k.GreaterOrEqual r e = omega arith
relation_ends k.Equal r e = omega arith
relation_ends k.Unequal r e = absurd (cc)
relation_ends _ r e = absurd (cc)

module _ (lim : Bool) (end : ℕ) where
  -- a form that a token ends
  form_to : {kind : TokenKind} {x : FormValue} {t : Token} {all rest : List Token} (x' : IsForm x all (t ∷ rest)) (f : FormValue → Want) (l : List TooMany) (v : Verdict)
      → Is kind t → 3 < distance kind → Gives lim end (t ∷ rest) (f x) (caught lim l v)
      → Gives lim end all (form f) (caught lim (in_form x' l) v)
  form_to {t = t} {rest = rest} x f l v is d h = reads_form lim end x f l v (ends_at 3 t rest is d) h

  named : {n : List ℕ} {f : ViewText → Want} {w : Token} {ts : List Token} {next : Want} {c : Verdict} → IsWord n w
      → view_step n f ≡ take None next → Gives lim end ts next c → Gives lim end (w ∷ ts) (view_name f) c
  named {f = f} is s h = plain lim end is.0 (ap (λ (a : List ℕ). view_step a f) is.1 ∙ s) h

  pub reads_view : {x : ViewText} {all rest : List Token} (x' : IsView x all rest) (f : ViewText → Want) (l : List TooMany) (v : Verdict)
      → next_kind rest ≢ k.Dot → Gives lim end rest (f x) (caught lim l v) → Gives lim end all (view_or_none f) (caught lim (in_view x' l) v)
  reads_view (whole {rest = rest}) f l v e h = skip_view lim end rest e h
  reads_view (cell_x d w o x c) f l v e h =
      plain lim end d refl (named w refl (plain lim end o refl (form_to x _ l v c (omega arith) (plain lim end c refl h))))
  reads_view (cell_xy d w o x m y c) f l v e h =
      plain lim end d refl (named w refl (plain lim end o refl (form_to x _ _ v m (omega arith) (plain lim end m refl
      (form_to y _ l v c (omega arith) (plain lim end c refl h))))))
  reads_view (row d w o y c) f l v e h =
      plain lim end d refl (named w refl (plain lim end o refl (form_to y _ l v c (omega arith) (plain lim end c refl h))))
  reads_view (column d w o x c) f l v e h =
      plain lim end d refl (named w refl (plain lim end o refl (form_to x _ l v c (omega arith) (plain lim end c refl h))))
  reads_view (region_2 d w o x m y c) f l v e h =
      plain lim end d refl (named w refl (plain lim end o refl (form_to x _ _ v m (omega arith) (plain lim end m refl
      (form_to y _ l v c (omega arith) (plain lim end c refl h))))))
  reads_view (region_4 d w o x m y p z q u c) f l v e h =
      plain lim end d refl (named w refl (plain lim end o refl (form_to x _ _ v m (omega arith) (plain lim end m refl
      (form_to y _ _ v p (omega arith) (plain lim end p refl (form_to z _ _ v q (omega arith) (plain lim end q refl
      (form_to u _ l v c (omega arith) (plain lim end c refl h))))))))))

  pub reads_use : {u : UseText} {all rest : List Token} (u' : IsUse u all rest) (f : UseText → Want) (l : List TooMany) (v : Verdict)
      → Gives lim end rest (f u) (caught lim l v) → Gives lim end all (use_line f) (caught lim (in_use u' l) v)
  reads_use (a_use m x b) f l v h = plain lim end m refl (reads_view x _ l v (λ e. (cc)) (plain lim end b refl h))

  pub takes_use : {u : UseText} {all rest : List Token} (u' : IsUse u all rest) (f : UseText → Want) → Takes lim end all (use_line f)
  takes_use (a_use m x b) f = takes_by lim end m refl

  -- there may be 16 of both kinds of use
  sized_begin : {next : Want} {ts : List Token} {c : Verdict} (what : Item) → most what ≡ 16 → (n : ℕ)
      → Gives lim end ts (begin (over what n) next) c → Gives lim end ts (begin (limited MOST_VIEWS n what) next) c
  sized_begin {next = next} {ts = ts} {c = c} what e n h = subst (λ (a : ℕ). Gives lim end ts (begin (limited a n what) next) c) e h

  pub reads_more_uses : {us : List UseText} {t : Token} {all rest : List Token} (what : Item) (size : most what ≡ 16) (n : ℕ) (us' : Commas IsUse us all (t ∷ rest)) (is : Is k.Close t)
      (found : List UseText) (f : List UseText → Want) (l : List TooMany) (v : Verdict) → length found ≡ n
      → Gives lim end rest (f (found ++ us)) (caught lim l v)
      → Gives lim end all (more_uses what found f) (caught lim (in_commas what (λ x a b. in_use) n us' l) v)
  reads_more_uses {rest = rest} what size n no_comma is found f l v s h =
      plain lim end is refl (subst (λ (a : List UseText). Gives lim end rest (f a) (caught lim l v)) (append-nil found) h)
  reads_more_uses {rest = rest} what size n (a_comma {x = a} {xs = bs} i x xs) is found f l v s h =
      plain lim end i refl (sized_begin what size (length found) (counted_begin lim end what (length found) n s (took_begin lim end (over what n) _ v (takes_use x (λ u. more_uses what (found ++ u ∷ []) f))
      (reads_use x (λ u. more_uses what (found ++ u ∷ []) f) _ v (reads_more_uses what size (suc n) xs is (found ++ a ∷ []) f l v (one_longer found a n s)
      (subst (λ (b : List UseText). Gives lim end rest (f b) (caught lim l v)) (sym (append_assoc found (a ∷ []) bs)) h))))))

  pub reads_reads : {us : List UseText} {t : Token} {all rest : List Token} (us' : IsReads us all (t ∷ rest)) (is : Is k.Close t)
      (f : List UseText → Want) (l : List TooMany) (v : Verdict)
      → Gives lim end rest (f us) (caught lim l v) → Gives lim end all (reads f) (caught lim (in_reads us' l) v)
  reads_reads no_reads is f l v h = plain lim end is refl h
  reads_reads (some_reads {u = a} (a_use m x b) us) is f l v h =
      plain lim end m refl (reads_view x _ _ v (λ e. (cc)) (plain lim end b refl (reads_more_uses item.Reads refl 1 us is (a ∷ []) f l v refl h)))

  pub reads_cond : {c : CondText} {all rest : List Token} (c' : IsCond c all rest) (f : CondText → Want) (l : List TooMany) (v : Verdict)
      → Ends 3 rest → Gives lim end rest (f c) (caught lim l v) → Gives lim end all (condition_line f) (caught lim (in_cond c' l) v)
  reads_cond (a_cond {t = t} {mid = mid} {r = r} a is b) f l v e h =
      reads_form lim end a _ _ v (relation_ends _ r is) (plain lim end refl (ap (related _) is) (reads_form lim end b _ l v e h))

  takes_cond : {c : CondText} {all rest : List Token} (c' : IsCond c all rest) (f : CondText → Want) → Takes lim end all (condition_line f)
  takes_cond (a_cond a is b) f = takes_form lim end a _

  conds_end : {cs : List CondText} {all rest : List Token} → Commas IsCond cs all rest → Ends 3 rest → Ends 3 all
  conds_end no_comma e = e
  conds_end (a_comma {t = t} {all = all} is x xs) e = ends_at 3 t all is (omega arith)

  reads_more_conds : {cs : List CondText} {t : Token} {all rest : List Token} (n : ℕ) (cs' : Commas IsCond cs all (t ∷ rest)) (is : Is k.OpenBrace t)
      (found : List CondText) (f : List CondText → Want) (l : List TooMany) (v : Verdict) → length found ≡ n
      → Gives lim end rest (f (found ++ cs)) (caught lim l v)
      → Gives lim end all (more_conditions found f) (caught lim (in_commas item.Conditions (λ x a b. in_cond) n cs' l) v)
  reads_more_conds {rest = rest} n no_comma is found f l v s h =
      plain lim end is refl (subst (λ (a : List CondText). Gives lim end rest (f a) (caught lim l v)) (append-nil found) h)
  reads_more_conds {t = t} {rest = rest} n (a_comma {x = a} {xs = bs} i x xs) is found f l v s h =
      plain lim end i refl (counted_begin lim end item.Conditions (length found) n s (took_begin lim end (over item.Conditions n) _ v
      (takes_cond x (λ c. more_conditions (found ++ c ∷ []) f))
      (reads_cond x (λ c. more_conditions (found ++ c ∷ []) f) _ v (conds_end xs (ends_at 3 t rest is (omega arith)))
      (reads_more_conds (suc n) xs is (found ++ a ∷ []) f l v (one_longer found a n s)
      (subst (λ (b : List CondText). Gives lim end rest (f b) (caught lim l v)) (sym (append_assoc found (a ∷ []) bs)) h)))))

  pub reads_conds : {cs : List CondText} {t : Token} {all rest : List Token} (cs' : IsConds cs all (t ∷ rest)) (is : Is k.OpenBrace t)
      (f : List CondText → Want) (l : List TooMany) (v : Verdict)
      → Gives lim end rest (f cs) (caught lim l v) → Gives lim end all (conditions f) (caught lim (in_conds cs' l) v)
  reads_conds no_conds is f l v h = plain lim end is refl h
  reads_conds {t = t} {rest = rest} (some_conds {c = a} w c cs) is f l v h =
      plain lim end w refl (took_begin lim end None _ v (takes_cond c (λ c. more_conditions (c ∷ []) f))
      (reads_cond c (λ c. more_conditions (c ∷ []) f) _ v (conds_end cs (ends_at 3 t rest is (omega arith))) (reads_more_conds 1 cs is (a ∷ []) f l v refl h)))
