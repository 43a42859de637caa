-- Reading a program reads what it spells.
use Rattle.std.proofs.Common.{◌≡◌, ◌≢◌, ℕ, suc, ◌+◌, Bool, true, false, List, [], ◌∷◌, ◌++◌, length, Option, None, refl, sym, ap, subst, append_assoc}
use Rattle.std.proofs.lemmas.List.{append-nil}
use Rattle.pb_syntax.specs.declared.token.Token.{Token}
use Rattle.pb_syntax.specs.declared.refusal.Item.{Item}
use Rattle.pb_syntax.specs.declared.refusal.Item.TheVariants as item
use Rattle.pb_syntax.specs.declared.kind.TokenKind.{TokenKind}
use Rattle.pb_syntax.specs.declared.kind.TokenKind.TheVariants as k
use Rattle.pb_syntax.specs.declared.tree.view.MarkText.{MarkText}
use Rattle.pb_syntax.specs.Kinds.{Is, name_in}
use Rattle.pb_syntax.specs.Forms.{DeclValue}
use Rattle.pb_syntax.specs.Trees.{RuleTree, TransformTree}
use Rattle.pb_syntax.specs.Grammar.{IsMark, unmarked, primary, secondary, priority, IsThrough, no_through, some_through, a_block, IsRule, a_rule, IsRules, no_rules, one_rule, IsTransform, a_transform, IsTransforms, no_transforms, one_transform, IsProgram, a_program}
use Rattle.pb_syntax.specs.Limits.{over, too_great}
use Rattle.pb_syntax.specs.TooMany.{TooMany, begun, in_mark, in_rule, in_rules, in_transform, in_transforms, in_program}
use Rattle.pb_grammar.specs.Next.{next_kind}
use Rattle.pb_grammar.specs.Want.{Want, with_conditions, with_reads, with_outs, with_out, with_rules, with_to, with_kept, with_from, with_minimums, more_rules, rule, after_mark, after_transform, more_transforms, program}
use Rattle.pb_grammar.specs.Reading.{take, marked, mark_step, step, Verdict, accepted}
use Rattle.pb_grammar.proofs.Steps.{caught, Gives, plain, noted, marks, took_begin}
use Rattle.pb_grammar.proofs.FormLaws.{one_longer}
use Rattle.pb_grammar.proofs.HeaderLaws.{reads_minimums, reads_decls, reads_through, not_comma}
use Rattle.pb_grammar.proofs.ViewLaws.{reads_use, takes_use, reads_more_uses, reads_reads, reads_conds}
use Rattle.pb_grammar.proofs.StmtLaws.{reads_stmts}

-- a want that reads a rule as the next thing, with this mark
abbrev ReadsRule : Option Item → Want → (RuleTree → Want) → Type 0
ReadsRule m w f = (t : Token) (kind : TokenKind) → kind ≢ k.CloseBrace → step w kind t ≡ marked t.at m (mark_step f kind)

one_rule_reads : (f : RuleTree → Want) → ReadsRule None (rule f) f
one_rule_reads f t kind n = refl

more_rules_read : (rs : List RuleTree) (f : List RuleTree → Want) → ReadsRule (over item.Rules (length rs)) (more_rules rs f) (λ r. more_rules (rs ++ r ∷ []) f)
more_rules_read rs f t k.CloseBrace n = absurd (n refl)
more_rules_read rs f t _ n = refl

through_first : {ds : List DeclValue} {t : Token} {all rest : List Token} → IsThrough ds all (t ∷ rest) → Is k.To t → next_kind all ≢ k.Comma
through_first no_through is e = cc
through_first (some_through i ds) is e = cc

module _ (lim : Bool) (end : ℕ) where
  reads_mark : {a : MarkText} {t : Token} {all rest : List Token} (a' : IsMark a all (t ∷ rest)) (is : Is k.To t) (m : Option Item) (w : Want) (f : RuleTree → Want)
      (same : ReadsRule m w f) (l : List TooMany) (v : Verdict)
      → Gives lim end rest (after_mark a f) (caught lim l v) → Gives lim end all w (caught lim (begun m all (in_mark a' l)) v)
  unfolding after_mark
  reads_mark {t = t} unmarked is m w f same l v h = marks lim end m l v is (same t k.To (λ e. cc)) h
  reads_mark (primary {t = t} i) is m w f same l v h = marks lim end m l v i (same t k.Primary (λ e. cc)) (plain lim end is refl h)
  reads_mark (secondary {t = t} i) is m w f same l v h = marks lim end m l v i (same t k.Secondary (λ e. cc)) (plain lim end is refl h)
  reads_mark (priority {t = t} {n = n} i o j c) is m w f same l v h =
      marks lim end m _ v i (same t k.Priority (λ e. cc)) (plain lim end o refl (noted lim end (too_great n) l v j refl (plain lim end c refl (plain lim end is refl h))))

  reads_rule : {r : RuleTree} {all rest : List Token} (r' : IsRule r all rest) (m : Option Item) (w : Want) (f : RuleTree → Want) (same : ReadsRule m w f)
      (l : List TooMany) (v : Verdict) → Gives lim end rest (f r) (caught lim l v) → Gives lim end all w (caught lim (begun m all (in_rule r' l)) v)
  unfolding after_mark
  reads_rule (a_rule {m = z} {u = u} {us = us'} {rs = rs'} {cs = cs'} a t o x us c from p rs q cs (a_block b ss)) m w f same l v h =
      reads_mark a t m w f same _ v (plain lim end o refl (took_begin lim end None _ v (takes_use lim end x (with_out z f)) (reads_use lim end x (with_out z f) _ v
      (reads_more_uses lim end item.Outputs refl 1 us c (u ∷ []) (with_outs z f) _ v refl (plain lim end from refl (plain lim end p refl
      (reads_reads lim end rs q (with_reads z f (u ∷ us')) _ v (reads_conds lim end cs b (with_conditions z f (u ∷ us') rs') _ v
      (reads_stmts lim end ss 1 0 [] (λ body n. f (record { mark = z; outs = u ∷ us'; reads = rs'; conds = cs'; body = body })) l v h)))))))))

  reads_rules : {rs : List RuleTree} {t : Token} {all rest : List Token} (n : ℕ) (rs' : IsRules rs all (t ∷ rest)) (is : Is k.CloseBrace t)
      (found : List RuleTree) (f : List RuleTree → Want) (l : List TooMany) (v : Verdict) → length found ≡ n
      → Gives lim end rest (f (found ++ rs)) (caught lim l v) → Gives lim end all (more_rules found f) (caught lim (in_rules n rs' l) v)
  reads_rules {rest = rest} n no_rules is found f l v s h =
      plain lim end is refl (subst (λ (a : List RuleTree). Gives lim end rest (f a) (caught lim l v)) (append-nil found) h)
  reads_rules {rest = rest} n (one_rule {r = a} {rs = bs} {all = all} r rs) is found f l v s h =
      subst (λ (b : ℕ). Gives lim end all (more_rules found f) (caught lim (begun (over item.Rules b) all (in_rule r (in_rules (suc n) rs l))) v)) s
      (reads_rule r (over item.Rules (length found)) (more_rules found f) (λ x. more_rules (found ++ x ∷ []) f) (more_rules_read found f) _ v
      (reads_rules (suc n) rs is (found ++ a ∷ []) f l v (one_longer found a n s)
      (subst (λ (b : List RuleTree). Gives lim end rest (f b) (caught lim l v)) (sym (append_assoc found (a ∷ []) bs)) h)))

  reads_transform : {x : TransformTree} {all rest : List Token} (x' : IsTransform x all rest) (m : Option Item) (w : Want) (f : TransformTree → Want)
      (same : (t : Token) → step w k.Transform t ≡ marked t.at m (take None (after_transform f)))
      (l : List TooMany) (v : Verdict) → Gives lim end rest (f x) (caught lim l v) → Gives lim end all w (caught lim (begun m all (in_transform x' l)) v)
  reads_transform (a_transform {ms = ms'} {from = given} {kept = kept} {to = to'} {r = a} {t = t} {n = n'} {b = b'} {mid₄ = mid₄} i n ms from ds th o to b r rs c) m w f same l v h =
      let z = name_in n' in
      let next = λ (x : RuleTree). more_rules (x ∷ []) (with_rules z ms' given kept to' f) in
      marks lim end m _ v i (same t) (plain lim end n refl (reads_minimums lim end ms from (with_minimums z f) _ v
      (reads_decls lim end 0 true ds (with_from z ms' f) _ v (through_first th o) (reads_through lim end (length given) th o (with_kept z ms' given f) _ v
      (reads_decls lim end (length given + length kept) false to (with_to z ms' given kept f) _ v (not_comma lim end b' mid₄ b (λ e. cc)) (plain lim end b refl
      (reads_rule r None (rule next) next (one_rule_reads next) _ v
      (reads_rules 1 rs c (a ∷ []) (with_rules z ms' given kept to' f) l v refl h))))))))

  reads_transforms : {xs : List TransformTree} {all : List Token} (n : ℕ) (xs' : IsTransforms xs all []) (found : List TransformTree) → length found ≡ n
      → Gives lim end all (more_transforms found) (caught lim (in_transforms n xs' []) (accepted (found ++ xs)))
  reads_transforms n no_transforms found s = record { is = nothing lim }
    where
      nothing : (b : Bool) → accepted found ≡ caught b [] (accepted (found ++ []))
      nothing true = sym (ap accepted (append-nil found))
      nothing false = sym (ap accepted (append-nil found))
  reads_transforms n (one_transform {x = a} {xs = bs} {all = all} {mid = mid} x xs) found s =
      subst (λ (b : ℕ). Gives lim end all (more_transforms found) (caught lim (begun (over item.Transforms b) all (in_transform x (in_transforms (suc n) xs []))) (accepted (found ++ a ∷ bs)))) s
      (reads_transform x (over item.Transforms (length found)) (more_transforms found) (λ y. more_transforms (found ++ y ∷ [])) (λ t. refl) _ _
      (subst (λ (b : List TransformTree). Gives lim end mid (more_transforms (found ++ a ∷ [])) (caught lim (in_transforms (suc n) xs []) (accepted b)))
      (append_assoc found (a ∷ []) bs) (reads_transforms (suc n) xs (found ++ a ∷ []) (one_longer found a n s))))

  pub reads_program : {xs : List TransformTree} {all : List Token} (p : IsProgram xs all) → Gives lim end all program (caught lim (in_program p) (accepted xs))
  reads_program (a_program {x = a} x xs) = reads_transform x None program (λ y. more_transforms (y ∷ [])) (λ t. refl) _ _ (reads_transforms 1 xs (a ∷ []) refl)
