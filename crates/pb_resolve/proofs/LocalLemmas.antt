-- The matrices that statements declare.
use Rattle.std.proofs.Common.{◌≡◌, ℕ, ◌+◌, ◌<◌, ◌≤◌, List, [], ◌∷◌, ◌++◌, length, get_or, drop, map, refl, ap, ◌∙◌, sym, add-one, append_assoc}
use Rattle.std.specs.List.{AllByRecursion, flat_map}
use Rattle.std.proofs.Math.Seq.{drop-cons}
use Rattle.std.proofs.lemmas.List.{append-nil, drop_all}
use Rattle.pb_syntax.specs.declared.tree.statement.StmtText.{StmtText}
use Rattle.pb_syntax.specs.Stmts.{bare_stmt}
use Rattle.pb_syntax.specs.WithinLimits.{StmtWithin}
use Rattle.pb_program.specs.declared.meaning.Meaning.{Meaning}
use Rattle.pb_program.specs.Forms.{DeclValue}
use Rattle.pb_names.specs.Rules.{locals_of}
use Rattle.pb_resolve.specs.Locals.{local_in, IsWithin}

locals_are : (names : List (List ℕ × Meaning)) (ss : List StmtText) → flat_map (local_in names) ss ≡ locals_of names (map bare_stmt ss)
unfolding local_in
locals_are names [] = refl
locals_are names (s ∷ ss) = ap (λ l. local_in names s ++ l) (locals_are names ss)

pub all_within : (ss : List StmtText) → AllByRecursion (StmtWithin 1) (map bare_stmt ss) → AllByRecursion IsWithin ss
unfolding IsWithin
all_within [] h = h
all_within (s ∷ ss) h = (h.0, all_within ss h.1)

module _ (names : List (List ℕ × Meaning)) (ss : List StmtText) (i : ℕ) (found : List DeclValue) (left : found ++ flat_map (local_in names) (drop i ss) ≡ flat_map (local_in names) ss) where
  pub local_next : (x : StmtText) (new : List DeclValue) → i < length ss → x ≡ get_or ss i x → new ≡ found ++ local_in names x → new ++ flat_map (local_in names) (drop (i + 1) ss) ≡ flat_map (local_in names) ss
  local_next x new within here put = ap (λ l. l ++ flat_map (local_in names) (drop (i + 1) ss)) put ∙ append_assoc found (local_in names x) (flat_map (local_in names) (drop (i + 1) ss))
      ∙ ap (λ l. found ++ flat_map (local_in names) l) (sym next_is) ∙ left
    where
      next_is : drop i ss ≡ x ∷ drop (i + 1) ss
      next_is = rw (add-one, drop-cons ss i x) (rw (← here) refl)

  pub locals_end : length ss ≤ i → found ≡ locals_of names (map bare_stmt ss)
  locals_end end = sym (append-nil found) ∙ ap (λ l. found ++ flat_map (local_in names) l) (sym (drop_all i ss end)) ∙ left ∙ locals_are names ss
