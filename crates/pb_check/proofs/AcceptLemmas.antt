-- A text is accepted as one program or refused for one reason.
use Rattle.std.proofs.Common.{◌≡◌, ◌⊎◌, inl, inr, sym, subst, ℕ, List}
use Rattle.pb_syntax.specs.Trees.{TransformTree}
use Rattle.pb_syntax.specs.WithinLimits.{IsWithinLimits}
use Rattle.pb_syntax.specs.declared.refusal.Refusal.{Refusal}
use Rattle.pb_syntax.specs.declared.refusal.Refusal.TheVariants.{Memory}
use Rattle.pb_front.proofs.Handed.{lexemes, within_limits}
use Rattle.pb_front.specs.Reading.{IsRead, IsRefused as IsUnread}
use Rattle.pb_front.proofs.ReadLemmas.{some_reading, one_tree, one_refusal as one_unread, not_both as read_and_unread}
use Rattle.pb_resolve.specs.Handed.{HasRefusal, IsResolved, program_of, IsRefused as HasBadNames}
use Rattle.pb_resolve.proofs.Handed.{some_answer, no_two, same_program, same_refusal, well_formed}
use Rattle.pb_program.specs.Trees.{ProgTransform}
use Rattle.pb_program.specs.WellFormed.{IsWellFormed}
use Rattle.pb_check.specs.Accepting.{IsTextAccepted, IsTextRefused}
use Rattle.pb_check.specs.Phases.{IsSound, IsRefused}
use Rattle.pb_check.proofs.PhaseLemmas.{not_both, one_refusal, sound_or_refused}

-- a tree that was read is within the limits
pub read_within : (text : List ℕ) (tree : List TransformTree) → IsRead text tree → IsWithinLimits tree
read_within text tree read = within_limits read.tokens tree (lexemes text read.tokens read.spelled) read.accepted

resolved_well : (tree : List TransformTree) (p : List ProgTransform) → IsWithinLimits tree → IsResolved tree p → IsWellFormed p
resolved_well tree p within made = subst IsWellFormed (sym made.program) (well_formed tree within made.faultless)

-- what is refused after the text
abbrev IsLater : List TransformTree → Refusal → Type 0
IsLater tree e = HasBadNames tree e ⊎ ((p : List ProgTransform) × IsResolved tree p × IsRefused p e)

module _ (text : List ℕ) where
  abbrev Answer : Type 0
  Answer = ((p : List ProgTransform) × IsTextAccepted text p) ⊎ ((e : Refusal) × IsTextRefused text e)

  by_program : (tree : List TransformTree) (p : List ProgTransform) → IsRead text tree → IsResolved tree p → IsSound p ⊎ ((e : Refusal) × IsRefused p e) → Answer
  by_program tree p read resolved (inl sound) = inl (p, record { tree = tree; read = read; resolved = resolved; sound = sound })
  by_program tree p read resolved (inr (e, bad)) = inr (e, inr (tree, read, inr (p, resolved, bad)))

  by_names : (tree : List TransformTree) → IsRead text tree → IsResolved tree (program_of tree) ⊎ HasRefusal tree → Answer
  by_names tree read (inl resolved) = by_program tree (program_of tree) read resolved (sound_or_refused (program_of tree) (resolved_well tree (program_of tree) (read_within text tree read) resolved))
  by_names tree read (inr bad) = inr (bad.why, inr (tree, read, inl bad.told))

  by_tree : ((tree : List TransformTree) × IsRead text tree) ⊎ ((why : Refusal) × IsUnread text why) → Answer
  by_tree (inl (tree, read)) = by_names tree read (some_answer tree)
  by_tree (inr (why, bad)) = inr (why, inl bad)

  pub some_text : Answer
  some_text = by_tree (some_reading text)

  pub one_program : (p q : List ProgTransform) → IsTextAccepted text p → IsTextAccepted text q → p ≡ q
  one_program p q h k = same_program k.tree p q (subst (λ t. IsResolved t p) (one_tree text h.tree k.tree h.read k.read) h.resolved) k.resolved

  one_later : (tree : List TransformTree) (e f : Refusal) → IsLater tree e → IsLater tree f → e ≡ f
  one_later tree e f (inl h) (inl k) = same_refusal tree e f h k
  one_later tree e f (inl h) (inr (p, made, bad)) = absurd (no_two tree p e made h)
  one_later tree e f (inr (p, made, bad)) (inl k) = absurd (no_two tree p f made k)
  one_later tree e f (inr (p, made, bad)) (inr (q, again, worse)) = one_refusal q e f (subst (λ x. IsRefused x e) (same_program tree p q made again) bad) worse

  pub one_cause : (e f : Refusal) → IsTextRefused text e → IsTextRefused text f → e ≡ f
  one_cause e f (inl h) (inl k) = one_unread text e f h k
  one_cause e f (inl h) (inr (tree, read, later)) = absurd (read_and_unread text tree e read h)
  one_cause e f (inr (tree, read, later)) (inl k) = absurd (read_and_unread text tree f read k)
  one_cause e f (inr (tree, read, later)) (inr (other, again, too)) = one_later other e f (subst (λ t. IsLater t e) (one_tree text tree other read again) later) too

  pub accepted_or_refused : (p : List ProgTransform) (e : Refusal) → IsTextAccepted text p → IsTextRefused text e → ⊥
  accepted_or_refused p e h (inl k) = read_and_unread text h.tree e h.read k
  accepted_or_refused p e h (inr (tree, read, inl k)) = no_two tree p e (subst (λ t. IsResolved t p) (one_tree text h.tree tree h.read read) h.resolved) k
  accepted_or_refused p e h (inr (tree, read, inr (q, made, bad))) =
      let same = same_program tree p q (subst (λ t. IsResolved t p) (one_tree text h.tree tree h.read read) h.resolved) made in
      not_both q e (subst IsSound same h.sound) bad

-- ---- how the code comes to it
pub text_refused : (text : List ℕ) (e : Refusal) → (e ≡ Memory) ⊎ IsUnread text e → (e ≡ Memory) ⊎ IsTextRefused text e
text_refused text e (inl is) = inl is
text_refused text e (inr bad) = inr (inl bad)

pub names_refused : (text : List ℕ) (tree : List TransformTree) (e : Refusal) → IsRead text tree → (e ≡ Memory) ⊎ HasBadNames tree e → (e ≡ Memory) ⊎ IsTextRefused text e
names_refused text tree e read (inl is) = inl is
names_refused text tree e read (inr bad) = inr (inr (tree, read, inl bad))

pub phase_refused : (text : List ℕ) (tree : List TransformTree) (p : List ProgTransform) (e : Refusal) → IsRead text tree → IsResolved tree p → (e ≡ Memory) ⊎ IsRefused p e → (e ≡ Memory) ⊎ IsTextRefused text e
phase_refused text tree p e read made (inl is) = inl is
phase_refused text tree p e read made (inr bad) = inr (inr (tree, read, inr (p, made, bad)))

pub text_accepted : (text : List ℕ) (tree : List TransformTree) (p : List ProgTransform) → IsRead text tree → IsResolved tree p → IsSound p → IsTextAccepted text p
text_accepted text tree p read made sound = record { tree = tree; read = read; resolved = made; sound = sound }
