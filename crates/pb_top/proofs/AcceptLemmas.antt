-- A program has one answer of `check`, and what is written of it is written of itself.
use Rattle.std.proofs.Common.{◌≡◌, ℕ, ◌≤◌, length, arith, List, [], Result, Ok, Err, ◌⊎◌, inl, inr, sym, ap, subst, ◌∙◌, refl}
use Rattle.pb_prog.specs.Canonical.{canonical}
use Rattle.pb_program.specs.Trees.{ProgTransform}
use Rattle.pb_program.specs.Places.{unplaced_prog}
use Rattle.pb_program.specs.WellFormed.{IsWellFormed}
use Rattle.pb_syntax.specs.Trees.{TransformTree}
use Rattle.pb_syntax.specs.WithinLimits.{IsWithinLimits}
use Rattle.pb_syntax.specs.declared.limits.TheConstants.{MOST_BYTES}
use Rattle.pb_syntax.specs.declared.refusal.Refusal.{Refusal}
use Rattle.pb_front.specs.Reading.{IsRead, IsRefused}
use Rattle.pb_front.proofs.CanonicalLemmas.{read_again, its_own}
use Rattle.pb_front.proofs.ReadLemmas.{some_reading, one_tree, one_refusal, not_both}
use Rattle.pb_names.specs.Transforms.{HasRefusal, IsResolved, program_of, IsRefused as HasBadNames}
use Rattle.pb_names.proofs.LawLemmas.{some_answer, no_two, same_program, same_refusal}
use Rattle.pb_names.proofs.TransformsFit.{well_formed}
use Rattle.pb_names.proofs.UnplacedPrograms.{faultless_again, same_program as same_again}
use Rattle.pb_check.specs.Phases.{IsSound, IsRefused as IsUnsound}
use Rattle.pb_check.specs.Orders.{AnalysisValue, AreFound, AreNamed}
use Rattle.pb_check.proofs.NamedLemmas.{one_named, some_named}
use Rattle.pb_check.proofs.OrderedLemmas.{one_found, some_found}
use Rattle.pb_check.proofs.PhaseLemmas.{sound_or_refused, one_refusal as one_cause, not_both as sound_and_refused}
use Rattle.pb_check.proofs.PlaceLemmas.{sound_again}
use Rattle.pb_lines.specs.Lines.{refusal_line}
use Rattle.pb_top.specs.declared.reply.Status.TheVariants.{Program}
use Rattle.pb_top.specs.Reply.{Reply, done_reply, refusal_reply}
use Rattle.pb_top.specs.Steps.{AfterAccepted, AfterProgram, AfterResolved, OfProgram, Refuses, RefusesProgram, Reads, Resolves, Accepts}
use Rattle.pb_top.specs.Check.{CheckAnswers, Printed, Text}
use Rattle.pb_top.proofs.LineLemmas.{read_within}
use Rattle.pb_top.proofs.StepLemmas.{then_given, then_one_given}

-- one refusal has one line
refuses_one : (IsWhy : Refusal → Type 0) → ((e f : Refusal) → IsWhy e → IsWhy f → e ≡ f) → (x y : Reply) → Refuses IsWhy x → Refuses IsWhy y → x ≡ y
refuses_one IsWhy one x y (why, causes, is) (more, again, other) = is ∙ ap (λ w. refusal_reply Program (refusal_line [] [] w)) (one why more causes again) ∙ sym other

refusal_some : (IsWhy : Refusal → Type 0) (e : Refusal) → IsWhy e → (reply : Reply) × Refuses IsWhy reply
refusal_some IsWhy e causes = (refusal_reply Program (refusal_line [] [] e), (e, causes, refl))

program_one : (p : List ProgTransform) (x y : Reply) → RefusesProgram p x → RefusesProgram p y → x ≡ y
program_one p x y (why, nodes, causes, named, is) (more, others, again, also, other) =
    let same = one_cause p why more causes again in
    let segments = one_named p more nodes others (subst (λ e. AreNamed p e nodes) same named) also in
    is ∙ (λ i. refusal_reply Program (refusal_line p (segments i) (same i))) ∙ sym other

-- each step has one outcome
reads_one : (text : List ℕ) (x y : Result (List TransformTree) Reply) → Reads text x → Reads text y → x ≡ y
reads_one text (Ok tree) (Ok other) read again = ap Ok (one_tree text tree other read again)
reads_one text (Ok tree) (Err reply) read (why, causes, is) = absurd (not_both text tree why read causes)
reads_one text (Err reply) (Ok tree) (why, causes, is) read = absurd (not_both text tree why read causes)
reads_one text (Err reply) (Err other) x y = ap Err (refuses_one (IsRefused text) (one_refusal text) reply other x y)

resolves_one : (tree : List TransformTree) (x y : Result (List ProgTransform) Reply) → Resolves tree x → Resolves tree y → x ≡ y
resolves_one tree (Ok p) (Ok q) made again = ap Ok (same_program tree p q made again)
resolves_one tree (Ok p) (Err reply) made (why, causes, is) = absurd (no_two tree p why made causes)
resolves_one tree (Err reply) (Ok p) (why, causes, is) made = absurd (no_two tree p why made causes)
resolves_one tree (Err reply) (Err other) x y = ap Err (refuses_one (HasBadNames tree) (same_refusal tree) reply other x y)

accepts_one : (p : List ProgTransform) (x y : Result (List AnalysisValue) Reply) → Accepts p x → Accepts p y → x ≡ y
accepts_one p (Ok a) (Ok b) sound again = ap Ok (one_found p a b sound.1 again.1)
accepts_one p (Ok a) (Err reply) sound (why, nodes, causes, named, is) = absurd (sound_and_refused p why sound.0 causes)
accepts_one p (Err reply) (Ok a) (why, nodes, causes, named, is) sound = absurd (sound_and_refused p why sound.0 causes)
accepts_one p (Err reply) (Err other) x y = ap Err (program_one p reply other x y)

resolved_well : (tree : List TransformTree) (p : List ProgTransform) → IsWithinLimits tree → IsResolved tree p → IsWellFormed p
resolved_well tree p within made = subst IsWellFormed (sym made.program) (well_formed tree within made.faultless)

-- so has what follows, where it has at most one of an accepted program
module _ (Next : OfProgram) where
  pub after_one : ((tree : List TransformTree) (p : List ProgTransform) (found : List AnalysisValue) → IsWellFormed p → IsSound p → AreFound p found → (x y : Reply) → Next tree p found x → Next tree p found y → x ≡ y)
      → (program : List ℕ) (x y : Reply) → AfterProgram Next program x → AfterProgram Next program y → x ≡ y
  after_one each program =
      then_one_given (Reads program) (AfterResolved Next) (reads_one program)
      (λ tree read. then_one_given (Resolves tree) (AfterAccepted Next tree) (resolves_one tree)
      (λ p made. then_one_given (Accepts p) (Next tree p) (accepts_one p)
      (λ found sound. each tree p found (resolved_well tree p (read_within program tree read) made) sound.0 sound.1)))

-- and some outcome
read_by : (text : List ℕ) → ((tree : List TransformTree) × IsRead text tree) ⊎ ((why : Refusal) × IsRefused text why) → (outcome : Result (List TransformTree) Reply) × Reads text outcome
read_by text (inl (tree, read)) = (Ok tree, read)
read_by text (inr (why, causes)) = let some = refusal_some (IsRefused text) why causes in (Err some.0, some.1)

resolved_by : (tree : List TransformTree) → IsResolved tree (program_of tree) ⊎ HasRefusal tree → (outcome : Result (List ProgTransform) Reply) × Resolves tree outcome
resolved_by tree (inl made) = (Ok (program_of tree), made)
resolved_by tree (inr bad) = let some = refusal_some (HasBadNames tree) bad.why bad.told in (Err some.0, some.1)

accepted_by : (p : List ProgTransform) → IsSound p ⊎ ((e : Refusal) × IsUnsound p e) → (outcome : Result (List AnalysisValue) Reply) × Accepts p outcome
accepted_by p (inl sound) = let found = some_found p sound.ordered in (Ok found.0, (sound, found.1))
accepted_by p (inr (why, causes)) = let nodes = some_named p why causes in (Err (refusal_reply Program (refusal_line p nodes.0 why)), (why, nodes.0, causes, nodes.1, refl))

module _ (Next : OfProgram) where
  pub after_some : ((tree : List TransformTree) (p : List ProgTransform) (found : List AnalysisValue) → IsWellFormed p → IsSound p → AreFound p found → (reply : Reply) × Next tree p found reply)
      → (program : List ℕ) → (reply : Reply) × AfterProgram Next program reply
  after_some each program =
      then_given (Reads program) (AfterResolved Next) (read_by program (some_reading program))
      (λ tree read. then_given (Resolves tree) (AfterAccepted Next tree) (resolved_by tree (some_answer tree))
      (λ p made. let well = resolved_well tree p (read_within program tree read) made in
      then_given (Accepts p) (Next tree p) (accepted_by p (sound_or_refused p well)) (λ found sound. each tree p found well sound.0 sound.1)))

-- and so has what is printed
module _ (text : Text) where
  pub prints_one : (program : List ℕ) (x y : Reply) → AfterProgram (Printed text) program x → AfterProgram (Printed text) program y → x ≡ y
  prints_one = after_one (Printed text) (λ tree p found well sound are x y is other. is ∙ sym other)

  pub prints_some : (program : List ℕ) → (reply : Reply) × AfterProgram (Printed text) program reply
  prints_some = after_some (Printed text) (λ tree p found well sound are. (done_reply (text tree p found), refl))

-- what is written of a program is written of itself
not_done : (line text : List ℕ) → done_reply text ≡ refusal_reply Program line → ⊥
not_done line text is = omega (arith, ap (λ (r : Reply). r.status) is)

stays : (program text : List ℕ) (tree : List TransformTree) (p : List ProgTransform) → IsRead program tree → IsResolved tree p → IsSound p → done_reply text ≡ done_reply (canonical tree)
    → length text ≤ MOST_BYTES → CheckAnswers text (done_reply text)
stays program text tree p read made sound is short =
    let same : canonical tree ≡ text = sym (ap (λ (r : Reply). r.out) is) in
    let a = read_again program tree read (subst (λ t. length t ≤ MOST_BYTES) (sym same) short) in
    let again : IsResolved a.0 (program_of a.0) = record { faultless = faultless_again a.0 tree a.2 made.faultless; program = refl } in
    let unplaced_is : unplaced_prog (program_of a.0) ≡ unplaced_prog p = same_again a.0 tree a.2 ∙ ap unplaced_prog (sym made.program) in
    let good = sound_again (program_of a.0) p unplaced_is sound in
    let found = some_found (program_of a.0) good.ordered in
    inl (a.0, subst (λ t. IsRead t a.0) same a.1, inl (program_of a.0, again, inl (found.0, (good, found.1), is ∙ ap done_reply (sym (its_own program tree a.0 read a.1)))))

pub checked_stays : (program text : List ℕ) → CheckAnswers program (done_reply text) → length text ≤ MOST_BYTES → CheckAnswers text (done_reply text)
checked_stays program text (inr (why, causes, is)) short = absurd (not_done (refusal_line [] [] why) text is)
checked_stays program text (inl (tree, read, inr (why, causes, is))) short = absurd (not_done (refusal_line [] [] why) text is)
checked_stays program text (inl (tree, read, inl (p, made, inr (why, nodes, causes, named, is)))) short = absurd (not_done (refusal_line p nodes why) text is)
checked_stays program text (inl (tree, read, inl (p, made, inl (found, sound, is)))) short = stays program text tree p read made sound.0 is short
