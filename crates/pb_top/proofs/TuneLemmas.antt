-- `tune` has one answer.
use Rattle.std.proofs.Common.{◌≡◌, ◌∙◌, refl, sym, ap, ℕ, List, Result, Ok, Err, ◌⊎◌, inl, inr}
use Rattle.std.proofs.lemmas.Bool.{cases_eq}
use Rattle.pb_program.specs.Trees.{ProgTransform}
use Rattle.pb_program.specs.WellFormed.{IsWellFormed}
use Rattle.pb_config.specs.Texts.{config_text}
use Rattle.pb_check.specs.Accepting.{HasName, IsNowhere}
use Rattle.pb_check.specs.Orders.{AnalysisValue}
use Rattle.pb_check.specs.Sites.{all_sites}
use Rattle.pb_entry.specs.declared.refusal.RunRefusal.TheVariants.{UnknownTransform, WrongCount}
use Rattle.pb_entry.proofs.NamedLemmas.{enters_or_not, one_number}
use Rattle.pb_run_lines.specs.RunLines.{run_line}
use Rattle.pb_tuner.proofs.OneTuningLemmas.{one_tuning}
use Rattle.pb_tuner.proofs.SomeTuningLemmas.{some_tuning}
use Rattle.pb_top.specs.Reply.{Reply, done_reply, refusal_reply}
use Rattle.pb_top.specs.Tunes.{FindsNamed, PrintsTuned, Tunes, TunesProgram, costs_for}
use Rattle.pb_top.specs.declared.reply.Status.TheVariants.{Input}
use Rattle.pb_top.proofs.AcceptLemmas.{after_one, after_some}
use Rattle.pb_top.proofs.RunLemmas.{name_or_not}
use Rattle.pb_top.proofs.StepLemmas.{then_one, then_some}

-- ---- the transform of a name
module _ (p : List ProgTransform) (name : List ℕ) where
  named_once : IsWellFormed p → (t u : ℕ) → HasName p name t → HasName p name u → t ≡ u
  named_once well t u a b = by (cases_eq a.transform.inputs b.transform.inputs)
    where
      by : (a.transform.inputs ≡ b.transform.inputs) ⊎ (a.transform.inputs ≡ b.transform.inputs → ⊥) → t ≡ u
      by (inl same) = one_number p name well b.transform.inputs t u (record { named = a; count = same }) (record { named = b; count = refl })
      by (inr other) = absurd (enters_or_not p name well b.transform.inputs u (WrongCount a.transform.inputs b.transform.inputs)
          (record { named = b; count = refl }) (refl, record { number = t; named = a; count = refl; other = other }))

  named_one : IsWellFormed p → (x y : Result ℕ Reply) → FindsNamed p name x → FindsNamed p name y → x ≡ y
  named_one well (Ok t) (Ok u) left right = ap Ok (named_once well t u left right)
  named_one well (Ok t) (Err reply) left (none, is) = absurd (none t left.transform left.there left.named)
  named_one well (Err reply) (Ok t) (none, is) right = absurd (none t right.transform right.there right.named)
  named_one well (Err reply) (Err other) (none, is) (again, also) = ap Err (is ∙ sym also)

  named_some : (outcome : Result ℕ Reply) × FindsNamed p name outcome
  named_some = by (name_or_not p name)
    where
      by : ((t : ℕ) × HasName p name t) ⊎ IsNowhere p name → (outcome : Result ℕ Reply) × FindsNamed p name outcome
      by (inl (t, has)) = (Ok t, has)
      by (inr none) = (Err (refusal_reply Input (run_line p 0 name UnknownTransform)), (none, refl))

-- ---- the configuration
module _ (p : List ProgTransform) (found : List AnalysisValue) (up_to number : ℕ) where
  printed_one : (x y : Reply) → PrintsTuned p found up_to number x → PrintsTuned p found up_to number y → x ≡ y
  printed_one x y (c, a, is) (d, b, also) =
      let same = one_tuning (all_sites p found) up_to (costs_for p found number) a.asked b.asked c d a.tuned b.tuned a.told b.told in
      is ∙ ap (λ e. done_reply (config_text p e)) same.1 ∙ sym also

  printed_some : (reply : Reply) × PrintsTuned p found up_to number reply
  printed_some =
      let some = some_tuning (all_sites p found) up_to (costs_for p found number) in
      (done_reply (config_text p some.1), (some.1, record { asked = some.0; tuned = some.2; told = some.3 }, refl))

-- ---- all steps
module _ (name : List ℕ) (up_to : ℕ) where
  pub tunes_one : (program : List ℕ) (x y : Reply) → TunesProgram name up_to program x → TunesProgram name up_to program y → x ≡ y
  tunes_one =
      after_one (Tunes name up_to) (λ tree p found well sound are. then_one (FindsNamed p name) (PrintsTuned p found up_to) (named_one p name well) (printed_one p found up_to))

  pub tunes_some : (program : List ℕ) → (reply : Reply) × TunesProgram name up_to program reply
  tunes_some =
      after_some (Tunes name up_to) (λ tree p found well sound are. then_some (FindsNamed p name) (PrintsTuned p found up_to) (named_some p name) (printed_some p found up_to))
