-- `demo` has one answer, and its two runs give it.
use Rattle.std.proofs.Common.{◌≡◌, ◌∙◌, refl, sym, ap, ℕ, zero, suc, List, ◌++◌, Some, Result, Ok, Err, ◌⊎◌, inl, inr, All, length, ◌≤◌, arith}
use Rattle.std.proofs.lemmas.Bool.{cases_eq}
use Rattle.pb_matrix.specs.Value.{MatrixValue}
use Rattle.pb_demo.specs.Demonstrations.{demo_config, demo_transform}
use Rattle.pb_gen.specs.Examples.{IsInput, example_of}
use Rattle.pb_gen.specs.Texts.{text_of}
use Rattle.pb_unroll.specs.Handed.{IsWhole}
use Rattle.pb_top.specs.Demos.{DemoAnswers, DemoRun, HasText, Summarizes, demo_name}
use Rattle.pb_top.specs.Reply.{Reply, done_reply}
use Rattle.pb_top.specs.Steps.{Then}
use Rattle.pb_top.specs.Working.{StopsWith}
use Rattle.pb_top.specs.declared.reply.Stop.{Stop}
use Rattle.pb_top.specs.declared.reply.Stop.TheVariants.{Memory, Refused, Unread}
use Rattle.pb_top.proofs.RunLemmas.{EndsOnce, run_with_one, run_with_some}
use Rattle.pb_top.proofs.StepLemmas.{stops_map, then_one, then_some}

-- ---- one run
summarizes_once : (name : List ℕ) → EndsOnce (Summarizes name)
summarizes_once name = record { one = λ r x y is also. is ∙ sym also; some = λ r. (_, refl) }

module _ (which seed size : ℕ) where
  run_one : (x y : Reply) → DemoRun which seed size x → DemoRun which seed size y → x ≡ y
  run_one = run_with_one (demo_transform which) 64 16 (Summarizes (demo_name which)) (summarizes_once (demo_name which)) (Some (demo_config which)) (example_of which seed size) (text_of which)

  run_some : (reply : Reply) × DemoRun which seed size reply
  run_some = run_with_some (demo_transform which) 64 16 (Summarizes (demo_name which)) (summarizes_once (demo_name which)) (Some (demo_config which)) (example_of which seed size) (text_of which)

-- ---- its text
module _ (Says : Reply → Type 0) where
  text_one : ((x y : Reply) → Says x → Says y → x ≡ y) → (x y : Result (List ℕ) Reply) → HasText Says x → HasText Says y → x ≡ y
  text_one one (Ok a) (Ok b) (r, says, done, is) (s, also, done_too, other) = ap Ok (is ∙ ap (λ (x : Reply). x.out) (one r s says also) ∙ sym other)
  text_one one (Ok a) (Err e) (r, says, done, is) (also, bad) = absurd (bad (ap (λ (x : Reply). x.status) (one e r also says) ∙ done))
  text_one one (Err e) (Ok a) (also, bad) (r, says, done, is) = absurd (bad (ap (λ (x : Reply). x.status) (one e r also says) ∙ done))
  text_one one (Err e) (Err f) (says, bad) (also, too) = ap Err (one e f says also)

  text_some : ((reply : Reply) × Says reply) → (outcome : Result (List ℕ) Reply) × HasText Says outcome
  text_some some = by (cases_eq some.0.status 0)
    where
      by : (some.0.status ≡ 0) ⊎ (some.0.status ≡ 0 → ⊥) → (outcome : Result (List ℕ) Reply) × HasText Says outcome
      by (inl done) = (Ok some.0.out, (some.0, some.1, done, refl))
      by (inr bad) = (Err some.0, (some.1, bad))

  -- a text that was made is that of a reply
  has_text : (text : List ℕ) → Says (done_reply text) → HasText Says (Ok text)
  has_text text says = (done_reply text, says, refl, refl)

  -- what stops the work is no text
  text_stops : (next : List ℕ → Reply → Type 0) (stop : Stop) → StopsWith Says stop → StopsWith (Then (HasText Says) next) stop
  text_stops next Memory stops = tt
  text_stops next (Refused status line) stops = (stops.0, inr (stops.1, λ e. omega (arith, stops.0.0, e)))
  text_stops next (Unread line) stops = absurd stops

-- ---- both
module _ (seed size : ℕ) where
  abbrev First : Reply → Type 0
  First = DemoRun 0 seed size

  abbrev Second : Reply → Type 0
  Second = DemoRun 1 seed size

  abbrev Both : List ℕ → List ℕ → Reply → Type 0
  Both first second reply = reply ≡ done_reply (first ++ second)

  pub demo_one : (x y : Reply) → DemoAnswers seed size x → DemoAnswers seed size y → x ≡ y
  demo_one =
      then_one (HasText First) (λ first. Then (HasText Second) (Both first)) (text_one First (run_one 0 seed size))
      (λ first. then_one (HasText Second) (Both first) (text_one Second (run_one 1 seed size)) (λ second x y is also. is ∙ sym also))

  pub demo_some : (reply : Reply) × DemoAnswers seed size reply
  demo_some =
      then_some (HasText First) (λ first. Then (HasText Second) (Both first)) (text_some First (run_some 0 seed size))
      (λ first. then_some (HasText Second) (Both first) (text_some Second (run_some 1 seed size)) (λ second. (_, refl)))

  pub first_stops : (stop : Stop) → StopsWith First stop → StopsWith (DemoAnswers seed size) stop
  first_stops = text_stops First (λ first. Then (HasText Second) (Both first))

  module _ (first : List ℕ) (says : First (done_reply first)) where
    after_first : (reply : Reply) → Then (HasText Second) (Both first) reply → DemoAnswers seed size reply
    after_first reply more = inl (first, has_text First first says, more)

    pub second_stops : (stop : Stop) → StopsWith Second stop → StopsWith (DemoAnswers seed size) stop
    second_stops stop stops = stops_map (Then (HasText Second) (Both first)) (DemoAnswers seed size) after_first stop (text_stops Second (Both first) stop stops)

    pub both_done : (second text : List ℕ) → Second (done_reply second) → text ≡ first ++ second → DemoAnswers seed size (done_reply text)
    both_done second text also is = after_first (done_reply text) (inl (second, has_text Second second also, ap done_reply is))

-- ---- its matrices
-- those that are drawn can be given to a run
whole : (m : MatrixValue) → IsInput m → IsWhole m
whole m is = record { cells = is.cells; small = is.fits }

pub are_whole : (ms : List MatrixValue) → All IsInput ms → All IsWhole ms
are_whole ms are k d below = whole _ (are k d below)

pub few_inputs : (which seed size : ℕ) (ms : List MatrixValue) → ms ≡ example_of which seed size → length ms ≤ 16
few_inputs zero seed size ms is = omega (arith, ap length is)
few_inputs (suc which) seed size ms is = omega (arith, ap length is)
