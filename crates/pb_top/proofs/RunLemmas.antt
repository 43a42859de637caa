-- A run has one answer.
use Rattle.std.proofs.Common.{◌≡◌, ◌∙◌, refl, sym, ap, subst, ℕ, zero, suc, Bool, true, false, nat_lt, cond, IsTrue, ◌↔◌, List, [], ◌∷◌, length, flat_map, filter_map, take, Option, Some, None, slice_get, Result, Ok, Err, ◌⊎◌, inl, inr, arith}
use Rattle.std.specs.List.{list_all, position_from}
use Rattle.std.specs.Str.{bytes_eq}
use Rattle.std.specs.Str.Lines.{lines}
use Rattle.std.proofs.lemmas.Bool.{cases_lt}
use Rattle.std.proofs.lemmas.Slice.Eq.{bytes_eq-Decides}
use Rattle.pb_values.specs.declared.shape.Shape.{Shape}
use Rattle.pb_program.specs.Configs.{ConfigValue}
use Rattle.pb_program.specs.Trees.{ProgTransform}
use Rattle.pb_program.specs.WellFormed.{IsTransform, IsWellFormed}
use Rattle.pb_region.proofs.SmallLemmas.{at_place}
use Rattle.pb_matrix.specs.Words.{is_blank, is_gap, words, cell_number, is_faulty}
use Rattle.pb_matrix.specs.Header.{header_shape, cell_count as cells_wanted}
use Rattle.pb_matrix.specs.Value.{MatrixValue}
use Rattle.pb_matrix.specs.Reading.{judged, after_header, lines_read, matrix_read}
use Rattle.pb_matrix.specs.declared.matrix.MatrixRefusal.{MatrixRefusal}
use Rattle.pb_matrix.specs.declared.matrix.MatrixRefusal.TheVariants.{BadHeader, BadNumber, TooFew, TooMany, Memory}
use Rattle.pb_config.specs.declared.refusal.ConfigRefusal.{ConfigRefusal}
use Rattle.pb_check.specs.Accepting.{HasName, IsNowhere}
use Rattle.pb_check.specs.Orders.{AnalysisValue}
use Rattle.pb_check.specs.Phases.{IsBounded, IsSound}
use Rattle.pb_check.proofs.FirstLemmas.{all_at}
use Rattle.pb_entry.specs.Entering.{CannotEnter, Enters}
use Rattle.pb_entry.specs.Fitting.{AreBound, AreUnfit, IsEnterable}
use Rattle.pb_entry.specs.declared.refusal.RunRefusal.{RunRefusal}
use Rattle.pb_entry.specs.declared.refusal.RunRefusal.TheVariants.{TooLarge, UnknownTransform, WrongCount}
use Rattle.pb_entry.proofs.LawLemmas.{not_both, one_list, one_refusal}
use Rattle.pb_entry.proofs.NamedLemmas.{enters_or_not, one_number, one_reason}
use Rattle.pb_entry.proofs.SomeLemmas.{some_answer}
use Rattle.pb_recursion.specs.Counts.{Counted}
use Rattle.pb_unroll.specs.Handed.{given_as}
use Rattle.pb_unroll.specs.Handed.{counted}
use Rattle.pb_run_lines.specs.RunLines.{config_line, run_line}
use Rattle.pb_top.specs.Reply.{Reply, IsFaultyInput, refusal_reply}
use Rattle.pb_top.specs.Steps.{Each}
use Rattle.pb_top.specs.Runs.{AfterAccept, AfterAcceptWith, AfterConfig, AfterConfigWith, AfterFit, AfterInputs, AfterName, AfterTransform, Configures, FindsTransform, Fits, Fitting, IsWithin, ReadsInput, RunReplies, RunsProgram, RunsWith, call_steps, config_said}
use Rattle.pb_top.specs.declared.reply.Status.TheVariants as status
use Rattle.pb_top.proofs.AcceptLemmas.{after_one, after_some}
use Rattle.pb_top.proofs.LimitLemmas.{none_within, passes_one, within_or_not}
use Rattle.pb_top.proofs.StepLemmas.{each_length, each_one, each_some, then_given, then_one_given}

-- whether something holds
abbrev Decided : Type 0 → Type 0
Decided P = P ⊎ (P → ⊥)

-- ---- configurations
config_one : (p : List ProgTransform) (text : Option (List ℕ)) (x y : Result ConfigValue Reply) → Configures p text x → Configures p text y → x ≡ y
config_one p text (Ok c) (Ok d) left right = let same : Ok c ≡ Ok d = sym left ∙ right in cc
config_one p text (Ok c) (Err reply) left (why, said, is) = let same : Ok c ≡ Err why = sym left ∙ said in absurd (cc)
config_one p text (Err reply) (Ok d) (why, said, is) right = let same : Ok d ≡ Err why = sym right ∙ said in absurd (cc)
config_one p text (Err reply) (Err other) (why, said, is) (more, again, also) =
    let same : Err why ≡ Err more = sym said ∙ again in
    let one : why ≡ more = cc in
    ap Err (is ∙ ap (λ e. refusal_reply status.Config (config_line e)) one ∙ sym also)

config_some : (p : List ProgTransform) (text : Option (List ℕ)) → (outcome : Result ConfigValue Reply) × Configures p text outcome
config_some p text = by (config_said p text) refl
  where
    by : (said : Result ConfigValue ConfigRefusal) → config_said p text ≡ said → (outcome : Result ConfigValue Reply) × Configures p text outcome
    by (Ok c) is = (Ok c, is)
    by (Err why) is = (Err (refusal_reply status.Config (config_line why)), (why, is, refl))

-- ---- transforms
transform_one : (p : List ProgTransform) → IsWellFormed p → (name : List ℕ) (given : ℕ) (x y : Result ℕ Reply) → FindsTransform p name given x → FindsTransform p name given y → x ≡ y
transform_one p well name given (Ok t) (Ok u) left right = ap Ok (one_number p name well given t u left right)
transform_one p well name given (Ok t) (Err reply) left (why, cannot, is) = absurd (enters_or_not p name well given t why left cannot)
transform_one p well name given (Err reply) (Ok t) (why, cannot, is) right = absurd (enters_or_not p name well given t why right cannot)
transform_one p well name given (Err reply) (Err other) (why, cannot, is) (more, again, also) =
    ap Err (is ∙ ap (λ e. refusal_reply status.Input (run_line p 0 name e)) (one_reason p name well given why more cannot again) ∙ sym also)

same_bytes : (xs ys : List ℕ) → Decided (xs ≡ ys)
same_bytes xs ys = by (bytes_eq xs ys) (bytes_eq-Decides xs ys)
  where
    by : (b : Bool) → IsTrue b ↔ (xs ≡ ys) → Decided (xs ≡ ys)
    by true is = inl (is.0 refl)
    by false is = inr (λ e. let never : false ≡ true = is.1 e in cc)

pub name_or_not : (p : List ProgTransform) (name : List ℕ) → ((t : ℕ) × HasName p name t) ⊎ IsNowhere p name
name_or_not [] name = inr (λ t transform at named. absurd (cc))
name_or_not (x ∷ p) name = by (same_bytes x.name.bytes name) (name_or_not p name)
  where
    nowhere : (x.name.bytes ≡ name → ⊥) → IsNowhere p name → IsNowhere (x ∷ p) name
    nowhere other none zero transform at named = let is : x ≡ transform = cc in absurd (other (ap (λ (t : ProgTransform). t.name.bytes) is ∙ named))
    nowhere other none (suc t) transform at named = none t transform at named

    by : Decided (x.name.bytes ≡ name) → ((t : ℕ) × HasName p name t) ⊎ IsNowhere p name → ((t : ℕ) × HasName (x ∷ p) name t) ⊎ IsNowhere (x ∷ p) name
    by (inl is) rest = inl (0, record { transform = x; there = refl; named = is })
    by (inr other) (inl (t, has)) = inl (suc t, record { transform = has.transform; there = has.there; named = has.named })
    by (inr other) (inr none) = inr (nowhere other none)

transform_some : (p : List ProgTransform) (name : List ℕ) (given : ℕ) → (outcome : Result ℕ Reply) × FindsTransform p name given outcome
transform_some p name given = by (name_or_not p name)
  where
    cannot : (why : RunRefusal) → CannotEnter p name given why → (outcome : Result ℕ Reply) × FindsTransform p name given outcome
    cannot why causes = (Err (refusal_reply status.Input (run_line p 0 name why)), (why, causes, refl))

    counted : (t : ℕ) (has : HasName p name t) → Decided (has.transform.inputs ≡ given) → (outcome : Result ℕ Reply) × FindsTransform p name given outcome
    counted t has (inl count) = (Ok t, record { named = has; count = count })
    counted t has (inr other) = cannot (WrongCount has.transform.inputs given) (refl, record { number = t; named = has; count = refl; other = other })

    same_number : (a b : ℕ) → Decided (a ≡ b)
    same_number a b = elim (cases_lt a b) [
      | inl less ↦ inr (λ e. absurd (omega (arith, less, e)))
      | inr most ↦ elim (cases_lt b a) [ inl more ↦ inr (λ e. absurd (omega (arith, more, e))) | inr least ↦ inl (omega (arith, most, least)) ]
    ]

    by : ((t : ℕ) × HasName p name t) ⊎ IsNowhere p name → (outcome : Result ℕ Reply) × FindsTransform p name given outcome
    by (inl (t, has)) = counted t has (same_number has.transform.inputs given)
    by (inr none) = cannot UnknownTransform none

-- ---- inputs
one_fault : (file : List ℕ) (refusal : MatrixRefusal) (x y : Reply) → IsFaultyInput file refusal x → IsFaultyInput file refusal y → x ≡ y
one_fault file BadHeader x y left right = left ∙ sym right
one_fault file (BadNumber word) x y left right = left ∙ sym right
one_fault file (TooFew wanted found) x y left right = left ∙ sym right
one_fault file (TooMany wanted) x y left right = left ∙ sym right
one_fault file Memory x y left right = absurd left

input_one : (file : List ℕ × List ℕ) (x y : Result MatrixValue Reply) → ReadsInput file x → ReadsInput file y → x ≡ y
input_one file (Ok m) (Ok n) left right = let same : Ok m ≡ Ok n = sym left ∙ right in cc
input_one file (Ok m) (Err reply) left (why, read, is) = let same : Ok m ≡ Err why = sym left ∙ read in absurd (cc)
input_one file (Err reply) (Ok m) (why, read, is) right = let same : Ok m ≡ Err why = sym right ∙ read in absurd (cc)
input_one file (Err reply) (Err other) (why, read, is) (more, again, also) =
    let same : Err why ≡ Err more = sym read ∙ again in
    let one : more ≡ why = cc in
    ap Err (one_fault file.0 why reply other is (subst (λ e. IsFaultyInput file.0 e other) one also))

-- reading a matrix never tells of memory
abbrev NoMemory : Result MatrixValue MatrixRefusal → Type 0
NoMemory (Ok matrix) = Unit {0}
NoMemory (Err Memory) = ⊥
NoMemory (Err other) = Unit {0}

either_way : (b : Bool) (x y : Result MatrixValue MatrixRefusal) → NoMemory x → NoMemory y → NoMemory (cond b x y)
either_way true x y left right = left
either_way false x y left right = right

judged_without : (shape : Shape) (found : List (List ℕ)) (fault : Option ℕ) → NoMemory (judged shape found fault)
judged_without shape found (Some word) = tt
judged_without shape found None =
    let rest : Result MatrixValue MatrixRefusal = Ok (record { shape = shape; cells = filter_map cell_number found }) in
    let many : Result MatrixValue MatrixRefusal = Err (TooMany (cells_wanted shape)) in
    let past = nat_lt (cells_wanted shape) (length found) in
    either_way (nat_lt (length found) (cells_wanted shape)) (Err (TooFew (cells_wanted shape) (length found))) (cond past many rest) tt
    (either_way past many rest tt tt)

header_without : (shape : Option Shape) (found : List (List ℕ)) → NoMemory (after_header shape found)
header_without (Some shape) found = judged_without shape found (position_from is_faulty 0 (take (cells_wanted shape) found))
header_without None found = tt

lines_without : (text : List (List ℕ)) → NoMemory (lines_read text)
lines_without [] = tt
lines_without (line ∷ rest) =
    let header = header_shape (words is_blank line) in
    let body = flat_map (words is_gap) rest in
    either_way (list_all is_blank line) (lines_read rest) (after_header header body) (lines_without rest) (header_without header body)

faulty_some : (file : List ℕ) (refusal : MatrixRefusal) → NoMemory (Err refusal) → (reply : Reply) × IsFaultyInput file refusal reply
faulty_some file BadHeader some = (_, refl)
faulty_some file (BadNumber word) some = (_, refl)
faulty_some file (TooFew wanted found) some = (_, refl)
faulty_some file (TooMany wanted) some = (_, refl)
faulty_some file Memory some = absurd some

input_some : (file : List ℕ × List ℕ) → (outcome : Result MatrixValue Reply) × ReadsInput file outcome
input_some file = by (matrix_read file.1) refl (lines_without (lines file.1))
  where
    by : (read : Result MatrixValue MatrixRefusal) → matrix_read file.1 ≡ read → NoMemory read → (outcome : Result MatrixValue Reply) × ReadsInput file outcome
    by (Ok matrix) is some = (Ok matrix, is)
    by (Err why) is some = let reply = faulty_some file.0 why some in (Err reply.0, (why, is, reply.1))

-- ---- sizes
fits_one : (p : List ProgTransform) (name : List ℕ) (number : ℕ) (t : ProgTransform) (inputs : List MatrixValue) (x y : Result (List ℕ) Reply) → Fits p name number t inputs x → Fits p name number t inputs y → x ≡ y
fits_one p name number t inputs (Ok sizes) (Ok others) left right = ap Ok (one_list t inputs sizes others left right)
fits_one p name number t inputs (Ok sizes) (Err reply) left (why, unfit, is) = absurd (not_both t inputs sizes why left unfit)
fits_one p name number t inputs (Err reply) (Ok sizes) (why, unfit, is) right = absurd (not_both t inputs sizes why right unfit)
fits_one p name number t inputs (Err reply) (Err other) (why, unfit, is) (more, again, also) =
    ap Err (is ∙ ap (λ e. refusal_reply status.Input (run_line p number name e)) (one_refusal t inputs why more unfit again) ∙ sym also)

fits_some : (p : List ProgTransform) (name : List ℕ) (number : ℕ) (t : ProgTransform) (inputs : List MatrixValue) → IsEnterable t → length inputs ≡ t.inputs → (outcome : Result (List ℕ) Reply) × Fits p name number t inputs outcome
fits_some p name number t inputs enterable count = by (some_answer t inputs enterable count)
  where
    by : ((sizes : List ℕ) × AreBound t inputs sizes) ⊎ ((e : RunRefusal) × AreUnfit t inputs e) → (outcome : Result (List ℕ) Reply) × Fits p name number t inputs outcome
    by (inl (sizes, bound)) = (Ok sizes, bound)
    by (inr (why, unfit)) = (Err (refusal_reply status.Input (run_line p number name why)), (why, unfit, refl))

-- ---- counts
module _ (r : Fitting) where
  abbrev counts : Counted
  counts = counted r.program r.found r.config r.grain r.depth r.number (given_as r.inputs)

  within_one : (name : List ℕ) (x y : Result (Unit {0}) Reply) → IsWithin r name x → IsWithin r name y → x ≡ y
  within_one name (Ok u) (Ok v) left right = refl
  within_one name (Ok u) (Err reply) left (why, passes, is) = absurd (none_within counts (call_steps r) left.counts left.tasks left.links why passes)
  within_one name (Err reply) (Ok u) (why, passes, is) right = absurd (none_within counts (call_steps r) right.counts right.tasks right.links why passes)
  within_one name (Err reply) (Err other) (why, passes, is) (more, again, also) =
      ap Err (is ∙ ap (λ e. refusal_reply status.TooLarge (run_line r.program r.number name e)) (passes_one counts (call_steps r) why more passes again) ∙ sym also)

  within_some : (name : List ℕ) → (outcome : Result (Unit {0}) Reply) × IsWithin r name outcome
  within_some name =
      elim (within_or_not counts (call_steps r)) [
        | inl few ↦ (Ok tt, record { counts = few.0; tasks = few.1; links = few.2 })
        | inr many ↦ (Err (refusal_reply status.TooLarge (run_line r.program r.number name (TooLarge many.0))), (TooLarge many.0, many.1, refl))
      ]

-- ---- all steps
some_same : {A : Type 0} (x y : A) → Some x ≡ Some y → x ≡ y
some_same x y e = cc

enterable : (p : List ProgTransform) (number : ℕ) (t : ProgTransform) → IsWellFormed p → IsSound p → slice_get p number ≡ Some t → IsEnterable t
enterable p number t well sound at = record {
  transforms = length p;
  well_formed = at_place (IsTransform (length p)) p number t well.transforms at;
  sides = (all_at IsBounded p number t sound.bounded at).sides;
}

-- what is asked of a run at its end has one reply
pub record EndsOnce (End : Fitting → Reply → Type 0) : Type 0 where
  pub one : (r : Fitting) (x y : Reply) → End r x → End r y → x ≡ y
  pub some : (r : Fitting) → (reply : Reply) × End r reply

module _ (name : List ℕ) (depth grain : ℕ) (End : Fitting → Reply → Type 0) (once : EndsOnce End) (p : List ProgTransform) (found : List AnalysisValue) (well : IsWellFormed p) (sound : IsSound p) where
  module _ (config : ConfigValue) (number : ℕ) where
    abbrev fitting : ProgTransform → List MatrixValue → List ℕ → Fitting
    fitting t inputs sizes = record { program = p; found = found; config = config; number = number; transform = t; inputs = inputs; sizes = sizes; depth = depth; grain = grain }

    sized_one : (t : ProgTransform) (inputs : List MatrixValue) (x y : Reply) → AfterTransform name depth grain End p found config number t inputs x → AfterTransform name depth grain End p found config number t inputs y → x ≡ y
    sized_one t inputs =
        then_one_given (Fits p name number t inputs) (λ sizes. AfterFit name depth grain End (fitting t inputs sizes)) (fits_one p name number t inputs)
        (λ sizes bound. then_one_given (IsWithin (fitting t inputs sizes) name) (λ u. End (fitting t inputs sizes)) (within_one (fitting t inputs sizes) name) (λ u within. once.one (fitting t inputs sizes)))

    fed_one : (inputs : List MatrixValue) (x y : Reply) → AfterInputs name depth grain End p found config number inputs x → AfterInputs name depth grain End p found config number inputs y → x ≡ y
    fed_one inputs x y (t, at, left) (u, at_too, right) =
        let same = some_same t u (sym at ∙ at_too) in
        sized_one u inputs x y (subst (λ s. AfterTransform name depth grain End p found config number s inputs x) same left) right

    fed_some : (given : ℕ) (inputs : List MatrixValue) → Enters p name given number → length inputs ≡ given → (reply : Reply) × AfterInputs name depth grain End p found config number inputs reply
    fed_some given inputs enters count =
        let t = enters.named.transform in
        let some = then_given (Fits p name number t inputs) (λ sizes. AfterFit name depth grain End (fitting t inputs sizes))
        (fits_some p name number t inputs (enterable p number t well sound enters.named.there) (count ∙ sym enters.count))
        (λ sizes bound. then_given (IsWithin (fitting t inputs sizes) name) (λ u. End (fitting t inputs sizes)) (within_some (fitting t inputs sizes) name) (λ u within. once.some (fitting t inputs sizes))) in
        (some.0, (t, enters.named.there, some.1))

  accepted_one : (text : Option (List ℕ)) (files : List (List ℕ × List ℕ)) (x y : Reply) → AfterAccept name depth grain End p found text files x → AfterAccept name depth grain End p found text files y → x ≡ y
  accepted_one text files =
      then_one_given (Configures p text) (AfterConfig name depth grain End p found files) (config_one p text)
      (λ config said. then_one_given (FindsTransform p name (length files)) (λ number. AfterName name depth grain End p found config number files) (transform_one p well name (length files))
      (λ number enters. then_one_given (Each ReadsInput files) (AfterInputs name depth grain End p found config number) (each_one ReadsInput input_one files)
      (λ inputs read. fed_one config number inputs)))

  accepted_some : (text : Option (List ℕ)) (files : List (List ℕ × List ℕ)) → (reply : Reply) × AfterAccept name depth grain End p found text files reply
  accepted_some text files =
      then_given (Configures p text) (AfterConfig name depth grain End p found files) (config_some p text)
      (λ config said. then_given (FindsTransform p name (length files)) (λ number. AfterName name depth grain End p found config number files) (transform_some p name (length files))
      (λ number enters. then_given (Each ReadsInput files) (AfterInputs name depth grain End p found config number) (each_some ReadsInput input_some files)
      (λ inputs read. fed_some config number (length files) inputs enters (each_length ReadsInput files inputs read))))

  accepted_with_one : (text : Option (List ℕ)) (inputs : List MatrixValue) (x y : Reply) → AfterAcceptWith name depth grain End p found text inputs x → AfterAcceptWith name depth grain End p found text inputs y → x ≡ y
  accepted_with_one text inputs =
      then_one_given (Configures p text) (AfterConfigWith name depth grain End p found inputs) (config_one p text)
      (λ config said. then_one_given (FindsTransform p name (length inputs)) (λ number. AfterInputs name depth grain End p found config number inputs) (transform_one p well name (length inputs))
      (λ number enters. fed_one config number inputs))

  accepted_with_some : (text : Option (List ℕ)) (inputs : List MatrixValue) → (reply : Reply) × AfterAcceptWith name depth grain End p found text inputs reply
  accepted_with_some text inputs =
      then_given (Configures p text) (AfterConfigWith name depth grain End p found inputs) (config_some p text)
      (λ config said. then_given (FindsTransform p name (length inputs)) (λ number. AfterInputs name depth grain End p found config number inputs) (transform_some p name (length inputs))
      (λ number enters. fed_some config number (length inputs) inputs enters refl))

replies_once : EndsOnce RunReplies
replies_once = record { one = λ r x y is also. is ∙ sym also; some = λ r. (_, refl) }

module _ (name : List ℕ) (depth grain : ℕ) (text : Option (List ℕ)) (files : List (List ℕ × List ℕ)) where
  pub run_one : (program : List ℕ) (x y : Reply) → RunsProgram name depth grain RunReplies program text files x → RunsProgram name depth grain RunReplies program text files y → x ≡ y
  run_one = after_one (λ tree p found. AfterAccept name depth grain RunReplies p found text files) (λ tree p found well sound are. accepted_one name depth grain RunReplies replies_once p found well sound text files)

  pub run_some : (program : List ℕ) → (reply : Reply) × RunsProgram name depth grain RunReplies program text files reply
  run_some = after_some (λ tree p found. AfterAccept name depth grain RunReplies p found text files) (λ tree p found well sound are. accepted_some name depth grain RunReplies replies_once p found well sound text files)

-- with matrices in the place of files
module _ (name : List ℕ) (depth grain : ℕ) (End : Fitting → Reply → Type 0) (once : EndsOnce End) (text : Option (List ℕ)) (inputs : List MatrixValue) where
  pub run_with_one : (program : List ℕ) (x y : Reply) → RunsWith name depth grain End program text inputs x → RunsWith name depth grain End program text inputs y → x ≡ y
  run_with_one = after_one (λ tree p found. AfterAcceptWith name depth grain End p found text inputs) (λ tree p found well sound are. accepted_with_one name depth grain End once p found well sound text inputs)

  pub run_with_some : (program : List ℕ) → (reply : Reply) × RunsWith name depth grain End program text inputs reply
  run_with_some = after_some (λ tree p found. AfterAcceptWith name depth grain End p found text inputs) (λ tree p found well sound are. accepted_with_some name depth grain End once p found well sound text inputs)
