-- A refusal of a transform is one of the program.
use Rattle.std.proofs.Common.{◌≡◌, ◌<◌, ℕ, List, [], ◌∷◌, ◌++◌, length, map, Result, Ok, Err, IsErr, IsErrAnd, sym, arith}
use Rattle.pb_syntax.specs.declared.token.Token.{Token}
use Rattle.pb_syntax.specs.declared.refusal.Item.TheVariants.{Transforms}
use Rattle.pb_form_parser.specs.declared.fault.Fault.{Fault}
use Rattle.pb_form_parser.specs.declared.fault.Fault.TheVariants as fault
use Rattle.pb_syntax.specs.Transforms.{TransformValue, TextValue}
use Rattle.pb_syntax.specs.Trees.{TransformTree, bare_transform}
use Rattle.pb_grammar.specs.Want.{Want, begin, a_transform, more_transforms}
use Rattle.pb_syntax.specs.Limits.{over}
use Rattle.pb_grammar.specs.Reading.{Verdict, read}
use Rattle.pb_form_parser.specs.Leads.{Fails, told}
use Rattle.pb_parser.specs.Gives.{Gives}
use Rattle.pb_parser.proofs.RuleLemmas.{next_transform}

fails_as : (e : Fault) {P Q : Type 0} → (P → Q) → Fails e P → Fails e Q
fails_as fault.Memory g p = tt
fails_as _ g p = g p

pub program_fails : (r : Result TextValue Fault) (e : Fault) (end : ℕ) (ts : List Token) (xs : List TransformValue) (n : ℕ) (v : Verdict)
    → IsErr r → IsErrAnd r (λ x. x ≡ e) → v ≡ read end ts (more_transforms (map bare_transform xs)) → 0 < length ts → n ≡ length xs
    → Fails e ((f : TransformTree → Want) → told (read end ts (begin (over Transforms n) (a_transform f))) ≡ Err e) → Gives r v
program_fails (Ok x) e end ts xs n v failed is same some count l = grind arith
program_fails (Err x) e end ts xs n v failed is same some count l = rw is (fails_as e (λ p. rw same (rw (next_transform end ts xs some) (rw (sym count) (p (λ x. more_transforms (map bare_transform xs ++ x ∷ [])))))) l)
