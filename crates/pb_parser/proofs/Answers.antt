-- What the parser answers, from what reading gives.
use Rattle.std.proofs.Common.{◌≡◌, ℕ, ◌⊎◌, inl, inr, List, Result, Ok, Err, refl, subst, ap}
use Rattle.std.specs.Result.{IfOk, IfErr}
use Rattle.pb_syntax.specs.declared.token.Token.{Token}
use Rattle.pb_syntax.specs.declared.refusal.Refusal.TheVariants as refusal
use Rattle.pb_syntax.specs.Transforms.{TextValue}
use Rattle.pb_syntax.specs.Trees.{TransformTree, bare_text}
use Rattle.pb_syntax.specs.Faults.{AreRefused, Accepted}
use Rattle.pb_grammar.specs.Want.{program}
use Rattle.pb_grammar.specs.Reading.{Verdict, accepted, bad, too_many, read}
use Rattle.pb_grammar.specs.Meaning.{Means}
use Rattle.pb_grammar.proofs.Exact.{read_means}
use Rattle.pb_form_parser.specs.declared.fault.Fault.{Fault}
use Rattle.pb_form_parser.specs.declared.fault.Fault.TheVariants.{BadSyntax, OverLimit, Memory}
use Rattle.pb_form_parser.specs.Leads.{Fails, told}
use Rattle.pb_parser.specs.Gives.{refusal_of, refused_with, Gives}

abbrev IsOk : Result (List TransformTree) Fault → Type 0
IsOk (Ok t) = Unit {0}
IsOk (Err x) = ⊥

abbrev fault_of : Result (List TransformTree) Fault → Fault
fault_of (Ok t) = Memory
fault_of (Err x) = x

module _ (tokens : List Token) (end : ℕ) where
  -- the fault of a verdict is refused as it should be
  refused_as : (c : Verdict) (x : Fault) → Means tokens end c → told c ≡ Err x → (refusal_of x ≡ refusal.Memory) ⊎ AreRefused tokens end (refusal_of x)
  refused_as (accepted tree) x m e = absurd (subst IsOk e tt)
  refused_as (bad left at) x m e = inr (subst (λ y. AreRefused tokens end (refusal_of y)) (ap fault_of e) m)
  refused_as (too_many what left at) x m e = inr (subst (λ y. AreRefused tokens end (refusal_of y)) (ap fault_of e) m)

  unless_memory : (x : Fault) → Fails x (told (read end tokens program) ≡ Err x) → (refusal_of x ≡ refusal.Memory) ⊎ AreRefused tokens end (refusal_of x)
  unless_memory Memory h = inl refl
  unless_memory (BadSyntax at) h = refused_as (read end tokens program) (BadSyntax at) (read_means end tokens) h
  unless_memory (OverLimit what at) h = refused_as (read end tokens program) (OverLimit what at) (read_means end tokens) h

  pub found : (r : Result TextValue Fault) → Gives r (read end tokens program) → IfOk (refused_with r) (λ t. Accepted (bare_text t) tokens)
  found (Ok t) g = subst (Means tokens end) g (read_means end tokens)
  found (Err x) g = tt

  pub refused : (r : Result TextValue Fault) → Gives r (read end tokens program) → IfErr (refused_with r) (λ e. (e ≡ refusal.Memory) ⊎ AreRefused tokens end e)
  refused (Ok t) g = tt
  refused (Err x) g = unless_memory x g
