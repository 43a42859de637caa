-- What the parser as a whole promises.
use Rattle.std.specs.Prelude.{◌≡◌, Result, Ok, Err}
use Rattle.pb_form_parser.specs.declared.fault.Fault.{Fault}
use Rattle.pb_form_parser.specs.declared.fault.Fault.TheVariants as fault
use Rattle.pb_syntax.specs.declared.refusal.Refusal.{Refusal}
use Rattle.pb_syntax.specs.declared.refusal.Refusal.TheVariants as refusal
use Rattle.pb_syntax.specs.Transforms.{TextValue}
use Rattle.pb_syntax.specs.Trees.{bare_text}
use Rattle.pb_grammar.specs.Reading.{Verdict, accepted}
use Rattle.pb_form_parser.specs.Leads.{Fails, told}

-- the refusal that a fault is
abbrev pub refusal_of : Fault → Refusal
refusal_of (fault.BadSyntax at) = refusal.BadSyntax at
refusal_of (fault.OverLimit what at) = refusal.OverLimit what at
refusal_of fault.Memory = refusal.Memory

abbrev pub refused_with : Result TextValue Fault → Result TextValue Refusal
refused_with (Ok t) = Ok t
refused_with (Err e) = Err (refusal_of e)

-- the tree or the fault that reading gives, unless memory ran out
abbrev pub Gives : Result TextValue Fault → Verdict → Type 0
Gives (Ok t) verdict = verdict ≡ accepted (bare_text t)
Gives (Err e) verdict = Fails e (told verdict ≡ Err e)
