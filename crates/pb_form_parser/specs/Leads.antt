-- What the functions of the parser promise: whatever is wanted afterwards, reading from where they began is reading
-- from where they ended.
use Rattle.std.specs.Prelude.{◌≡◌, ◌≤◌, ◌<◌, List, length, OnOk, Result, Ok, Err}
use Rattle.pb_form_parser.specs.declared.fault.Fault.{Fault}
use Rattle.pb_form_parser.specs.declared.fault.Fault.TheVariants.{BadSyntax, OverLimit, Memory}
use Rattle.pb_syntax.specs.Trees.{TransformTree}
use Rattle.pb_form_parser.specs.declared.cursor.Cursor.{Cursor}
use Rattle.pb_grammar.specs.Want.{Want}
use Rattle.pb_grammar.specs.Reading.{Verdict, accepted, bad, too_many, read}

-- the refusal of a verdict
abbrev pub told : Verdict → Result (List TransformTree) Fault
told (accepted ts) = Ok ts
told (bad left at) = Err (BadSyntax at)
told (too_many what left at) = Err (OverLimit what at)

-- memory may run out
abbrev pub Fails : Fault → Type 0 → Type 0
Fails Memory P = Unit {0}
Fails _ P = P

abbrev pub from : Cursor → Want → Verdict
from c w = read c.end c.rest.now w

abbrev pub Leads : {A B : Type 0} → (A → B) → Result A Fault → ((B → Want) → Want) → Cursor → Cursor → Type 0
Leads {A} {B} view (Ok x) want before after = (f : B → Want) → from before (want f) ≡ from after (f (view x))
Leads {A} {B} view (Err e) want before after = Fails e ((f : B → Want) → told (from before (want f)) ≡ Err e)

-- the same where nothing that is read counts afterwards
abbrev pub LeadsOn : {A : Type 0} → Result A Fault → (Want → Want) → Cursor → Cursor → Type 0
LeadsOn {A} (Ok x) want before after = (w : Want) → from before (want w) ≡ from after w
LeadsOn {A} (Err e) want before after = Fails e ((w : Want) → told (from before (want w)) ≡ Err e)

-- tokens were consumed, if nothing failed
abbrev pub Shortens : {A : Type 0} → Result A Fault → Cursor → Cursor → Type 0
Shortens result before after = OnOk result (length after.rest.now < length before.rest.now)

-- there may be fewer tokens left, and never more
abbrev pub NeverGrows : {A : Type 0} → Result A Fault → Cursor → Cursor → Type 0
NeverGrows result before after = OnOk result (length after.rest.now ≤ length before.rest.now)
