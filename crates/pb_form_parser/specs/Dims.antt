-- The sizes that are counted while dimensions are read.
use Rattle.std.specs.Prelude.{◌≡◌, ℕ, List, map, Vec, Option, Some, None, Result, Ok, Err}
use Rattle.std.specs.Borrow.{Bor}
use Rattle.std.specs.declared.alloc.Global.{Global}
use Rattle.pb_values.specs.Name.{NameValue}
use Rattle.pb_form_parser.specs.declared.fault.Fault.{Fault}
use Rattle.pb_form_parser.specs.declared.fault.Fault.TheVariants.{OverLimit}
use Rattle.pb_syntax.specs.Forms.{FormValue}
use Rattle.pb_syntax.specs.Trees.{TransformTree}
use Rattle.pb_syntax.specs.Limits.{SizeNames, after_form, sizes_in}
use Rattle.pb_syntax.specs.Limits.{Excess, excess_of}
use Rattle.pb_form_parser.specs.Leads.{Fails}

abbrev pub names_of : List NameValue → List (List ℕ)
names_of ns = map (λ (n : NameValue). n.bytes) ns

-- the name after a reference
abbrev pub name_seen : Option (Bor NameValue) → Option NameValue
name_seen None = None
name_seen (Some n) = Some n.now

abbrev pub sizes_known : Option (Vec NameValue Global) → SizeNames
sizes_known None = None
sizes_known (Some v) = Some (names_of v.items)

abbrev pub after_dims : SizeNames → List FormValue → SizeNames
after_dims None dims = None
after_dims (Some known) dims = Some (sizes_in known dims)

-- the fault of a size too many, or else what comes later
abbrev pub excess_told : Option Excess → Result (List TransformTree) Fault → Result (List TransformTree) Fault
excess_told None further = further
excess_told (Some x) further = Err (OverLimit x.what x.at)

-- a dimension is counted, or is a size too many, or memory ran out
abbrev pub Counts : {A : Type 0} → Result A Fault → SizeNames → FormValue → SizeNames → Type 0
Counts (Ok x) before form after = (excess_of before form ≡ None) × (after ≡ after_form before form)
Counts (Err e) before form after = Fails e ((further : Result (List TransformTree) Fault) → excess_told (excess_of before form) further ≡ Err e)
