-- Transforms as they are held.
use Rattle.std.specs.Prelude.{ℕ, List}
use Rattle.pb_syntax.specs.Transforms.{TransformValue}
use Rattle.pb_syntax.specs.Trees.{bare_transform}
use Rattle.pb_syntax.specs.WithinLimits.{TransformWithin}
use Rattle.pb_program.specs.Trees.{ProgTransform}
use Rattle.pb_names.specs.declared.fault.Fault.{Fault}
use Rattle.pb_names.specs.Transforms.{named_faults, next_transform, put_first, transform_of}

unfoldable pub first_in : ℕ → List (List ℕ × ℕ) → TransformValue → List (List ℕ × ℕ)
first_in k known t = put_first k known t.name

unfoldable pub next_in : List (List ℕ × ℕ) → TransformValue → List (List ℕ × ℕ)
next_in known t = next_transform known (bare_transform t)

unfoldable pub transform_in : List (List ℕ × ℕ) → TransformValue → ProgTransform
transform_in all t = transform_of all (bare_transform t)

unfoldable pub named_faults_in : List (List ℕ × ℕ) → List (List ℕ × ℕ) → TransformValue → List Fault
named_faults_in all known t = named_faults all known (bare_transform t)

unfoldable pub IsTransformWithin : TransformValue → Type 0
IsTransformWithin t = TransformWithin (bare_transform t)
