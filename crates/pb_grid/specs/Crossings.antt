-- Two cuts that cross, and the sizes that show it.
use Rattle.std.specs.Prelude.{◌≡◌, ℕ, ℤ, ◌-ℤ◌, List, length, Option, Some}
use Rattle.pb_linear.specs.Form.{value}
use Rattle.pb_linear.specs.Held.{AreHeld}
use Rattle.pb_linear.specs.Most.{Most}
use Rattle.pb_linear.specs.Sizes.{sizes_of}
use Rattle.pb_linear.specs.declared.form.Form.{Form}
use Rattle.pb_linear.specs.declared.sizes.Sizes.{Sizes}
use Rattle.pb_grid.specs.declared.refusal.GridRefusal.{GridRefusal}
use Rattle.pb_grid.specs.declared.refusal.GridRefusal.TheVariants.{Crossing}
use Rattle.pb_grid.specs.Cuts.{crosses}
use Rattle.pb_grid.specs.Lists.{first_pair}

-- the least sizes at which a form is above another by the most
pub record IsFarthest (leasts : List ℕ) (high low : Form) (sizes : Sizes) : Type 0 where
  pub held : AreHeld (length leasts) sizes
  pub most : ℤ
  pub greatest : Most (λ s. value high s -ℤ value low s) leasts most (sizes_of sizes)

-- the first two cuts that cross
unfoldable pub crossing : List ℕ → List Form → Option (Form × Form)
crossing leasts cuts = first_pair (crosses leasts) cuts

-- the first two of these cuts that cross, with the sizes at which the first is above the second by the most, and the
-- second above the first
pub record IsCrossing (leasts : List ℕ) (cuts : List Form) (first second : Form) (over under : Sizes) : Type 0 where
  pub first_two : crossing leasts cuts ≡ Some (first, second)
  pub above : IsFarthest leasts first second over
  pub below : IsFarthest leasts second first under

-- the refusal of them on this axis
abbrev pub IsCrossingOn : List ℕ → ℕ → List Form → GridRefusal → Type 0
IsCrossingOn leasts axis cuts (Crossing a first second over under) = (a ≡ axis) × IsCrossing leasts cuts first second over under
IsCrossingOn leasts axis cuts _ = ⊥
