-- The report of a rolling sum, and the marks of an edge between matrices of two dimensions.
use Rattle.std.proofs.Common.{◌≡◌, ℕ, pos, List, [], ◌∷◌, ◌++◌, true, false, Some, codes, refl}
use Rattle.std.specs.Fmt.{digits}
use Rattle.pb_values.specs.Name.{NameValue}
use Rattle.pb_linear.specs.declared.boxes.Sign.TheVariants.{Plus}
use Rattle.pb_linear.specs.declared.form.Form.{Form}
use Rattle.pb_graph.specs.Edges.{EdgeValue, step}
use Rattle.pb_graph.specs.Layerings.{LayeringValue}
use Rattle.pb_graph.specs.Nodes.{NodeValue}
use Rattle.pb_program.specs.Configs.{SiteValue}
use Rattle.pb_program.specs.Forms.{constant_numbers, no_coefficients}
use Rattle.pb_program.specs.Trees.{ProgTransform}
use Rattle.pb_prog.specs.FormText.{part_text, share_text, variable_text}
use Rattle.pb_report.specs.Report.{marks_text, transform_report}

abbrev named : List ℕ → NameValue
named bytes = record { bytes = bytes; at = 0 }

abbrev zero_form : Form
zero_form = record { constant = pos 0; whole = no_coefficients; half = no_coefficients; third = no_coefficients; quarter = no_coefficients; small_constant = refl; small_whole = refl; small_half = refl; small_third = refl; small_quarter = refl }

abbrev one_form : Form
one_form = record { constant = pos 1; whole = no_coefficients; half = no_coefficients; third = no_coefficients; quarter = no_coefficients; small_constant = refl; small_whole = refl; small_half = refl; small_third = refl; small_quarter = refl }

abbrev size_form : Form
size_form = record { constant = pos 0; whole = pos 1 ∷ pos 0 ∷ pos 0 ∷ pos 0 ∷ pos 0 ∷ pos 0 ∷ pos 0 ∷ pos 0 ∷ []; half = no_coefficients; third = no_coefficients; quarter = no_coefficients; small_constant = refl; small_whole = refl; small_half = refl; small_third = refl; small_quarter = refl }

abbrev rolling_sum : ProgTransform
rolling_sum = record {
  name = named (codes "RollingSum");
  ranges = record { count = 1; least = 1 ∷ 0 ∷ 0 ∷ 0 ∷ 0 ∷ 0 ∷ 0 ∷ 0 ∷ [] };
  sizes = named (codes "n") ∷ [];
  matrices =
      record { name = named (codes "A"); dims = 1; w = constant_numbers (pos 0); h = constant_numbers (pos 1) }
      ∷ record { name = named (codes "B"); dims = 1; w = constant_numbers (pos 0); h = constant_numbers (pos 1) } ∷ [];
  inputs = 1;
  middles = 0;
  rules = [];
}

abbrev segments : List NodeValue
segments =
    record { matrix = 1; area = record { x0 = zero_form; x1 = one_form; y0 = zero_form; y1 = one_form }; rules = 0 ∷ [] }
    ∷ record { matrix = 1; area = record { x0 = one_form; x1 = size_form; y0 = zero_form; y1 = one_form }; rules = 0 ∷ 1 ∷ [] } ∷ []

abbrev edge : ℕ → ℕ → EdgeValue
edge reader source = record { reader = reader; source = source; rules = 1 ∷ []; mark_x = 1; mark_y = 0; wide = false }

abbrev order : LayeringValue
order = record {
  layer = 0 ∷ 1 ∷ [];
  layers =
      record { steps = step 0 Plus ∷ []; inner = false; cut_x = Some Plus; cut_y = Some Plus }
      ∷ record { steps = step 0 Plus ∷ []; inner = true; cut_x = Some Plus; cut_y = Some Plus } ∷ [];
  edges = edge 1 0 ∷ edge 1 1 ∷ [];
}

abbrev site : SiteValue
site = record { transform = 0; matrix = 1; set = 0 ∷ 1 ∷ [] }

pub rolling_sum_report : transform_report rolling_sum segments order (site ∷ []) ≡
    codes "transform RollingSum\n" ++ codes "segment B[0,1) rules {0} layer 0\n" ++ codes "segment B[1,n) rules {0,1} layer 1 direction x+\n"
    ++ codes "edge B[1,n) to B[0,1) rules {1} x<\n" ++ codes "edge B[1,n) to B[1,n) rules {1} x<\n" ++ codes "site RollingSum.B {0,1}\n"
unfolding digits variable_text share_text part_text
rolling_sum_report = refl

pub marks_of_two_axes : marks_text true (edge 1 0) ≡ codes " x< y="
marks_of_two_axes = refl
