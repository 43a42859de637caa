-- Both programs are sound.
use Rattle.std.proofs.Common.{◌≡◌, refl, ap, ◌≤◌, true, false, inl, inr, List, [], ◌∷◌, length, map, slice_get, pos, Option, Some, None, arith}
use Rattle.std.specs.List.{AllByRecursion}
use Rattle.pb_linear.specs.Sizes.{leasts_of}
use Rattle.pb_linear.specs.Numbers.{value_before}
use Rattle.pb_program.specs.Forms.{DeclValue, constant_numbers}
use Rattle.pb_program.specs.Trees.{ProgTransform}
use Rattle.pb_region.specs.Ends.{ends_of, nowhere}
use Rattle.pb_region.specs.Gaps.{gap}
use Rattle.pb_region.specs.Reads.{ReadValue, reads_of}
use Rattle.pb_region.specs.Boxes.{bounds, box_of}
use Rattle.pb_region.specs.Rules.{IsAccepted}
use Rattle.pb_check.specs.Cuts.{HasCut}
use Rattle.pb_check.specs.Orders.{made_reads}
use Rattle.pb_grammar.specs.Want.{after_mark, expression, conjunction, compared, total, product, name_token, dimensions}
use Rattle.pb_demo.proofs.Trees.{program}
use Rattle.pb_demo.proofs.Product.{multiply, or_none, written}
use Rattle.pb_demo.proofs.Fine.{sides_low, one_out, two_outs, cut_of}
use Rattle.pb_demo.proofs.Everywhere.{Far, is_low}
use Rattle.pb_demo.proofs.Grids.{bounds_of, boxes_by}

abbrev pub decl_or : Option DeclValue → DeclValue
decl_or (Some d) = d
decl_or None = record { name = record { bytes = []; at = 0 }; dims = 1; w = constant_numbers (pos 0); h = constant_numbers (pos 0) }

abbrev pub read_or : List ReadValue → ReadValue
read_or (r ∷ rest) = r
read_or [] = record { rule = 0; wide = false; matrix = 0; ends = nowhere }

-- the rolling sum; and the sum and the product of matrices
abbrev pub roll : ProgTransform
roll = or_none (slice_get (program 1) 0)

abbrev pub add : ProgTransform
add = or_none (slice_get (program 0) 0)

pub roll_leasts : leasts_of roll.ranges ≡ 1 ∷ []
unfolding after_mark expression conjunction compared total product name_token dimensions
roll_leasts = refl

pub roll_few : length (leasts_of roll.ranges) ≤ 8
roll_few = omega (arith, ap length roll_leasts)

pub roll_far : Far (leasts_of roll.ranges)
unfolding after_mark expression conjunction compared total product name_token dimensions
roll_far = refl

pub roll_is : program 1 ≡ roll ∷ []
unfolding after_mark expression conjunction compared total product name_token dimensions
roll_is = refl

pub roll_sides : sides_low roll roll_few roll_far ≡ true
unfolding after_mark expression conjunction compared total product name_token dimensions value_before
roll_sides = refl

pub roll_rules : AllByRecursion (IsAccepted roll) roll.rules
unfolding after_mark expression conjunction compared total product name_token dimensions gap
roll_rules = (record { conditions = refl; outputs = one_out _ _ _ refl }, (record { conditions = refl; outputs = one_out _ _ _ refl }, tt))

pub roll_boxes : map box_of (map bounds_of (boxes_by (is_low (leasts_of roll.ranges)) roll 1)) ≡ boxes_by (is_low (leasts_of roll.ranges)) roll 1
unfolding after_mark expression conjunction compared total product name_token dimensions gap bounds ends_of value_before
roll_boxes = refl

abbrev roll_made : DeclValue
roll_made = decl_or (slice_get roll.matrices 1)

pub roll_cut : HasCut roll 1
unfolding after_mark expression conjunction compared total product name_token dimensions gap bounds ends_of value_before
roll_cut = cut_of roll roll_few roll_far 1 roll_made refl roll_boxes refl refl refl

abbrev pub roll_read : ReadValue
roll_read = read_or (made_reads roll)

pub roll_read_low : is_low (leasts_of roll.ranges) roll_read.ends.x.high.rest ≡ true
unfolding after_mark expression conjunction compared total product name_token dimensions reads_of ends_of value_before
roll_read_low = refl

pub roll_read_is : (roll_read.wide ≡ false) × (roll_read.ends.x.high.x ≡ pos 1) × (roll_read.ends.x.high.y ≡ pos 0)
unfolding after_mark expression conjunction compared total product name_token dimensions reads_of ends_of
roll_read_is = (refl, refl, refl)

pub roll_reads : made_reads roll ≡ roll_read ∷ []
unfolding after_mark expression conjunction compared total product name_token dimensions reads_of ends_of
roll_reads = refl

pub add_leasts : leasts_of add.ranges ≡ 1 ∷ 1 ∷ []
unfolding after_mark expression conjunction compared total product name_token dimensions
add_leasts = refl

pub add_few : length (leasts_of add.ranges) ≤ 8
add_few = omega (arith, ap length add_leasts)

pub add_far : Far (leasts_of add.ranges)
unfolding after_mark expression conjunction compared total product name_token dimensions
add_far = refl

pub multiply_leasts : leasts_of written.ranges ≡ 1 ∷ 1 ∷ 1 ∷ []
multiply_leasts = refl

pub multiply_few : length (leasts_of written.ranges) ≤ 8
multiply_few = omega (arith, ap length multiply_leasts)

pub multiply_far : Far (leasts_of written.ranges)
multiply_far = refl

pub multiply_is : program 0 ≡ add ∷ multiply ∷ []
unfolding after_mark expression conjunction compared total product name_token dimensions
multiply_is = refl

pub add_sides : sides_low add add_few add_far ≡ true
unfolding after_mark expression conjunction compared total product name_token dimensions value_before
add_sides = refl

pub multiply_sides : sides_low written multiply_few multiply_far ≡ true
unfolding value_before
multiply_sides = refl

pub add_rules : AllByRecursion (IsAccepted add) add.rules
unfolding after_mark expression conjunction compared total product name_token dimensions gap
add_rules = (record { conditions = refl; outputs = one_out _ _ _ refl }, tt)

pub multiply_rules : AllByRecursion (IsAccepted written) written.rules
unfolding gap ends_of
multiply_rules = (
  record { conditions = refl; outputs = one_out _ _ _ refl },
  (
    record { conditions = refl; outputs = one_out _ _ _ refl },
    (
      record { conditions = refl; outputs = two_outs _ _ _ (inl refl) },
      (record { conditions = refl; outputs = two_outs _ _ _ (inr refl) }, tt),
    ),
  ),
)

abbrev add_made : DeclValue
add_made = decl_or (slice_get add.matrices 2)

add_boxes : map box_of (map bounds_of (boxes_by (is_low (leasts_of add.ranges)) add 2)) ≡ boxes_by (is_low (leasts_of add.ranges)) add 2
unfolding after_mark expression conjunction compared total product name_token dimensions gap bounds ends_of value_before
add_boxes = refl

pub add_cut : HasCut add 2
unfolding after_mark expression conjunction compared total product name_token dimensions gap bounds ends_of value_before
add_cut = cut_of add add_few add_far 2 add_made refl add_boxes refl refl refl

abbrev multiply_made : DeclValue
multiply_made = decl_or (slice_get written.matrices 2)

multiply_boxes : map box_of (map bounds_of (boxes_by (is_low (leasts_of written.ranges)) written 2)) ≡ boxes_by (is_low (leasts_of written.ranges)) written 2
unfolding gap bounds ends_of value_before
multiply_boxes = refl

pub multiply_cut : HasCut written 2
unfolding gap bounds ends_of value_before
multiply_cut = cut_of written multiply_few multiply_far 2 multiply_made refl multiply_boxes refl refl refl

pub add_reads : made_reads add ≡ []
unfolding after_mark expression conjunction compared total product name_token dimensions reads_of ends_of
add_reads = refl

pub multiply_reads : made_reads written ≡ []
unfolding reads_of ends_of
multiply_reads = refl
