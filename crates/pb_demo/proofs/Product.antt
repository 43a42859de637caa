-- The product of matrices, with its views and conditions written out: what is computed of them is then computed from these.
use Rattle.std.proofs.Common.{◌≡◌, refl, ◌∙◌, ap, ℕ, zero, suc, List, [], ◌∷◌, length, slice_get, ℤ, pos, false, Option, Some, None, arith}
use Rattle.pb_linear.specs.Numbers.{Numbers}
use Rattle.pb_linear.specs.declared.sizes.Ranges.{Ranges}
use Rattle.pb_syntax.specs.declared.tree.expression.Relation.TheVariants.{GreaterOrEqual}
use Rattle.pb_program.specs.declared.rule.RuleKind.{RuleKind}
use Rattle.pb_program.specs.declared.rule.RuleKind.TheVariants as kind
use Rattle.pb_program.specs.declared.view.Read.{Read}
use Rattle.pb_program.specs.declared.view.Cond.{Cond}
use Rattle.pb_program.specs.declared.view.ReadView.{ReadView}
use Rattle.pb_program.specs.declared.view.ReadView.TheVariants as view
use Rattle.pb_program.specs.Forms.{CoordinateValue, DeclValue, constant_numbers, no_coefficients, nothing, over_sizes}
use Rattle.pb_program.specs.Trees.{ProgRule, ProgTransform}
use Rattle.pb_grammar.specs.Want.{after_mark, expression, conjunction, compared, total, product, name_token, dimensions}
use Rattle.pb_demo.proofs.Trees.{program}

abbrev pub or_none : Option ProgTransform → ProgTransform
or_none (Some t) = t
or_none None = record { name = record { bytes = []; at = 0 }; ranges = record { count = 0; least = [] }; sizes = []; matrices = []; inputs = 0; middles = 0; rules = [] }

-- what is resolved of it
abbrev pub multiply : ProgTransform
multiply = or_none (slice_get (program 0) 1)

-- ---- its sizes: c, h and w
abbrev pub unit : ℕ → List ℤ
unit zero = pos 1 ∷ pos 0 ∷ pos 0 ∷ pos 0 ∷ pos 0 ∷ pos 0 ∷ pos 0 ∷ pos 0 ∷ []
unit (suc zero) = pos 0 ∷ pos 1 ∷ pos 0 ∷ pos 0 ∷ pos 0 ∷ pos 0 ∷ pos 0 ∷ pos 0 ∷ []
unit (suc (suc k)) = pos 0 ∷ pos 0 ∷ pos 1 ∷ pos 0 ∷ pos 0 ∷ pos 0 ∷ pos 0 ∷ pos 0 ∷ []

abbrev pub alone : ℕ → Numbers
alone k = record { constant = pos 0; whole = unit k; half = no_coefficients; third = no_coefficients; quarter = no_coefficients }

abbrev half : ℕ → Numbers
half k = record { constant = pos 0; whole = no_coefficients; half = unit k; third = no_coefficients; quarter = no_coefficients }

-- ---- views
abbrev along : ℤ → ℤ → CoordinateValue
along x y = record { x = x; y = y; rest = constant_numbers (pos 0); quotient = false }

abbrev area : ℕ → ℕ → Numbers → Numbers → Numbers → Numbers → Read
area matrix at x0 y0 x1 y1 = record { matrix = matrix; at = at; view = view.Region; dims = 2; x0 = over_sizes x0; y0 = over_sizes y0; x1 = over_sizes x1; y1 = over_sizes y1 }

abbrev all : ℕ → ℕ → Read
all matrix at = record { matrix = matrix; at = at; view = view.Whole; dims = 2; x0 = nothing; y0 = nothing; x1 = nothing; y1 = nothing }

abbrev line : ReadView → ℕ → ℕ → CoordinateValue → CoordinateValue → Read
line what matrix at x0 y0 = record { matrix = matrix; at = at; view = what; dims = 2; x0 = x0; y0 = y0; x1 = nothing; y1 = nothing }

abbrev none : Numbers
none = constant_numbers (pos 0)

-- a size is at least 2
abbrev two : ℕ → Cond
two k = record { left = over_sizes (alone k); relation = GreaterOrEqual; right = over_sizes (constant_numbers (pos 2)) }

abbrev rule_or : Option ProgRule → ProgRule
rule_or (Some r) = r
rule_or None = record { priority = 0; kind = kind.Cell; outs = []; names = []; reads = []; conds = []; body = []; plan = None }

abbrev rule : ℕ → ProgRule
rule k = rule_or (slice_get multiply.rules k)

abbrev seen : ProgRule → RuleKind → List Read → List Read → List Cond → ProgRule
seen r what outs reads conds = record { priority = 0; kind = what; outs = outs; names = r.names; reads = reads; conds = conds; body = r.body; plan = r.plan }

abbrev the_rule : ProgRule → ℕ → RuleKind → List Read → List Read → List Cond → ProgRule
the_rule r n what outs reads conds = record { priority = n; kind = what; outs = outs; names = r.names; reads = reads; conds = conds; body = r.body; plan = r.plan }

abbrev the_transform : ProgTransform → Ranges → List DeclValue → ℕ → ℕ → List ProgRule → ProgTransform
the_transform t ranges matrices inputs middles rules = record { name = t.name; ranges = ranges; sizes = t.sizes; matrices = matrices; inputs = inputs; middles = middles; rules = rules }

abbrev with_parts : ProgTransform → Ranges → List DeclValue → List ProgRule → ProgTransform
with_parts t ranges matrices rules = record { name = t.name; ranges = ranges; sizes = t.sizes; matrices = matrices; inputs = 2; middles = 0; rules = rules }

abbrev decl_or : Option DeclValue → DeclValue
decl_or (Some d) = d
decl_or None = record { name = record { bytes = []; at = 0 }; dims = 1; w = none; h = none }

abbrev decl : ℕ → Numbers → Numbers → DeclValue
decl k w h = record { name = (decl_or (slice_get multiply.matrices k)).name; dims = 2; w = w; h = h }

abbrev pub ranges : Ranges
ranges = record { count = 3; least = 1 ∷ 1 ∷ 1 ∷ 0 ∷ 0 ∷ 0 ∷ 0 ∷ 0 ∷ [] }

abbrev pub matrices : List DeclValue
matrices = decl 0 (alone 0) (alone 1) ∷ decl 1 (alone 2) (alone 0) ∷ decl 2 (alone 2) (alone 1) ∷ []

abbrev outs_0 : List Read
outs_0 = line view.Cell 2 190 (along (pos 1) (pos 0)) (along (pos 0) (pos 1)) ∷ []

abbrev reads_0 : List Read
reads_0 = line view.Row 0 212 nothing (along (pos 0) (pos 1)) ∷ line view.Column 1 224 (along (pos 1) (pos 0)) nothing ∷ []

abbrev outs_1 : List Read
outs_1 = all 2 264 ∷ []

abbrev reads_1 : List Read
reads_1 = area 0 277 none none (half 0) (alone 1) ∷ area 0 301 (half 0) none (alone 0) (alone 1) ∷ area 1 344 none none (alone 2) (half 0) ∷ area 1 368 none (half 0) (alone 2) (alone 0) ∷ []

abbrev outs_2 : List Read
outs_2 = area 2 541 none none (half 2) (alone 1) ∷ area 2 565 (half 2) none (alone 2) (alone 1) ∷ []

abbrev reads_2 : List Read
reads_2 = all 0 597 ∷ area 1 602 none none (half 2) (alone 0) ∷ area 1 626 (half 2) none (alone 2) (alone 0) ∷ []

abbrev outs_3 : List Read
outs_3 = area 2 737 none none (alone 2) (half 1) ∷ area 2 761 none (half 1) (alone 2) (alone 1) ∷ []

abbrev reads_3 : List Read
reads_3 = area 0 793 none none (alone 0) (half 1) ∷ area 0 817 none (half 1) (alone 0) (alone 1) ∷ all 1 841 ∷ []

abbrev pub rules : List ProgRule
rules = seen (rule 0) kind.Cell outs_0 reads_0 [] ∷ seen (rule 1) kind.Plan outs_1 reads_1 (two 0 ∷ []) ∷ seen (rule 2) kind.Plan outs_2 reads_2 (two 2 ∷ []) ∷ seen (rule 3) kind.Plan outs_3 reads_3 (two 1 ∷ []) ∷ []

abbrev pub written : ProgTransform
written = with_parts multiply ranges matrices rules

same_rule : (r : ProgRule) (what : RuleKind) (outs reads : List Read) (conds : List Cond) → r.priority ≡ 0 → r.kind ≡ what → r.outs ≡ outs → r.reads ≡ reads → r.conds ≡ conds → r ≡ seen r what outs reads conds
same_rule r what outs reads conds p k o e c =
    ap (λ (n : ℕ). the_rule r n r.kind r.outs r.reads r.conds) p ∙ ap (λ w. the_rule r 0 w r.outs r.reads r.conds) k ∙ ap (λ l. the_rule r 0 what l r.reads r.conds) o
    ∙ ap (λ l. the_rule r 0 what outs l r.conds) e ∙ ap (λ l. the_rule r 0 what outs reads l) c

same_transform : (t : ProgTransform) (bounds : Ranges) (ms : List DeclValue) (rs : List ProgRule) → t.ranges ≡ bounds → t.matrices ≡ ms → t.inputs ≡ 2 → t.middles ≡ 0 → t.rules ≡ rs → t ≡ with_parts t bounds ms rs
same_transform t bounds ms rs a b c d e =
    ap (λ x. the_transform t x t.matrices t.inputs t.middles t.rules) a ∙ ap (λ l. the_transform t bounds l t.inputs t.middles t.rules) b ∙ ap (λ (n : ℕ). the_transform t bounds ms n t.middles t.rules) c
    ∙ ap (λ (n : ℕ). the_transform t bounds ms 2 n t.rules) d ∙ ap (λ l. the_transform t bounds ms 2 0 l) e

four_of : (rs : List ProgRule) → length rs ≡ 4 → rs ≡ rule_or (slice_get rs 0) ∷ rule_or (slice_get rs 1) ∷ rule_or (slice_get rs 2) ∷ rule_or (slice_get rs 3) ∷ []
four_of (a ∷ b ∷ c ∷ d ∷ []) e = refl
four_of [] e = absurd (omega (arith, e))
four_of (a ∷ []) e = absurd (omega (arith, e))
four_of (a ∷ b ∷ []) e = absurd (omega (arith, e))
four_of (a ∷ b ∷ c ∷ []) e = absurd (omega (arith, e))
four_of (a ∷ b ∷ c ∷ d ∷ f ∷ rest) e = absurd (omega (arith, e))

same_four : {A : Type 0} {a b c d p q r s : A} → a ≡ p → b ≡ q → c ≡ r → d ≡ s → a ∷ b ∷ c ∷ d ∷ [] ≡ p ∷ q ∷ r ∷ s ∷ []
same_four f g h i = cc

is_outs_0 : (rule 0).outs ≡ outs_0
unfolding after_mark expression conjunction compared total product name_token dimensions
is_outs_0 = refl

is_reads_0 : (rule 0).reads ≡ reads_0
unfolding after_mark expression conjunction compared total product name_token dimensions
is_reads_0 = refl

is_rule_0 : rule 0 ≡ seen (rule 0) kind.Cell outs_0 reads_0 ([])
unfolding after_mark expression conjunction compared total product name_token dimensions
is_rule_0 = same_rule (rule 0) kind.Cell outs_0 reads_0 ([]) refl refl is_outs_0 is_reads_0 refl

is_outs_1 : (rule 1).outs ≡ outs_1
unfolding after_mark expression conjunction compared total product name_token dimensions
is_outs_1 = refl

is_reads_1 : (rule 1).reads ≡ reads_1
unfolding after_mark expression conjunction compared total product name_token dimensions
is_reads_1 = refl

is_rule_1 : rule 1 ≡ seen (rule 1) kind.Plan outs_1 reads_1 (two 0 ∷ [])
unfolding after_mark expression conjunction compared total product name_token dimensions
is_rule_1 = same_rule (rule 1) kind.Plan outs_1 reads_1 (two 0 ∷ []) refl refl is_outs_1 is_reads_1 refl

is_outs_2 : (rule 2).outs ≡ outs_2
unfolding after_mark expression conjunction compared total product name_token dimensions
is_outs_2 = refl

is_reads_2 : (rule 2).reads ≡ reads_2
unfolding after_mark expression conjunction compared total product name_token dimensions
is_reads_2 = refl

is_rule_2 : rule 2 ≡ seen (rule 2) kind.Plan outs_2 reads_2 (two 2 ∷ [])
unfolding after_mark expression conjunction compared total product name_token dimensions
is_rule_2 = same_rule (rule 2) kind.Plan outs_2 reads_2 (two 2 ∷ []) refl refl is_outs_2 is_reads_2 refl

is_outs_3 : (rule 3).outs ≡ outs_3
unfolding after_mark expression conjunction compared total product name_token dimensions
is_outs_3 = refl

is_reads_3 : (rule 3).reads ≡ reads_3
unfolding after_mark expression conjunction compared total product name_token dimensions
is_reads_3 = refl

is_rule_3 : rule 3 ≡ seen (rule 3) kind.Plan outs_3 reads_3 (two 1 ∷ [])
unfolding after_mark expression conjunction compared total product name_token dimensions
is_rule_3 = same_rule (rule 3) kind.Plan outs_3 reads_3 (two 1 ∷ []) refl refl is_outs_3 is_reads_3 refl

how_many : length multiply.rules ≡ 4
unfolding after_mark expression conjunction compared total product name_token dimensions
how_many = refl

is_ranges : multiply.ranges ≡ ranges
unfolding after_mark expression conjunction compared total product name_token dimensions
is_ranges = refl

are_matrices : multiply.matrices ≡ matrices
unfolding after_mark expression conjunction compared total product name_token dimensions
are_matrices = refl

inputs_are : multiply.inputs ≡ 2
unfolding after_mark expression conjunction compared total product name_token dimensions
inputs_are = refl

middles_are : multiply.middles ≡ 0
unfolding after_mark expression conjunction compared total product name_token dimensions
middles_are = refl

pub is_written : multiply ≡ written
is_written = same_transform multiply ranges matrices rules is_ranges are_matrices inputs_are middles_are (four_of multiply.rules how_many ∙ same_four is_rule_0 is_rule_1 is_rule_2 is_rule_3)
