-- Where the outputs of a rule have no rule variables, none of its conditions has one.
use Rattle.std.proofs.Common.{◌≡◌, ap, refl, ℕ, List, [], ◌∷◌, ◌++◌, Bool, true, false, Option, Some, None, slice_get, ℤ, pos, ◌-ℤ◌, arith}
use Rattle.std.specs.Prelude.{filter, ◌==◌, if◌then◌else◌}
use Rattle.std.specs.List.{AllByRecursion, flat_map}
use Rattle.std.proofs.lemmas.Int.{ints}
use Rattle.std.proofs.lemmas.Bool.Decides.{Decides-int_eq}
use Rattle.std.proofs.lemmas.Bool.{and_from}
use Rattle.pb_linear.specs.Numbers.{Numbers}
use Rattle.pb_syntax.specs.declared.tree.expression.Relation.{Relation}
use Rattle.pb_syntax.specs.declared.tree.expression.Relation.TheVariants as relation
use Rattle.pb_program.specs.declared.view.Cond.{Cond}
use Rattle.pb_program.specs.declared.view.Read.{Read}
use Rattle.pb_program.specs.declared.view.ReadView.{ReadView}
use Rattle.pb_program.specs.declared.view.ReadView.TheVariants as view
use Rattle.pb_program.specs.Conditions.{Condition, at_most, by_relation, by_view, cell_conditions, conditions, in_matrix, region_conditions, view_conditions, written}
use Rattle.pb_program.specs.Forms.{CoordinateValue, DeclValue, nothing, over_sizes}
use Rattle.pb_program.specs.Trees.{ProgRule}
use Rattle.pb_program.specs.WellFormed.{IsCondition, IsCoordinate, IsFree, IsRule, IsView, variables}
use Rattle.pb_region.specs.Boxes.{is_zero}
use Rattle.pb_region.specs.Gaps.{gap}
use Rattle.pb_region.specs.Inside.{guards, is_guarding}

-- a coordinate without rule variables
record IsPlain (c : CoordinateValue) : Type 0 where
  x : c.x ≡ pos 0
  y : c.y ≡ pos 0

-- a view whose coordinates have none
record IsPlainRead (r : Read) : Type 0 where
  x0 : IsPlain r.x0
  y0 : IsPlain r.y0
  x1 : IsPlain r.x1
  y1 : IsPlain r.y1

abbrev AreGuards : List Condition → Type 0
AreGuards cs = AllByRecursion (λ c. is_guarding c ≡ true) cs

plain_over : (n : Numbers) → IsPlain (over_sizes n)
plain_over n = record { x = refl; y = refl }

plain_nothing : IsPlain nothing
plain_nothing = record { x = refl; y = refl }

zero_from : (a b : ℤ) → a ≡ pos 0 → b ≡ pos 0 → is_zero (a -ℤ b) ≡ true
zero_from a b ea eb = (Decides-int_eq (a -ℤ b) (pos 0)).1 (omega (arith, ints))

free_gap : (a b : CoordinateValue) (more : ℕ) → IsPlain a → IsPlain b → is_guarding (at_most a more b) ≡ true
unfolding gap
free_gap a b more p q = and_from (is_zero (a.x -ℤ b.x)) (is_zero (a.y -ℤ b.y)) (zero_from a.x b.x p.x q.x) (zero_from a.y b.y p.y q.y)

free_cell : (e : CoordinateValue) (side : Numbers) → IsPlain e → AreGuards (cell_conditions e side)
free_cell e side p = (free_gap nothing e 0 plain_nothing p, (free_gap e (over_sizes side) 1 p (plain_over side), tt))

free_region : (a b : CoordinateValue) (side : Numbers) → IsPlain a → IsPlain b → AreGuards (region_conditions a b side)
free_region a b side p q = (free_gap nothing a 0 plain_nothing p, (free_gap a b 0 p q, (free_gap b (over_sizes side) 0 q (plain_over side), tt)))

all_append : {A : Type 0} (P : A → Type 0) (xs ys : List A) → AllByRecursion P xs → AllByRecursion P ys → AllByRecursion P (xs ++ ys)
all_append P [] ys h k = k
all_append P (x ∷ xs) ys h k = (h.0, all_append P xs ys h.1 k)

free_if : (b : Bool) (cs : List Condition) → AreGuards cs → AreGuards (if b then [] else cs)
free_if true cs h = tt
free_if false cs h = h

free_view : (v : ReadView) (r : Read) (d : DeclValue) → IsPlainRead r → AreGuards (by_view v r d)
free_view view.Cell r d p = all_append _ (cell_conditions r.x0 d.w) _ (free_cell r.x0 d.w p.x0) (free_if (r.dims == 1) (cell_conditions r.y0 d.h) (free_cell r.y0 d.h p.y0))
free_view view.Row r d p = free_cell r.y0 d.h p.y0
free_view view.Column r d p = free_cell r.x0 d.w p.x0
free_view view.Region r d p = all_append _ (region_conditions r.x0 r.x1 d.w) _ (free_region r.x0 r.x1 d.w p.x0 p.x1) (free_if (r.dims == 1) (region_conditions r.y0 r.y1 d.h) (free_region r.y0 r.y1 d.h p.y0 p.y1))
free_view view.Whole r d p = tt

free_in : (r : Read) (d : Option DeclValue) → IsPlainRead r → AreGuards (in_matrix r d)
free_in r None p = tt
free_in r (Some d) p = free_view r.view r d p

free_relation : (k : Relation) (a b : CoordinateValue) → IsPlain a → IsPlain b → AreGuards (by_relation k a b)
free_relation relation.Less a b p q = (free_gap a b 1 p q, tt)
free_relation relation.LessOrEqual a b p q = (free_gap a b 0 p q, tt)
free_relation relation.Greater a b p q = (free_gap b a 1 q p, tt)
free_relation relation.GreaterOrEqual a b p q = (free_gap b a 0 q p, tt)
free_relation relation.Equal a b p q = (free_gap a b 0 p q, (free_gap b a 0 q p, tt))
free_relation relation.Unequal a b p q = tt

free_views : (ms : List DeclValue) (rs : List Read) → AllByRecursion IsPlainRead rs → AreGuards (flat_map (view_conditions ms) rs)
free_views ms [] h = tt
free_views ms (r ∷ rs) h = all_append _ (view_conditions ms r) _ (free_in r (slice_get ms r.matrix) h.0) (free_views ms rs h.1)

free_conds : (cs : List Cond) → AllByRecursion (λ c. IsPlain c.left × IsPlain c.right) cs → AreGuards (flat_map written cs)
free_conds [] h = tt
free_conds (c ∷ cs) h = all_append _ (written c) _ (free_relation c.relation c.left c.right h.0.0 h.0.1) (free_conds cs h.1)

-- ---- a rule whose outputs have no rule variables has none
no_variables : (outs : List Read) → AllByRecursion IsFree outs → variables outs ≡ 0
no_variables [] h = refl
no_variables (r ∷ []) h = rw h.0.0 refl
no_variables (r ∷ s ∷ rest) h = refl

plain_coordinate : (sizes n : ℕ) (c : CoordinateValue) → n ≡ 0 → IsCoordinate sizes n c → IsPlain c
plain_coordinate sizes n c none h = record { x = h.none none; y = h.one (omega arith) }

plain_reads : (sizes n ms : ℕ) (rs : List Read) → n ≡ 0 → AllByRecursion (IsView sizes n ms) rs → AllByRecursion IsPlainRead rs
plain_reads sizes n ms [] none h = tt
plain_reads sizes n ms (r ∷ rs) none h = (
  record { x0 = plain_coordinate sizes n r.x0 none h.0.x0; y0 = plain_coordinate sizes n r.y0 none h.0.y0; x1 = plain_coordinate sizes n r.x1 none h.0.x1; y1 = plain_coordinate sizes n r.y1 none h.0.y1 },
  plain_reads sizes n ms rs none h.1,
)

plain_conds : (sizes n : ℕ) (cs : List Cond) → n ≡ 0 → AllByRecursion (IsCondition sizes n) cs → AllByRecursion (λ c. IsPlain c.left × IsPlain c.right) cs
plain_conds sizes n [] none h = tt
plain_conds sizes n (c ∷ cs) none h = ((plain_coordinate sizes n c.left none h.0.left, plain_coordinate sizes n c.right none h.0.right), plain_conds sizes n cs none h.1)

all_kept : {A : Type 0} (p : A → Bool) (xs : List A) → AllByRecursion (λ x. p x ≡ true) xs → filter p xs ≡ xs
all_kept p [] h = refl
all_kept p (x ∷ xs) h = rw h.0 (ap (λ rest. x ∷ rest) (all_kept p xs h.1))

pub all_guards : (sizes inputs count transforms : ℕ) (ms : List DeclValue) (r : ProgRule) → IsRule sizes inputs count transforms r → AllByRecursion IsFree r.outs → guards ms r ≡ conditions ms r
all_guards sizes inputs count transforms ms r h free =
    let none = no_variables r.outs free in
    let outs = free_views ms r.outs (plain_reads sizes _ count r.outs none h.outs) in
    let reads = free_views ms r.reads (plain_reads sizes _ count r.reads none h.reads) in
    let conds = free_conds r.conds (plain_conds sizes _ r.conds none h.conds) in
    all_kept is_guarding (conditions ms r) (all_append _ (flat_map (view_conditions ms) r.outs ++ flat_map (view_conditions ms) r.reads) _ (all_append _ (flat_map (view_conditions ms) r.outs) _ outs reads) conds)
