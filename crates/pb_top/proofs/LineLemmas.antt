-- Each refusal of a phase has a line.
use Rattle.std.proofs.Common.{◌≡◌, ◌⊎◌, inl, inr, ℕ, ◌≤◌, List, [], ◌∷◌, length, refl, sym, subst, ◌∙◌}
use Rattle.std.specs.List.{AllByRecursion}
use Rattle.std.proofs.lemmas.List.Elements.{All-from_recursion}
use Rattle.pb_syntax.specs.declared.refusal.Refusal.{Refusal}
use Rattle.pb_syntax.specs.declared.refusal.Refusal.TheVariants.{TooLong, BadToken, BadSyntax, OverLimit, BadType, NegativeDim, NotABox, OverlapOutputs, Memory}
use Rattle.pb_syntax.specs.Trees.{TransformTree}
use Rattle.pb_syntax.specs.WithinLimits.{IsWithinLimits}
use Rattle.pb_lexer.proofs.LexemeLemmas.{lexemes}
use Rattle.pb_grammar.proofs.Within.{within_limits}
use Rattle.pb_front.specs.Reading.{IsRead, IsRefused}
use Rattle.pb_names.specs.declared.fault.Fault.{Fault}
use Rattle.pb_names.specs.declared.fault.Fault.TheVariants as fault
use Rattle.pb_names.specs.Transforms.{faults_of, refusal_of, IsRefused as HasBadNames, IsRefusedFor}
use Rattle.pb_grid.specs.declared.refusal.GridRefusal.{GridRefusal}
use Rattle.pb_grid.specs.declared.refusal.GridRefusal.TheVariants as grid
use Rattle.pb_grid.specs.Grids.{IsRefused as IsMatrixRefused, Matrix}
use Rattle.pb_program.specs.Trees.{ProgRule, ProgTransform}
use Rattle.pb_program.specs.WellFormed.{IsTransform, IsWellFormed}
use Rattle.pb_types.specs.Types.{IsRefused as HasBadTypes}
use Rattle.pb_region.specs.Dims.{IsRefused as HasBadSide}
use Rattle.pb_region.specs.Rules.{IsRefused as HasBadBounds}
use Rattle.pb_check.specs.Cuts.{to_refusal}
use Rattle.pb_check.specs.Phases.{FailsBounds, IsRefused as IsUnsound}
use Rattle.pb_lines.specs.Lines.{HasLine, HaveFewSizes}

text_refusal : (text : List ℕ) (e : Refusal) → IsRefused text e → HasLine e
text_refusal text TooLong causes = tt
text_refusal text (BadToken at) causes = tt
text_refusal text (BadSyntax at) causes = tt
text_refusal text (OverLimit what at) causes = tt
text_refusal text other causes = absurd causes

pub text_line : (text : List ℕ) (e : Refusal) → (e ≡ Memory) ⊎ IsRefused text e → (e ≡ Memory → ⊥) → HasLine e
text_line text e (inl is) other = absurd (other is)
text_line text e (inr causes) other = text_refusal text e causes

fault_line : (f : Fault) → (refusal_of f ≡ Memory → ⊥) → HasLine (refusal_of f)
fault_line (fault.Duplicate n) other = tt
fault_line (fault.Unknown n) other = tt
fault_line (fault.NotBound n) other = tt
fault_line (fault.BadOutput at) other = tt
fault_line fault.Memory other = absurd (other refl)

first_line : (fs : List Fault) (e : Refusal) → IsRefusedFor fs e → (e ≡ Memory → ⊥) → HasLine e
first_line [] e causes other = absurd causes
first_line (f ∷ fs) e causes other = subst HasLine (sym causes) (fault_line f (λ is. other (causes ∙ is)))

pub names_line : (tree : List TransformTree) (e : Refusal) → (e ≡ Memory) ⊎ HasBadNames tree e → (e ≡ Memory → ⊥) → HasLine e
names_line tree e (inl is) other = absurd (other is)
names_line tree e (inr causes) other = first_line (faults_of tree) e causes other

type_refusal : (p : List ProgTransform) (e : Refusal) → HasBadTypes p e → HasLine e
type_refusal p (BadType at) causes = tt
type_refusal p other causes = absurd causes

side_refusal : (number : ℕ) (t : ProgTransform) (e : Refusal) → HasBadSide number t e → HasLine e
side_refusal number t (NegativeDim transform matrix axis sizes) causes = tt
side_refusal number t other causes = absurd causes

rule_refusal : (number place : ℕ) (t : ProgTransform) (r : ProgRule) (e : Refusal) → HasBadBounds number place t r e → HasLine e
rule_refusal number place t r (NotABox transform rule condition) causes = tt
rule_refusal number place t r (OverlapOutputs transform rule first second) causes = tt
rule_refusal number place t r other causes = absurd causes

bound_refusal : (number : ℕ) (t : ProgTransform) (e : Refusal) → FailsBounds number t e → HasLine e
bound_refusal number t e (inl side) = side_refusal number t e side
bound_refusal number t e (inr (sides, rule)) = rule_refusal number rule.place t rule.item e rule.fails

cut_refusal : (t matrix : ℕ) (why : GridRefusal) (m : Matrix) → IsMatrixRefused m why → HasLine (to_refusal t matrix why)
cut_refusal t matrix (grid.Crossing axis first second over under) m told = tt
cut_refusal t matrix grid.TooManySegments m told = tt
cut_refusal t matrix (grid.Uncovered area) m told = tt
cut_refusal t matrix grid.Memory m told = absurd told

pub phase_refusal : (p : List ProgTransform) (e : Refusal) → IsUnsound p e → HasLine e
phase_refusal p e (inl causes) = type_refusal p e causes
phase_refusal p e (inr (right, inl bad)) = bound_refusal bad.place bad.item e bad.fails
phase_refusal p e (inr (right, inr (bounded, inl bad))) =
    let uncut = bad.fails.fails in
    subst HasLine (sym uncut.told) (cut_refusal bad.place bad.fails.item uncut.why uncut.of uncut.refused)
phase_refusal p e (inr (right, inr (bounded, inr (cut, bad)))) = subst HasLine (sym bad.fails.told) tt

each : (p : List ProgTransform) (n : ℕ) → AllByRecursion (IsTransform n) p → AllByRecursion (λ t. length t.sizes ≤ 8) p
each [] n h = tt
each (t ∷ p) n h = (h.0.few_sizes, each p n h.1)

-- a well-formed program has few sizes
pub few_sizes : (p : List ProgTransform) → IsWellFormed p → HaveFewSizes p
few_sizes p well = All-from_recursion (λ t. length t.sizes ≤ 8) p (each p (length p) well.transforms)

pub phase_why : (p : List ProgTransform) (e : Refusal) → (e ≡ Memory) ⊎ IsUnsound p e → (e ≡ Memory → ⊥) → IsUnsound p e
phase_why p e (inl is) other = absurd (other is)
phase_why p e (inr causes) other = causes

-- a tree that was read is within the limits
pub read_within : (text : List ℕ) (tree : List TransformTree) → IsRead text tree → IsWithinLimits tree
read_within text tree read = within_limits read.tokens tree (lexemes text read.tokens read.spelled) read.accepted
