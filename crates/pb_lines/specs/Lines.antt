-- The line on `err` for a program that is refused.
use Rattle.std.specs.Prelude.{ℕ, zero, suc, ◌≤◌, ◌==◌, if◌then◌else◌, List, length, [], ◌∷◌, ◌++◌, Option, Some, None, codes, decimal, slice_get}
use Rattle.pb_values.specs.Name.{NameValue}
use Rattle.std.specs.List.{All, flat_map}
use Rattle.pb_linear.specs.declared.form.Form.{Form}
use Rattle.pb_linear.specs.declared.sizes.Sizes.{Sizes}
use Rattle.pb_linear.specs.declared.vform.SymBox.{SymBox}
use Rattle.pb_linear.specs.Sizes.{sizes_of}
use Rattle.pb_graph.specs.Nodes.{NodeValue}
use Rattle.pb_prog.specs.FormText.{form_text}
use Rattle.pb_program.specs.Forms.{DeclValue}
use Rattle.pb_program.specs.Trees.{ProgTransform}
use Rattle.pb_syntax.specs.declared.refusal.Item.{Item}
use Rattle.pb_syntax.specs.declared.refusal.Item.TheVariants.{Transforms, Rules, Matrices, Sizes as ItemSizes, Outputs, Reads, Conditions, Minimums, Targets, Arguments, Terms, Number, Statements, Nesting}
use Rattle.pb_syntax.specs.declared.refusal.Refusal.{Refusal}
use Rattle.pb_syntax.specs.declared.refusal.Refusal.TheVariants.{TooLong, BadToken, BadSyntax, OverLimit, DuplicateName, UnknownName, SizeNotBound, BadOutput, BadType, NegativeDim, OverlapOutputs, NotABox, Crossing, Uncovered, TooManySegments, NoOrder, Memory}

-- the word for what is too many
abbrev pub item_word : Item → List ℕ
item_word Transforms = codes "transforms"
item_word Rules = codes "rules"
item_word Matrices = codes "matrices"
item_word ItemSizes = codes "sizes"
item_word Outputs = codes "outputs"
item_word Reads = codes "reads"
item_word Conditions = codes "conditions"
item_word Minimums = codes "minimums"
item_word Targets = codes "targets"
item_word Arguments = codes "arguments"
item_word Terms = codes "terms"
item_word Number = codes "number"
item_word Statements = codes "statements"
item_word Nesting = codes "nesting"

-- a place in the text, and the line's end
abbrev pub at_byte : ℕ → List ℕ
at_byte at = (codes "byte " ++ decimal at) ++ 10 ∷ []

-- a name or word at a place
abbrev pub named : List ℕ → ℕ → List ℕ
named name at = name ++ (codes " at " ++ at_byte at)

-- the name of a transform, by its number
abbrev pub name_of : Option ProgTransform → List ℕ
name_of None = []
name_of (Some t) = t.name.bytes

abbrev pub transform_text : List ProgTransform → ℕ → List ℕ
transform_text ts t = name_of (slice_get ts t)

-- the name of a matrix, by its number, after a point
abbrev pub decl_text : Option DeclValue → List ℕ
decl_text None = []
decl_text (Some d) = codes "." ++ d.name.bytes

abbrev pub matrix_in : Option ProgTransform → ℕ → List ℕ
matrix_in None matrix = []
matrix_in (Some t) matrix = decl_text (slice_get t.matrices matrix)

abbrev pub matrix_text : List ProgTransform → ℕ → ℕ → List ℕ
matrix_text ts t matrix = matrix_in (slice_get ts t) matrix

abbrev pub axis_text : ℕ → List ℕ
axis_text zero = codes "x"
axis_text (suc n) = codes "y"

-- `n=1,m=2`: sizes with their names, each after a separator
abbrev pub sizes_text : List ℕ → List NameValue → List ℕ → List ℕ
sizes_text separator (n ∷ names) (k ∷ sizes) = separator ++ (n.bytes ++ (codes "=" ++ (decimal k ++ sizes_text (codes ",") names sizes)))
sizes_text separator [] sizes = []
sizes_text separator (n ∷ names) [] = []

abbrev pub sizes_in : Option ProgTransform → List ℕ → List ℕ
sizes_in None sizes = []
sizes_in (Some t) sizes = sizes_text [] t.sizes sizes

-- `T.B x at n=1`
abbrev pub negative_text : List ProgTransform → ℕ → ℕ → ℕ → Sizes → List ℕ
negative_text ts t matrix axis sizes =
    transform_text ts t ++ (matrix_text ts t matrix ++ (codes " " ++ (axis_text axis ++ (codes " at " ++ (sizes_in (slice_get ts t) (sizes_of sizes) ++ 10 ∷ [])))))

-- `T rule 0`
abbrev pub rule_text : List ProgTransform → ℕ → ℕ → List ℕ
rule_text ts t rule = transform_text ts t ++ (codes " rule " ++ decimal rule)

-- two outputs of a rule; a condition of a rule
abbrev pub outputs_text : ℕ → ℕ → List ℕ
outputs_text first second = (codes " outputs " ++ decimal first) ++ ((codes " and " ++ decimal second) ++ 10 ∷ [])

abbrev pub condition_text : ℕ → List ℕ
condition_text condition = (codes " condition " ++ decimal condition) ++ 10 ∷ []

-- a form over the sizes of a transform
abbrev pub form_in : Option ProgTransform → Form → List ℕ
form_in None f = []
form_in (Some t) f = form_text f t.sizes

-- `1 over n-1 at n=1`: a form, another, and the sizes at which the first is above it by the most
abbrev pub over_text : Option ProgTransform → Form → Form → Sizes → List ℕ
over_text t first second sizes = form_in t first ++ (codes " over " ++ (form_in t second ++ (codes " at " ++ sizes_in t (sizes_of sizes))))

-- and the same the other way
abbrev pub both_text : Option ProgTransform → Form → Form → Sizes → Sizes → List ℕ
both_text t first second over under = over_text t first second over ++ (codes "; " ++ (over_text t second first under ++ 10 ∷ []))

-- `T.B x: 1 over n-1 at n=1; n-1 over 1 at n=1048576`
abbrev pub crossing_text : List ProgTransform → ℕ → ℕ → ℕ → Form → Form → Sizes → Sizes → List ℕ
crossing_text ts t matrix axis first second over under =
    transform_text ts t ++ (matrix_text ts t matrix ++ (codes " " ++ (axis_text axis ++ (codes ": " ++ both_text (slice_get ts t) first second over under))))

-- `[0,1)`
abbrev pub interval_text : List NameValue → Form → Form → List ℕ
interval_text names low high = codes "[" ++ (form_text low names ++ (codes "," ++ (form_text high names ++ codes ")")))

-- `[0,1)`, or with two dimensions `[0,w/2)x[0,h)`
abbrev pub area_by : ℕ → List NameValue → SymBox → List ℕ
area_by dims names area = interval_text names area.x0 area.x1 ++ (if dims == 1 then [] else codes "x" ++ interval_text names area.y0 area.y1)

-- an area of a matrix, by its number
abbrev pub area_on : List NameValue → Option DeclValue → SymBox → List ℕ
area_on names None area = []
area_on names (Some d) area = area_by d.dims names area

abbrev pub area_in : Option ProgTransform → ℕ → SymBox → List ℕ
area_in None matrix area = []
area_in (Some t) matrix area = area_on t.sizes (slice_get t.matrices matrix) area

-- `T.B [0,1)`
abbrev pub uncovered_text : List ProgTransform → ℕ → ℕ → SymBox → List ℕ
uncovered_text ts t matrix area = transform_text ts t ++ (matrix_text ts t matrix ++ (codes " " ++ (area_in (slice_get ts t) matrix area ++ 10 ∷ [])))

-- `T.B`
abbrev pub crowded_text : List ProgTransform → ℕ → ℕ → List ℕ
crowded_text ts t matrix = transform_text ts t ++ (matrix_text ts t matrix ++ 10 ∷ [])

-- a segment: the name of its matrix and its area, `B[0,1)`
abbrev pub segment_of : List NameValue → SymBox → Option DeclValue → List ℕ
segment_of names area None = []
segment_of names area (Some d) = d.name.bytes ++ area_by d.dims names area

abbrev pub segment_text : ProgTransform → NodeValue → List ℕ
segment_text t s = segment_of t.sizes s.area (slice_get t.matrices s.matrix)

-- the segment of a number
abbrev pub segment_at : ProgTransform → Option NodeValue → List ℕ
segment_at t None = []
segment_at t (Some s) = segment_text t s

abbrev pub segment_in : Option ProgTransform → Option NodeValue → List ℕ
segment_in None s = []
segment_in (Some t) s = segment_at t s

-- segments by their numbers, each after a blank
abbrev pub segments_text : Option ProgTransform → List NodeValue → List ℕ → List ℕ
segments_text t nodes numbers = flat_map (λ k. codes " " ++ segment_in t (slice_get nodes k)) numbers

-- `T U[0,n) V[0,n)`
abbrev pub unordered_text : List ProgTransform → List NodeValue → ℕ → List ℕ → List ℕ
unordered_text ts nodes t numbers = transform_text ts t ++ (segments_text (slice_get ts t) nodes numbers ++ 10 ∷ [])

-- a refusal has a line, but for out of memory
abbrev pub HasLine : Refusal → Type 0
HasLine Memory = ⊥
HasLine other = Unit {0}

-- no transform has more than 8 size variables
abbrev pub HaveFewSizes : List ProgTransform → Type 0
HaveFewSizes ts = All (λ t. length t.sizes ≤ 8) ts

-- the code and the name
abbrev pub code_text : Refusal → List ℕ
code_text TooLong = codes "P1 TooLong"
code_text (BadToken at) = codes "P2 BadToken: "
code_text (BadSyntax at) = codes "P3 BadSyntax: "
code_text (OverLimit what at) = codes "P4 OverLimit: "
code_text (DuplicateName name at) = codes "P5 DuplicateName: "
code_text (UnknownName name at) = codes "P6 UnknownName: "
code_text (SizeNotBound name at) = codes "P7 SizeNotBound: "
code_text (NegativeDim t matrix axis sizes) = codes "P8 NegativeDim: "
code_text (BadOutput at) = codes "P9 BadOutput: "
code_text (OverlapOutputs t rule first second) = codes "P10 OverlapOutputs: "
code_text (BadType at) = codes "P11 BadType: "
code_text (NotABox t rule condition) = codes "P12 NotABox: "
code_text (Crossing t matrix axis first second over under) = codes "P13 Crossing: "
code_text (Uncovered t matrix area) = codes "P14 Uncovered: "
code_text (TooManySegments t matrix) = codes "P15 TooManySegments: "
code_text (NoOrder t segments) = codes "P16 NoOrder: "
code_text Memory = []

-- what is told of the segments of a transform
abbrev pub segments_cause : List ProgTransform → List NodeValue → Refusal → List ℕ
segments_cause ts nodes (Crossing t matrix axis first second over under) = crossing_text ts t matrix axis first second over under
segments_cause ts nodes (Uncovered t matrix area) = uncovered_text ts t matrix area
segments_cause ts nodes (TooManySegments t matrix) = crowded_text ts t matrix
segments_cause ts nodes (NoOrder t segments) = unordered_text ts nodes t segments
segments_cause ts nodes other = []

-- of its sides and its rules
abbrev pub transform_cause : List ProgTransform → List NodeValue → Refusal → List ℕ
transform_cause ts nodes (NegativeDim t matrix axis sizes) = negative_text ts t matrix axis sizes
transform_cause ts nodes (OverlapOutputs t rule first second) = rule_text ts t rule ++ outputs_text first second
transform_cause ts nodes (NotABox t rule condition) = rule_text ts t rule ++ condition_text condition
transform_cause ts nodes other = segments_cause ts nodes other

-- where the fault is, and the line's end
abbrev pub cause_text : List ProgTransform → List NodeValue → Refusal → List ℕ
cause_text ts nodes TooLong = 10 ∷ []
cause_text ts nodes (BadToken at) = at_byte at
cause_text ts nodes (BadSyntax at) = at_byte at
cause_text ts nodes (OverLimit what at) = named (item_word what) at
cause_text ts nodes (DuplicateName name at) = named name.bytes at
cause_text ts nodes (UnknownName name at) = named name.bytes at
cause_text ts nodes (SizeNotBound name at) = named name.bytes at
cause_text ts nodes (BadOutput at) = at_byte at
cause_text ts nodes (BadType at) = at_byte at
cause_text ts nodes other = transform_cause ts nodes other

-- the line of a refusal, with the segments of the transform that it names; out of memory has none
abbrev pub refusal_line : List ProgTransform → List NodeValue → Refusal → List ℕ
refusal_line ts nodes e = code_text e ++ cause_text ts nodes e
