-- The lines on `err` for configurations and runs that are refused, and for a run that is trapped.
use Rattle.std.specs.Prelude.{ℕ, zero, suc, List, [], ◌∷◌, ◌++◌, Option, Some, None, codes, decimal, slice_get}
use Rattle.pb_config.specs.declared.refusal.ConfigRefusal.{ConfigRefusal}
use Rattle.pb_config.specs.declared.refusal.ConfigRefusal.TheVariants.{BadLine, UnknownPlace, NotInSet, CutoffsNotRising, Twice, Memory as NoRoom}
use Rattle.pb_entry.specs.declared.refusal.Count.{Count}
use Rattle.pb_entry.specs.declared.refusal.Count.TheVariants.{Calls, Side, Cells, Tasks, Links}
use Rattle.pb_entry.specs.declared.refusal.RunRefusal.{RunRefusal}
use Rattle.pb_entry.specs.declared.refusal.RunRefusal.TheVariants.{UnknownTransform, WrongCount, BadShape, SizeOutOfRange, TooLarge, Memory}
use Rattle.pb_lines.specs.Lines.{matrix_text, rule_text, transform_text}
use Rattle.pb_model.specs.Calls.{TrappedCell}
use Rattle.pb_program.specs.Forms.{DeclValue}
use Rattle.pb_program.specs.Trees.{ProgTransform}
use Rattle.pb_taskgraph.specs.declared.limits.TheConstants.{MOST_CELLS, MOST_LINKS, MOST_TASKS}
use Rattle.pb_values.specs.Name.{NameValue}
use Rattle.pb_values.specs.declared.outcome.Kind.{Kind}
use Rattle.pb_values.specs.declared.outcome.Kind.TheVariants.{Overflow, DivideByZero, OutOfView, LoopLimit, BadShape as WrongShape, DepthEnded}
use Rattle.pb_values.specs.declared.shape.TheConstants.{MOST_SIDE}

-- ---- configurations
-- `line 1`, and the line's end
abbrev pub at_line : ℕ → List ℕ
at_line line = codes "line " ++ (decimal line ++ 10 ∷ [])

-- the line of a refused configuration; out of memory has none
abbrev pub config_line : ConfigRefusal → List ℕ
config_line (BadLine line) = codes "C1 BadLine: " ++ at_line line
config_line (UnknownPlace line) = codes "C2 UnknownPlace: " ++ at_line line
config_line (NotInSet line) = codes "C3 NotInSet: " ++ at_line line
config_line (CutoffsNotRising line) = codes "C4 CutoffsNotRising: " ++ at_line line
config_line (Twice line) = codes "C5 Twice: " ++ at_line line
config_line NoRoom = []

-- ---- runs
-- the name of a matrix, by its number
abbrev pub decl_name : Option DeclValue → List ℕ
decl_name None = []
decl_name (Some d) = d.name.bytes

abbrev pub matrix_name : Option ProgTransform → ℕ → List ℕ
matrix_name None matrix = []
matrix_name (Some t) matrix = decl_name (slice_get t.matrices matrix)

-- the name of a size variable, by its number
abbrev pub name_bytes : Option NameValue → List ℕ
name_bytes None = []
name_bytes (Some n) = n.bytes

abbrev pub size_name : Option ProgTransform → ℕ → List ℕ
size_name None size = []
size_name (Some t) size = name_bytes (slice_get t.sizes size)

-- the word for what is wrong with a shape
abbrev pub axis_word : ℕ → List ℕ
axis_word zero = codes "width"
axis_word (suc zero) = codes "height"
axis_word (suc (suc n)) = codes "dimensions"

-- the word for what is counted of a run, and its limit
abbrev pub count_word : Count → List ℕ
count_word Calls = codes "calls"
count_word Side = codes "side"
count_word Cells = codes "cells"
count_word Tasks = codes "tasks"
count_word Links = codes "links"

abbrev pub limit_of : Count → ℕ
limit_of Calls = 16384
limit_of Side = MOST_SIDE
limit_of Cells = MOST_CELLS
limit_of Tasks = MOST_TASKS
limit_of Links = MOST_LINKS

-- two numbers, each after a word, and the line's end
abbrev pub pair_text : List ℕ → ℕ → List ℕ → ℕ → List ℕ
pair_text first a second b = (first ++ decimal a) ++ ((second ++ decimal b) ++ 10 ∷ [])

-- `B height wanted 3 found 2`
abbrev pub shape_text : Option ProgTransform → ℕ → ℕ → ℕ → ℕ → List ℕ
shape_text t matrix axis wanted found = matrix_name t matrix ++ (codes " " ++ (axis_word axis ++ pair_text (codes " wanted ") wanted (codes " found ") found))

-- `n is 1`
abbrev pub size_text : Option ProgTransform → ℕ → ℕ → List ℕ
size_text t size value = size_name t size ++ ((codes " is " ++ decimal value) ++ 10 ∷ [])

-- `cells over 4194304`
abbrev pub count_text : Count → List ℕ
count_text what = count_word what ++ ((codes " over " ++ decimal (limit_of what)) ++ 10 ∷ [])

-- the code and the name
abbrev pub code_text : RunRefusal → List ℕ
code_text UnknownTransform = codes "B1 UnknownTransform: "
code_text (WrongCount wanted given) = codes "B2 WrongCount: "
code_text (BadShape matrix axis wanted found) = codes "B3 BadShape: "
code_text (SizeOutOfRange size value) = codes "B4 SizeOutOfRange: "
code_text (TooLarge what) = codes "X1 TooLarge: "
code_text Memory = []

-- what is wrong, of a run of the transform with this number, for which this name was asked; and the line's end
abbrev pub cause_text : List ProgTransform → ℕ → List ℕ → RunRefusal → List ℕ
cause_text ts t name UnknownTransform = name ++ 10 ∷ []
cause_text ts t name (WrongCount wanted given) = pair_text (codes "wanted ") wanted (codes " given ") given
cause_text ts t name (BadShape matrix axis wanted found) = shape_text (slice_get ts t) matrix axis wanted found
cause_text ts t name (SizeOutOfRange size value) = size_text (slice_get ts t) size value
cause_text ts t name (TooLarge what) = count_text what
cause_text ts t name Memory = []

-- the line of a refused run; out of memory has none
abbrev pub run_line : List ProgTransform → ℕ → List ℕ → RunRefusal → List ℕ
run_line ts t name e = code_text e ++ cause_text ts t name e

-- ---- traps
-- the word for what went wrong in a cell
abbrev pub kind_word : Kind → List ℕ
kind_word Overflow = codes "Overflow"
kind_word DivideByZero = codes "DivideByZero"
kind_word OutOfView = codes "OutOfView"
kind_word LoopLimit = codes "LoopLimit"
kind_word WrongShape = codes "BadShape"
kind_word DepthEnded = codes "DepthEnded"

-- a place, after a blank: ` (1,0)`
abbrev pub place_text : ℕ → ℕ → List ℕ
place_text x y = (codes " (" ++ decimal x) ++ ((codes "," ++ decimal y) ++ codes ")")

-- the line of a trapped run of the transform with this number: the cell, and the rule that made its trap with the trap's place,
-- `T Overflow: T.M (1,0), by U rule 1 (1,0)`
abbrev pub trap_line : List ProgTransform → ℕ → TrappedCell → List ℕ
trap_line ts t trapped =
    codes "T " ++ (kind_word trapped.trap.kind
    ++ (codes ": " ++ (transform_text ts t ++ (matrix_text ts t trapped.cell.matrix ++ (place_text trapped.cell.x trapped.cell.y
    ++ (codes ", by " ++ (rule_text ts trapped.trap.transform trapped.trap.rule ++ (place_text trapped.trap.x trapped.trap.y ++ 10 ∷ []))))))))
