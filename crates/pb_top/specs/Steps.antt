-- The steps of a command, in the order of the work.
use Rattle.std.specs.Prelude.{◌≡◌, ℕ, ◌<◌, ◌≤◌, List, [], ◌∷◌, length, Option, Some, None, IfSome, IsSomeAnd, Result, Ok, Err, ◌⊎◌}
use Rattle.pb_outside.specs.Shelf.{Files, content_of}
use Rattle.pb_syntax.specs.declared.refusal.Refusal.{Refusal}
use Rattle.pb_syntax.specs.Trees.{TransformTree}
use Rattle.pb_program.specs.Trees.{ProgTransform}
use Rattle.pb_front.specs.Reading.{IsRead, IsRefused}
use Rattle.pb_names.specs.Transforms.{IsResolved, IsRefused as HasBadNames}
use Rattle.pb_graph.specs.Nodes.{NodeValue}
use Rattle.pb_check.specs.Orders.{AnalysisValue, AreFound, AreNamed}
use Rattle.pb_check.specs.Phases.{IsSound, IsRefused as IsUnsound}
use Rattle.pb_lines.specs.Lines.{refusal_line}
use Rattle.pb_top.specs.declared.reply.Status.TheVariants.{Program}
use Rattle.pb_top.specs.Reply.{Reply, refusal_reply, no_file, file_too_long}

-- a step gives something to the next, or its reply ends the work
abbrev pub Then : {A : Type 0} → (Result A Reply → Type 0) → (A → Reply → Type 0) → Reply → Type 0
Then {A} Step next reply = ((a : A) × Step (Ok a) × next a reply) ⊎ Step (Err reply)

-- a file's bytes, no more than the limit, which are those that the shelf tells, where it tells; or the reply where it isn't there or is longer
abbrev pub TakesFile : Option Files → List ℕ → ℕ → Result (List ℕ) Reply → Type 0
TakesFile told word limit (Ok bytes) = (length bytes ≤ limit) × IfSome told (λ files. content_of files word ≡ Some bytes)
TakesFile told word limit (Err reply) =
    (IsSomeAnd told (λ files. content_of files word ≡ None) × (reply ≡ no_file word))
    ⊎ (IfSome told (λ files. IsSomeAnd (content_of files word) (λ bytes. limit < length bytes)) × (reply ≡ file_too_long word))

-- a step for each of a list, in order: what they give, or the reply of the first that ends the work
abbrev pub Each : {A B : Type 0} → (A → Result B Reply → Type 0) → List A → Result (List B) Reply → Type 0
Each Step [] (Ok found) = found ≡ []
Each Step [] (Err reply) = ⊥
Each Step (x ∷ xs) (Ok []) = ⊥
Each Step (x ∷ xs) (Ok (y ∷ found)) = Step x (Ok y) × Each Step xs (Ok found)
Each {A} {B} Step (x ∷ xs) (Err reply) = Step x (Err reply) ⊎ ((y : B) × Step x (Ok y) × Each Step xs (Err reply))

-- the bytes of files by word and limit, in order; or the reply of the first that can't be taken
abbrev pub Takes : Option Files → List (List ℕ × ℕ) → Result (List (List ℕ)) Reply → Type 0
Takes told = Each (λ file. TakesFile told file.0 file.1)

-- the line of a refusal that comes before a program's names are resolved
abbrev pub Refuses : (Refusal → Type 0) → Reply → Type 0
Refuses IsWhy reply = (why : Refusal) × IsWhy why × (reply ≡ refusal_reply Program (refusal_line [] [] why))

-- the line of a refusal of a program, with the segments that it names
abbrev pub RefusesProgram : List ProgTransform → Reply → Type 0
RefusesProgram p reply = (why : Refusal) × (nodes : List NodeValue) × IsUnsound p why × AreNamed p why nodes × (reply ≡ refusal_reply Program (refusal_line p nodes why))

-- the tree of a program's text, or the line of its refusal
abbrev pub Reads : List ℕ → Result (List TransformTree) Reply → Type 0
Reads text (Ok tree) = IsRead text tree
Reads text (Err reply) = Refuses (IsRefused text) reply

-- the program that a tree is, with each name resolved, or the line of its refusal
abbrev pub Resolves : List TransformTree → Result (List ProgTransform) Reply → Type 0
Resolves tree (Ok p) = IsResolved tree p
Resolves tree (Err reply) = Refuses (HasBadNames tree) reply

-- what is found of each transform of a program that every further phase accepts, or the line of its refusal
abbrev pub Accepts : List ProgTransform → Result (List AnalysisValue) Reply → Type 0
Accepts p (Ok found) = IsSound p × AreFound p found
Accepts p (Err reply) = RefusesProgram p reply

-- ---- from a program to what is asked of it
-- by its tree, by the program with its names resolved, and by what is found of its transforms
abbrev pub OfProgram : Type 1
OfProgram = List TransformTree → List ProgTransform → List AnalysisValue → Reply → Type 0

module _ (Next : OfProgram) where
  -- of a program that is accepted
  abbrev pub AfterAccepted : List TransformTree → List ProgTransform → Reply → Type 0
  AfterAccepted tree p = Then (Accepts p) (Next tree p)

  -- of one whose names are resolved
  abbrev pub AfterResolved : List TransformTree → Reply → Type 0
  AfterResolved tree = Then (Resolves tree) (AfterAccepted tree)

  -- if no phase refuses the program
  abbrev pub AfterProgram : List ℕ → Reply → Type 0
  AfterProgram program = Then (Reads program) AfterResolved
