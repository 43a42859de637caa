-- From the words of a command and the bytes of its files to what is asked of them.
use Rattle.std.proofs.Common.{◌≡◌, ◌∙◌, refl, sym, ap, subst, ℕ, zero, suc, ◌-◌, ◌<◌, ◌≤◌, Bool, true, false, cond, List, [], ◌∷◌, length, map, take, drop, get_or, Option, Some, None, Result, Ok, Vec, String, string_bytes, arith}
use Rattle.std.specs.List.{zip}
use Rattle.std.specs.declared.alloc.Global.{Global}
use Rattle.std.proofs.lemmas.List.{drop-map, length-drop, length-map, take_all}
use Rattle.pb_outside.specs.Shelf.{Files}
use Rattle.pb_words.specs.Files.{run_files}
use Rattle.pb_top.specs.Answer.{RunLine, Runs, content_at, is_dash, limited, run_line}
use Rattle.pb_top.specs.Runs.{RunWrites, RunsProgram}
use Rattle.pb_top.specs.Steps.{Takes, TakesFile}
use Rattle.pb_top.specs.Working.{Prepares, contents_of, line_files}
use Rattle.pb_top.specs.declared.prepare.Prepared.{Prepared}
use Rattle.pb_top.specs.declared.reply.Stop.{Stop}
use Rattle.pb_top.proofs.StepLemmas.{each_length}

abbrev items : Vec ℕ Global → List ℕ
items b = b.items

-- as many files are taken as are named
pub taken_length : (told : Option Files) (names : List (List ℕ)) (contents : List (Vec ℕ Global)) → Takes told (limited names) (Ok (contents_of contents)) → length contents ≡ length names
taken_length told names contents takes =
    sym (length-map contents items) ∙ each_length (λ file. TakesFile told file.0 file.1) (limited names) (contents_of contents) takes ∙ length-map names _

content_is : (contents : List (Vec ℕ Global)) (k : ℕ) (a : Vec ℕ Global) → k < length contents → a ≡ get_or contents k a → a.items ≡ content_at (contents_of contents) k
content_is [] k a below at = absurd (omega (arith, below))
content_is (x ∷ contents) zero a below at = ap items at
content_is (x ∷ contents) (suc k) a below at = content_is contents k a (omega (arith, below)) at

-- the word at a place
pub word_is : (words : List (String Global)) (k : ℕ) (a : String Global) → k < length words → a ≡ get_or words k a → string_bytes a ≡ get_or (map string_bytes words) k []
word_is [] k a below at = absurd (omega (arith, below))
word_is (x ∷ words) zero a below at = ap string_bytes at
word_is (x ∷ words) (suc k) a below at = word_is words k a (omega (arith, below)) at

-- the bytes of the program, where just its file is taken
pub first_content : (others : List (String Global)) (taken : List (List ℕ)) (contents : List (Vec ℕ Global)) (a : Vec ℕ Global) (least : ℕ) → least ≤ length others → least ≡ 1 → taken ≡ take 1 (map string_bytes others)
    → length contents ≡ length taken → a ≡ get_or contents 0 a → a.items ≡ content_at (contents_of contents) 0
first_content [] taken contents a least enough one is count at = absurd (omega (arith, enough, one))
first_content (word ∷ others) taken contents a least enough one is count at = content_is contents 0 a (omega (arith, count, ap length is)) at

-- the files of a run are those that its words name
pub line_count : (others : List (List ℕ)) → 3 ≤ length others → length (run_files others) ≡ length (line_files (run_line others))
line_count [] some = absurd (omega (arith, some))
line_count (program ∷ []) some = absurd (omega (arith, some))
line_count (program ∷ config ∷ []) some = absurd (omega (arith, some))
line_count (program ∷ config ∷ transform ∷ inputs) some = refl

pub few_inputs : (others : List (List ℕ)) → length others ≤ 19 → length (run_line others).inputs ≤ 16
few_inputs [] few = omega arith
few_inputs (program ∷ []) few = omega arith
few_inputs (program ∷ config ∷ []) few = omega arith
few_inputs (program ∷ config ∷ transform ∷ inputs) few = omega (arith, few)

-- the contents from a place on
rest_is : (contents texts : List (Vec ℕ Global)) (k : ℕ) → texts ≡ take (length contents - k) (drop k contents) → contents_of texts ≡ drop k (contents_of contents)
rest_is contents texts k is =
    ap contents_of (is ∙ take_all (length contents - k) (drop k contents) (omega (arith, length-drop k contents))) ∙ sym (drop-map items k contents)

module _ (depth grain : ℕ) (traced : Bool) (line : RunLine) (contents : List (Vec ℕ Global)) (count : length contents ≡ length (line_files line)) (a : Vec ℕ Global) (at : a ≡ get_or contents 0 a) (program : List ℕ) (program_is : program ≡ a.items) (texts : List (Vec ℕ Global)) (found : Result Prepared Stop) where
  abbrev Is : List ℕ → Option (List ℕ) → List (List ℕ) → Type 0
  Is p text rest = Prepares line.transform depth grain traced (λ pool tail. RunsProgram line.transform depth grain (RunWrites pool traced tail) p text (zip line.inputs rest)) found

  abbrev Goal : Option (List ℕ) → List (List ℕ) → Type 0
  Goal text rest = Is (content_at (contents_of contents) 0) text rest

  abbrev All : Type 0
  All = Prepares line.transform depth grain traced (λ pool tail. Runs depth grain (RunWrites pool traced tail) line (contents_of contents)) found

  some_there : (dash : Bool) → is_dash line.config ≡ dash → 0 < length contents
  some_there dash is = omega (arith, count)

  first : program ≡ content_at (contents_of contents) 0
  first = program_is ∙ content_is contents 0 a (some_there (is_dash line.config) refl) at

  pub without_config : is_dash line.config ≡ true → texts ≡ take (length contents - 1) (drop 1 contents) → Is program None (contents_of texts) → All
  without_config dash rest writes =
      let moved : Goal None (drop 1 (contents_of contents)) = subst (λ r. Goal None r) (rest_is contents texts 1 rest) (subst (λ p. Is p None (contents_of texts)) first writes) in
      subst (λ b. Goal (cond b None (Some (content_at (contents_of contents) 1))) (drop (cond b 1 2) (contents_of contents))) (sym dash) moved

  module _ (plain : is_dash line.config ≡ false) (b : Vec ℕ Global) (at_b : b ≡ get_or contents 1 b) (config : List ℕ) (config_is : config ≡ b.items) where
    two_there : 1 < length contents
    two_there = omega (arith, count, ap (λ d. length ([] ∷ cond d line.inputs (line.config ∷ line.inputs))) plain)

    pub with_config : texts ≡ take (length contents - 2) (drop 2 contents) → Is program (Some config) (contents_of texts) → All
    with_config rest writes =
        let second = config_is ∙ content_is contents 1 b two_there at_b in
        let moved : Goal (Some (content_at (contents_of contents) 1)) (drop 2 (contents_of contents)) = subst (λ c. Goal (Some c) (drop 2 (contents_of contents))) second (subst (λ r. Goal (Some config) r) (rest_is contents texts 2 rest) (subst (λ p. Is p (Some config) (contents_of texts)) first writes)) in
        subst (λ d. Goal (cond d None (Some (content_at (contents_of contents) 1))) (drop (cond d 1 2) (contents_of contents))) (sym plain) moved
