-- The inputs of a run.
use Rattle.std.proofs.Common.{◌≡◌, ◌∙◌, sym, ap, subst, ℕ, zero, suc, ◌+◌, ◌<◌, ◌≤◌, List, [], ◌∷◌, ◌++◌, length, map, drop, get_or, Option, Result, Ok, Err, Vec, String, string_bytes, arith}
use Rattle.std.specs.Prelude.{IsSomeAnd}
use Rattle.std.specs.declared.alloc.Global.{Global}
use Rattle.std.proofs.lemmas.List.{length-map}
use Rattle.pb_program.specs.Trees.{ProgTransform}
use Rattle.pb_matrix.specs.Value.{MatrixValue}
use Rattle.pb_top.specs.Reply.{Reply}
use Rattle.pb_top.specs.Runs.{ReadsInput}
use Rattle.pb_top.specs.Steps.{Each}
use Rattle.pb_top.specs.Working.{StopsWith, contents_of, files_of}
use Rattle.pb_top.specs.declared.reply.Stop.{Stop}
use Rattle.pb_top.proofs.FinishLemmas.{zip_length}
use Rattle.pb_top.proofs.StepLemmas.{EachAfter, each_done, each_length, each_next, each_stops, stops_map}

pub files_length : (files : List (String Global)) (texts : List (Vec ℕ Global)) → length files ≡ length texts → length (files_of files texts) ≡ length files
files_length files texts e =
    zip_length (map string_bytes files) (contents_of texts) (length-map files string_bytes ∙ e ∙ sym (length-map texts (λ (b : Vec ℕ Global). b.items))) ∙ length-map files string_bytes

files_at : (files : List (String Global)) (texts : List (Vec ℕ Global)) (i : ℕ) (f : String Global) (t : Vec ℕ Global) → length files ≡ length texts → i < length files → f ≡ get_or files i f → t ≡ get_or texts i t
    → drop i (files_of files texts) ≡ (string_bytes f, t.items) ∷ drop (i + 1) (files_of files texts)
files_at [] texts i f t e below at_f at_t = absurd (omega (arith, below))
files_at (x ∷ files) [] i f t e below at_f at_t = absurd (omega (arith, e))
files_at (x ∷ files) (y ∷ texts) zero f t e below at_f at_t = λ j. (string_bytes (sym at_f j), (sym at_t j).items) ∷ files_of files texts
files_at (x ∷ files) (y ∷ texts) (suc i) f t e below at_f at_t =
    let next : suc i + 1 ≡ suc (i + 1) = omega arith in
    files_at files texts i f t (omega (arith, e)) (omega (arith, below)) at_f at_t ∙ ap (λ n. (string_bytes f, t.items) ∷ drop n (files_of (x ∷ files) (y ∷ texts))) (sym next)

module _ (files : List (String Global)) (texts : List (Vec ℕ Global)) (e : length files ≡ length texts) where
  abbrev Inputs : Result (List MatrixValue) Reply → Type 0
  Inputs = Each ReadsInput (files_of files texts)

  pub inputs_done : (i : ℕ) (found : List MatrixValue) → length files ≤ i → EachAfter ReadsInput (files_of files texts) i found → Inputs (Ok found)
  inputs_done i found past = each_done ReadsInput (files_of files texts) i found (omega (arith, past, files_length files texts e))

  pub inputs_count : (found : List MatrixValue) → Inputs (Ok found) → length found ≡ length files
  inputs_count found read = each_length ReadsInput (files_of files texts) found read ∙ files_length files texts e

  module _ (i : ℕ) (f : String Global) (t : Vec ℕ Global) (below : i < length files) (at_f : f ≡ get_or files i f) (at_t : t ≡ get_or texts i t) (word text : List ℕ) (word_is : word ≡ string_bytes f) (text_is : text ≡ t.items) (found : List MatrixValue) (so_far : EachAfter ReadsInput (files_of files texts) i found) where
    moved : (outcome : Result MatrixValue Reply) → ReadsInput (word, text) outcome → ReadsInput (string_bytes f, t.items) outcome
    moved outcome = subst (λ (p : List ℕ × List ℕ). ReadsInput p outcome) (λ j. (word_is j, text_is j))

    pub inputs_next : (m : MatrixValue) (more : List MatrixValue) → more ≡ found ++ m ∷ [] → ReadsInput (word, text) (Ok m) → EachAfter ReadsInput (files_of files texts) (i + 1) more
    inputs_next m more is read =
        subst (EachAfter ReadsInput (files_of files texts) (i + 1)) (sym is)
        (each_next ReadsInput (files_of files texts) i (string_bytes f, t.items) (files_at files texts i f t e below at_f at_t) found so_far m (moved (Ok m) read))

    pub inputs_stop : (stop : Stop) → StopsWith (λ reply. ReadsInput (word, text) (Err reply)) stop → StopsWith (λ reply. Inputs (Err reply)) stop
    inputs_stop stop =
        stops_map (λ reply. ReadsInput (word, text) (Err reply)) (λ reply. Inputs (Err reply))
        (λ reply read. each_stops ReadsInput (files_of files texts) i (string_bytes f, t.items) (files_at files texts i f t e below at_f at_t) found so_far reply (moved (Err reply) read)) stop

pub as_many : (o : Option ProgTransform) (a b : ℕ) → b ≡ a → IsSomeAnd o (λ t. a ≡ t.inputs) → IsSomeAnd o (λ t. b ≡ t.inputs)
as_many o a b e = subst (λ n. IsSomeAnd o (λ t. n ≡ t.inputs)) (sym e)
