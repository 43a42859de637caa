-- Transforms and programs: one whose names have no fault is well formed.
use Rattle.std.proofs.Common.{◌≡◌, ℕ, zero, suc, ◌+◌, ◌<◌, ◌≤◌, true, false, ◌||◌, if◌then◌else◌, Bool, List, [], ◌∷◌, ◌++◌, map, take, length, Option, Some, None, is_some, refl, ap, subst, sym, ◌∙◌, arith, append_assoc}
use Rattle.std.specs.List.{AllByRecursion, flat_map, slice_index}
use Rattle.std.specs.Option.{IfSome}
use Rattle.std.proofs.lemmas.Bool.{or_parts}
use Rattle.std.proofs.lemmas.List.{length-append, length-map, map-append}
use Rattle.std.proofs.Math.Seq.{take-append_seam}
use Rattle.pb_values.specs.Name.{NameValue}
use Rattle.pb_linear.specs.declared.sizes.TheConstants.{SIZE_TOP}
use Rattle.pb_syntax.specs.declared.limits.TheConstants.{MOST_NUMBER}
use Rattle.pb_syntax.specs.Forms.{FormValue, DeclValue as DeclText}
use Rattle.pb_syntax.specs.Trees.{TransformTree}
use Rattle.pb_syntax.specs.WithinLimits.{Counts, DeclWithin, IsWithinLimits, MinimumWithin, RuleWithin, TransformWithin}
use Rattle.pb_program.specs.declared.meaning.Meaning.{Meaning}
use Rattle.pb_program.specs.Forms.{DeclValue}
use Rattle.pb_program.specs.Trees.{ProgTransform}
use Rattle.pb_program.specs.WellFormed.{AreDistinct, AreRanges, Around, IsBound, IsDecl, IsRule, IsTransform, IsWellFormed}
use Rattle.pb_names.specs.declared.matrices.Matrix.{Matrix}
use Rattle.pb_names.specs.Names.{look}
use Rattle.pb_names.specs.Turns.{after_turns, turn_faults}
use Rattle.pb_names.specs.Bodies.{Visible, function_of}
use Rattle.pb_names.specs.Views.{is_size}
use Rattle.pb_names.specs.Rules.{decl_of, rule_faults, rule_of}
use Rattle.pb_names.specs.Transforms.{IsResolved, Minimums, all_matrices, all_names, between, count_of, decls_faults, decls_of, entries, faults_of, first_names, given, least_at, least_or, matrices_of, matrix_faults, minimum_faults, minimums_of, named_faults, next_matrix, next_minimum, next_transform, program_of, put_first, ranges_of, seen, sizes, transform_faults, transform_of}
use Rattle.pb_names.proofs.ListFits.{after_append, all_append, all_mapped, all_push, both, found_fits, turns_fit, turns_map, within_mapped}
use Rattle.pb_names.proofs.LookLemmas.{none_duplicate, none_found}
use Rattle.pb_names.proofs.FormsFit.{Fit}
use Rattle.pb_names.proofs.BodiesFit.{Sees}
use Rattle.pb_names.proofs.ViewsFit.{MatrixThere}
use Rattle.pb_names.proofs.PlansFit.{decl_fits}
use Rattle.pb_names.proofs.RulesFit.{rule_fits}
use Rattle.pb_names.proofs.DistinctFit.{apart, turns_append}
use Rattle.pb_names.proofs.SizeNames.{sizes_few}
use Rattle.pb_names.proofs.SizesFit.{sizes_bound, sizes_named}

-- what a header sees is there
entries_there : (a : Around) (k : ℕ) (ns : List NameValue) → k + length ns ≤ a.sizes → Fit a 0 (entries k ns)
entries_there a k [] h = tt {0}
entries_there a k (n ∷ ns) h = (omega arith, entries_there a (k + 1) ns (omega arith))

put_there : (top k : ℕ) (known : List (List ℕ × ℕ)) (n : NameValue) → k < top → AllByRecursion (λ e. e.1 < top) known
    → AllByRecursion (λ e. e.1 < top) (put_first k known n)
put_there top k known n less h = by (is_some (look n.bytes known))
  where
    by : (b : Bool) → AllByRecursion (λ e. e.1 < top) (if b then known else known ++ (n.bytes, k) ∷ [])
    by true = h
    by false = all_push (λ e. e.1 < top) known (n.bytes, k) h less

first_there : (top k : ℕ) (known : List (List ℕ × ℕ)) (ts : List TransformTree) → AllByRecursion (λ e. e.1 < top) known → k + length ts ≤ top
    → AllByRecursion (λ e. e.1 < top) (first_names k known ts)
first_there top k known [] h few = h
first_there top k known (t ∷ ts) h few = first_there top (k + 1) (put_first k known t.name) ts (put_there top k known t.name (omega arith) h) (omega arith)

-- the least values of the sizes
minimums_there : (known : Minimums) (ms : List (NameValue × ℕ)) → AllByRecursion (λ e. e.1 ≤ MOST_NUMBER) known → AllByRecursion MinimumWithin ms
    → AllByRecursion (λ e. e.1 ≤ MOST_NUMBER) (after_turns next_minimum known ms)
minimums_there known [] h w = h
minimums_there known (m ∷ ms) h w = minimums_there (next_minimum known m) ms (all_push (λ e. e.1 ≤ MOST_NUMBER) known (m.0.bytes, m.1) h w.0.1) w.1

least_by_fits : (o : Option ℕ) → IfSome o (λ k. k ≤ MOST_NUMBER) → Counts 1 SIZE_TOP (least_or o)
least_by_fits (Some k) h = (omega arith, omega arith)
least_by_fits None h = (omega arith, omega arith)

least_fits : (known : Minimums) → AllByRecursion (λ e. e.1 ≤ MOST_NUMBER) known → (ns : List NameValue) (k : ℕ) → k < length ns
    → Counts 1 SIZE_TOP (least_at known ns k)
least_fits known h [] k within = absurd (omega arith)
least_fits known h (n ∷ ns) zero within = least_by_fits (look n.bytes known) (found_fits (λ k. k ≤ MOST_NUMBER) n.bytes known h)
least_fits known h (n ∷ ns) (suc k) within = least_fits known h ns k (omega arith)

eight : (f : ℕ → ℕ) (k : ℕ) → k < 8 → f k ≡ slice_index (f 0 ∷ f 1 ∷ f 2 ∷ f 3 ∷ f 4 ∷ f 5 ∷ f 6 ∷ f 7 ∷ []) k
eight f zero h = refl
eight f (suc zero) h = refl
eight f (suc (suc zero)) h = refl
eight f (suc (suc (suc zero))) h = refl
eight f (suc (suc (suc (suc zero)))) h = refl
eight f (suc (suc (suc (suc (suc zero))))) h = refl
eight f (suc (suc (suc (suc (suc (suc zero)))))) h = refl
eight f (suc (suc (suc (suc (suc (suc (suc zero))))))) h = refl
eight f (suc (suc (suc (suc (suc (suc (suc (suc k)))))))) h = absurd (omega arith)

ranges_fit : (known : Minimums) (ns : List NameValue) → length ns ≤ 8 → AllByRecursion (λ e. e.1 ≤ MOST_NUMBER) known
    → AreRanges (length ns) (ranges_of known ns)
ranges_fit known ns few h =
    record { counted = refl; low = λ k within. subst (Counts 1 SIZE_TOP) (eight (least_at known ns) k (omega arith)) (least_fits known h ns k within) }

-- the matrices of a transform
dims_counted : (fs : List FormValue) → Counts 1 2 (count_of fs)
dims_counted [] = (omega arith, omega arith)
dims_counted (f ∷ []) = (omega arith, omega arith)
dims_counted (f ∷ g ∷ fs) = (omega arith, omega arith)

matrices_there : (top : ℕ) (known : List (List ℕ × Matrix)) (ds : List DeclText) → AllByRecursion (λ e. MatrixThere top e.1) known
    → length known + length ds ≤ top → AllByRecursion (λ e. MatrixThere top e.1) (after_turns next_matrix known ds)
matrices_there top known [] h few = h
matrices_there top known (d ∷ ds) h few =
    let m : Matrix = record { number = length known; dims = count_of d.dims } in
    let more : length (next_matrix known d) ≡ length known + 1 = length-append known ((d.name.bytes, m) ∷ []) in
    let there : MatrixThere top m = record { number = omega arith; dims = dims_counted d.dims } in
    matrices_there top (next_matrix known d) ds (all_push (λ e. MatrixThere top e.1) known (d.name.bytes, m) h there) (omega arith)

decl_name : (names : List (List ℕ × Meaning)) (n : NameValue) (fs : List FormValue) → (decl_of names n fs).name ≡ n
decl_name names n [] = refl
decl_name names n (f ∷ []) = refl
decl_name names n (f ∷ g ∷ fs) = refl

names_kept : {A B : Type 0} (f : A → B) (name : A → NameValue) (made : B → NameValue) → ((x : A) → made (f x) ≡ name x) → (xs : List A)
    → map made (map f xs) ≡ map name xs
names_kept f name made same [] = refl
names_kept f name made same (x ∷ xs) = λ i. same x i ∷ names_kept f name made same xs i

module _ (transforms : List (List ℕ × ℕ)) (count : ℕ) (there : AllByRecursion (λ e. e.1 < count) transforms) (t : TransformTree) (w : TransformWithin t) where
  abbrev v : Visible
  v = seen transforms t

  abbrev all : List DeclText
  all = t.from ++ (t.through ++ t.to)

  abbrev made : DeclText → DeclValue
  made d = decl_of v.names d.name d.dims

  few : length (sizes t) ≤ 8
  few = sizes_few t.from 8 w.few_sizes

  sees : (a : Around) → a.sizes ≡ length (sizes t) → a.transforms ≡ count → Sees a v
  sees a same all = record {
    names = entries_there a 0 (sizes t) (omega arith);
    transforms = subst (λ n. AllByRecursion (λ e. e.1 < n) transforms) (sym all) there;
  }

  parts_are : map made all ≡ map made t.from ++ (map made t.through ++ map made t.to)
  parts_are = map-append made t.from (t.through ++ t.to) ∙ ap (λ l. map made t.from ++ l) (map-append made t.through t.to)

  decls_are : decls_of v t ≡ map made all
  decls_are = (λ i. turns_map next_matrix made [] t.from i ++ turns_map next_matrix made (given t) t.through i ++ turns_map next_matrix made (between t) t.to i)
      ∙ append_assoc (map made t.from) (map made t.through) (map made t.to) ∙ sym parts_are

  all_count : length all ≡ length t.from + (length t.through + length t.to)
  all_count = length-append t.from (t.through ++ t.to) ∙ ap (λ n. length t.from + n) (length-append t.through t.to)

  decls_count : length (decls_of v t) ≡ length all
  decls_count = ap length decls_are ∙ length-map all made

  given_are : take (length t.from) (decls_of v t) ≡ map made t.from
  given_are =
      let rest = map made (t.through ++ t.to) in
      ap (take (length t.from)) (decls_are ∙ map-append made t.from (t.through ++ t.to))
      ∙ ap (λ n. take n (map made t.from ++ rest)) (sym (length-map t.from made)) ∙ take-append_seam (map made t.from) rest

  all_within : AllByRecursion DeclWithin all
  all_within = all_append DeclWithin t.from (t.through ++ t.to) w.from (all_append DeclWithin t.through t.to w.through w.to)

  decls_fit : AllByRecursion (IsDecl (length (sizes t))) (decls_of v t)
  decls_fit =
      let a : Around = record { sizes = length (sizes t); variables = 0; outputs = 0; reads = 0; transforms = count } in
      let fit = λ (d : DeclText) (h : DeclWithin d). decl_fits a 0 v.names (sees a refl refl).names d.name d.dims h.name h.dims in
      subst (AllByRecursion (IsDecl (length (sizes t)))) (sym decls_are) (all_mapped made DeclWithin (IsDecl (length (sizes t))) fit all all_within)

  known : AllByRecursion (λ e. MatrixThere (length (decls_of v t)) e.1) (all_matrices t)
  known =
      let top = length (decls_of v t) in
      subst (AllByRecursion (λ e. MatrixThere top e.1))
      (after_append next_matrix [] t.from (t.through ++ t.to) ∙ after_append next_matrix (given t) t.through t.to)
      (matrices_there top [] all (tt {0}) (omega (arith, decls_count)))

  new_matrix : (known : List (List ℕ × Matrix)) (d : DeclText) → matrix_faults v known d ≡ [] → look d.name.bytes known ≡ None
  new_matrix known d e =
      let a = is_size (look d.name.bytes v.names) in
      let b = is_some (look d.name.bytes known) in
      none_found (look d.name.bytes known) (or_parts a b (both (none_duplicate (a || b) d.name) (λ z. z) e).0).1

  distinct : decls_faults v t ≡ [] → AreDistinct (map (λ d. d.name) (decls_of v t))
  distinct e =
      let clean = both (λ z. z) (both (λ z. z) (λ z. z)) e in
      let others = turns_append next_matrix (matrix_faults v) (given t) t.through t.to clean.1.0 clean.1.1 in
      let whole = turns_append next_matrix (matrix_faults v) [] t.from (t.through ++ t.to) clean.0 others in
      subst AreDistinct (sym (ap (map (λ d. d.name)) decls_are ∙ names_kept made (λ d. d.name) (λ d. d.name) (λ d. decl_name v.names d.name d.dims) all))
      (apart (λ d. d.name) (λ known d. record { number = length known; dims = count_of d.dims }) (matrix_faults v) new_matrix [] all whole).1

  transform_fits : transform_faults transforms t ≡ [] → IsTransform count (transform_of transforms t)
  transform_fits e =
      let ms = matrices_of t in
      let clean : (turn_faults next_minimum (minimum_faults v) [] t.minimums ≡ []) × ((decls_faults v t ≡ []) × (flat_map (rule_faults ms v) t.rules ≡ []))
      = both (λ z. z) (both (λ z. z) (λ z. z)) e in
      record {
        name = w.name;
        few_sizes = few;
        few_matrices = omega (arith, decls_count, all_count, w.few_matrices);
        few_rules = omega (arith, length-map t.rules (rule_of (matrices_of t) v), w.rules.0);
        parts = omega (arith, decls_count, all_count);
        ranges = ranges_fit (minimums_of t) (sizes t) few (minimums_there [] t.minimums (tt {0}) w.minimums.1);
        size_names = sizes_named t.from w.from;
        bound = λ k within. subst (λ l. IsBound l k) (sym given_are) (sizes_bound t.from w.from k within few);
        matrices = decls_fit;
        distinct = distinct clean.1.0;
        rules = within_mapped (rule_of ms v) RuleWithin (IsRule (length (sizes t)) (length t.from) (length (decls_of v t)) count) (rule_faults ms v)
            (rule_fits (length (sizes t)) count ms (length (decls_of v t)) known v refl sees) t.rules w.rules.1 clean.1.1;
      }

new_transform : (all known : List (List ℕ × ℕ)) (t : TransformTree) → named_faults all known t ≡ [] → look t.name.bytes known ≡ None
new_transform transforms known t e =
    let a = is_some (function_of t.name.bytes) in
    let b = is_some (look t.name.bytes known) in
    none_found (look t.name.bytes known) (or_parts a b (both (none_duplicate (a || b) t.name) (λ z. z) e).0).1

-- the program of a tree whose names have no fault
pub well_formed : (ts : List TransformTree) → IsWithinLimits ts → faults_of ts ≡ [] → IsWellFormed (program_of ts)
well_formed ts w e =
    let all = all_names ts in
    let count = length (program_of ts) in
    let many : count ≡ length ts = length-map ts (transform_of all) in
    let there : AllByRecursion (λ e. e.1 < count) all = first_there count 0 [] ts (tt {0}) (omega arith) in
    let fit = (turns_fit next_transform (λ known t. transform_of all t) (named_faults all) (λ n s. Unit {0}) TransformWithin (IsTransform count)
    (λ n s t h within d. ((both (λ z. z) (transform_fits all count there t within) d).1, tt {0})) [] ts (tt {0}) w.1 e).0 in
    record {
      few = omega (arith, w.0);
      distinct = subst AreDistinct (sym (names_kept (transform_of all) (λ t. t.name) (λ t. t.name) (λ t. refl) ts))
          (apart (λ t. t.name) (λ known t. 0) (named_faults all) (new_transform all) [] ts e).1;
      transforms = subst (AllByRecursion (IsTransform count)) (turns_map next_transform (transform_of all) [] ts) fit;
    }

pub resolved_well_formed : (ts : List TransformTree) (p : List ProgTransform) → IsWithinLimits ts → IsResolved ts p → IsWellFormed p
resolved_well_formed ts p w r = subst IsWellFormed (sym r.program) (well_formed ts w r.faultless)
