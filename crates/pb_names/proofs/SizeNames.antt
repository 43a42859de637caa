-- The size variables of a transform are those that are counted in its tree.
use Rattle.std.proofs.Common.{◌≡◌, ℕ, ◌+◌, ◌≤◌, Bool, true, false, ◌||◌, List, [], ◌∷◌, ◌++◌, Option, Some, None, is_some, if◌then◌else◌, length, map, refl, ap, ◌∙◌, arith}
use Rattle.std.specs.Str.{bytes_eq}
use Rattle.std.proofs.lemmas.List.{map-append, length-map}
use Rattle.pb_values.specs.Name.{NameValue}
use Rattle.pb_syntax.specs.Forms.{FormValue, DeclValue}
use Rattle.pb_syntax.specs.Limits.{alone, is_known}
use Rattle.pb_syntax.specs.Limits as written
use Rattle.pb_program.specs.declared.meaning.Meaning.TheVariants as meaning
use Rattle.pb_names.specs.Names.{look}
use Rattle.pb_names.specs.Transforms.{entries, put_size, sizes_in, sizes_of}

entries_from : (k : ℕ) (ns : List NameValue) (n : NameValue) → entries k (ns ++ n ∷ []) ≡ entries k ns ++ (n.bytes, meaning.Size (k + length ns)) ∷ []
entries_from k [] n = ap (λ j. (n.bytes, meaning.Size j) ∷ []) (omega arith)
entries_from k (m ∷ ns) n =
    ap (λ l. (m.bytes, meaning.Size k) ∷ l) (entries_from (k + 1) ns n ∙ ap (λ j. entries (k + 1) ns ++ (n.bytes, meaning.Size j) ∷ []) (omega arith))

pub entries_more : (ns : List NameValue) (n : NameValue) → entries 0 (ns ++ n ∷ []) ≡ entries 0 ns ++ (n.bytes, meaning.Size (length ns)) ∷ []
entries_more ns n = entries_from 0 ns n ∙ ap (λ j. entries 0 ns ++ (n.bytes, meaning.Size j) ∷ []) (omega arith)

-- they are the sizes that are counted in the written tree
look_known : (b : List ℕ) (k : ℕ) (ns : List NameValue) → is_some (look b (entries k ns)) ≡ is_known b (map (λ n. n.bytes) ns)
look_known b k [] = refl
look_known b k (n ∷ ns) = by (bytes_eq b n.bytes) (look_known b (k + 1) ns)
  where
    by : (t : Bool) → is_some (look b (entries (k + 1) ns)) ≡ is_known b (map (λ m. m.bytes) ns)
        → is_some (if t then Some (meaning.Size k) else look b (entries (k + 1) ns)) ≡ (t || is_known b (map (λ m. m.bytes) ns))
    by true e = refl
    by false e = e

put_same : (known : List NameValue) (o : Option NameValue) → map (λ n. n.bytes) (put_size known o) ≡ written.put_size (map (λ n. n.bytes) known) o
put_same known None = refl
put_same known (Some n) =
    ap (λ b. map (λ m. m.bytes) (if b then known else known ++ n ∷ [])) (look_known n.bytes 0 known) ∙ by (is_known n.bytes (map (λ m. m.bytes) known))
  where
    by : (b : Bool)
        → map (λ m. m.bytes) (if b then known else known ++ n ∷ []) ≡ (if b then map (λ m. m.bytes) known else map (λ m. m.bytes) known ++ n.bytes ∷ [])
    by true = refl
    by false = map-append (λ m. m.bytes) known (n ∷ [])

in_same : (known : List NameValue) (fs : List FormValue) → map (λ n. n.bytes) (sizes_in known fs) ≡ written.sizes_in (map (λ n. n.bytes) known) fs
in_same known [] = refl
in_same known (f ∷ fs) = in_same (put_size known (alone f)) fs ∙ ap (λ l. written.sizes_in l fs) (put_same known (alone f))

of_same : (known : List NameValue) (ds : List DeclValue) → map (λ n. n.bytes) (sizes_of known ds) ≡ written.sizes_of (map (λ n. n.bytes) known) ds
of_same known [] = refl
of_same known (d ∷ ds) = of_same (sizes_in known d.dims) ds ∙ ap (λ l. written.sizes_of l ds) (in_same known d.dims)

pub sizes_few : (ds : List DeclValue) (n : ℕ) → length (written.sizes_of [] ds) ≤ n → length (sizes_of [] ds) ≤ n
sizes_few ds n few =
    let a : length (map (λ m. m.bytes) (sizes_of [] ds)) ≡ length (written.sizes_of [] ds) = ap length (of_same [] ds) in
    let b = length-map (sizes_of [] ds) (λ (m : NameValue). m.bytes) in
    omega arith
