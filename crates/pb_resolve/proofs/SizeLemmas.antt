-- The size variables of a transform, one after the other.
use Rattle.std.proofs.Common.{◌≡◌, ℕ, ◌+◌, ◌<◌, ◌≤◌, Bool, true, false, List, [], ◌∷◌, ◌++◌, Option, Some, None, is_some, if◌then◌else◌, length, get_or, drop, refl, ap, ◌∙◌, sym, arith, add-one}
use Rattle.std.proofs.Math.Seq.{drop-cons}
use Rattle.std.proofs.lemmas.List.{drop_all, length-append}
use Rattle.pb_values.specs.Name.{NameValue}
use Rattle.pb_syntax.specs.Forms.{FormValue, DeclValue}
use Rattle.pb_syntax.specs.Limits.{alone}
use Rattle.pb_names.specs.Names.{look}
use Rattle.pb_names.specs.Transforms.{entries, put_size, sizes_in, sizes_of}

-- sizes are only added
put_by : (b : Bool) (known : List NameValue) (n : NameValue) → length known ≤ length (if b then known else known ++ n ∷ [])
put_by true known n = omega arith
put_by false known n = simp length-append (omega arith)

put_grows : (known : List NameValue) (o : Option NameValue) → length known ≤ length (put_size known o)
put_grows known None = omega arith
put_grows known (Some n) = put_by (is_some (look n.bytes (entries 0 known))) known n

in_grows : (known : List NameValue) (fs : List FormValue) → length known ≤ length (sizes_in known fs)
in_grows known [] = omega arith
in_grows known (f ∷ fs) = let a = put_grows known (alone f) in let b = in_grows (put_size known (alone f)) fs in omega arith

of_grows : (known : List NameValue) (ds : List DeclValue) → length known ≤ length (sizes_of known ds)
of_grows known [] = omega arith
of_grows known (d ∷ ds) = let a = in_grows known d.dims in let b = of_grows (sizes_in known d.dims) ds in omega arith

module _ (known now : List NameValue) (fs : List FormValue) (i : ℕ) (left : sizes_in now (drop i fs) ≡ sizes_in known fs) where
  pub in_few : (n : ℕ) → length (sizes_in known fs) ≤ n → length now ≤ n
  in_few n few = let a = in_grows now (drop i fs) in let b = ap length left in omega arith

  pub in_next : (f : FormValue) (later : List NameValue) → i < length fs → f ≡ get_or fs i f → later ≡ put_size now (alone f) → sizes_in later (drop (i + 1) fs) ≡ sizes_in known fs
  in_next f later within here put = ap (λ l. sizes_in l (drop (i + 1) fs)) put ∙ sym (ap (sizes_in now) next_is) ∙ left
    where
      next_is : drop i fs ≡ f ∷ drop (i + 1) fs
      next_is = rw (add-one, drop-cons fs i f) (rw (← here) refl)

  pub in_end : length fs ≤ i → now ≡ sizes_in known fs
  in_end end = sym (ap (sizes_in now) (drop_all i fs end)) ∙ left

module _ (known now : List NameValue) (ds : List DeclValue) (i : ℕ) (left : sizes_of now (drop i ds) ≡ sizes_of known ds) where
  module _ (d : DeclValue) (within : i < length ds) (here : d ≡ get_or ds i d) where
    decl_is : drop i ds ≡ d ∷ drop (i + 1) ds
    decl_is = rw (add-one, drop-cons ds i d) (rw (← here) refl)

    pub of_few : (n : ℕ) → length (sizes_of known ds) ≤ n → length (sizes_in now d.dims) ≤ n
    of_few n few = let a = of_grows (sizes_in now d.dims) (drop (i + 1) ds) in let b = ap length (sym (ap (sizes_of now) decl_is) ∙ left) in omega arith

    pub of_next : (later : List NameValue) → later ≡ sizes_in now d.dims → sizes_of later (drop (i + 1) ds) ≡ sizes_of known ds
    of_next later put = ap (λ l. sizes_of l (drop (i + 1) ds)) put ∙ sym (ap (sizes_of now) decl_is) ∙ left

  pub of_end : length ds ≤ i → now ≡ sizes_of known ds
  of_end end = sym (ap (sizes_of now) (drop_all i ds end)) ∙ left
