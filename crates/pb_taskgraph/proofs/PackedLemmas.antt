-- Outcomes that are held as words.
use Rattle.std.proofs.Common.{◌≡◌, ◌∙◌, refl, sym, ap, subst, ℕ, zero, suc, ◌+◌, ◌*◌, ◌/◌, ◌%◌, ◌<◌, ◌≤◌, ◌-◌, ◌^◌, ℤ, Bool, true, false, ◌||◌, if◌then◌else◌, IsTrue, List, [], ◌∷◌, ◌++◌, length, map, replicate, take, drop, get_or, slice_set, Some, slice_get, arith}
use Rattle.std.specs.Prelude.{is_some}
use Rattle.std.specs.List.{list_any}
use Rattle.std.proofs.Math.Seq.{drop-nil, take-nil}
use Rattle.std.proofs.lemmas.List.{get_or_read, length-append, length-replicate, take_all}
use Rattle.std.proofs.lemmas.Nat.{div-mul-add, mod-mul-add}
use Rattle.pb_values.specs.Cells.{is_number}
use Rattle.pb_values.specs.declared.outcome.Outcome.{Outcome}
use Rattle.pb_values.specs.declared.outcome.Outcome.TheVariants.{Value}
use Rattle.pb_values.specs.declared.outcome.Trap.{Trap}
use Rattle.pb_taskgraph.specs.Packed.{AreFlags, HasNumbers, kind_at, outcome_in, outcomes_in, trap_by, trap_in}

-- ---- a trap as a word
pub maker : (trap : Trap) (k : ℕ) → kind_at k ≡ trap.kind → trap.transform < 64 → trap.rule < 32 → trap_by ((k * 64 + trap.transform) * 32 + trap.rule) trap.x trap.y ≡ trap
unfolding trap_by
maker trap k kind transform rule =
    let first = k * 64 + trap.transform in
    let by : (first * 32 + trap.rule) / 32 ≡ first = div-mul-add first 32 trap.rule rule in
    let r : (first * 32 + trap.rule) % 32 ≡ trap.rule = mod-mul-add first 32 trap.rule rule in
    let t : (first * 32 + trap.rule) / 32 % 64 ≡ trap.transform = ap (λ n. n % 64) by ∙ mod-mul-add k 64 trap.transform transform in
    let q : kind_at ((first * 32 + trap.rule) / 32 / 64) ≡ trap.kind = ap (λ n. kind_at (n / 64)) by ∙ ap kind_at (div-mul-add k 64 trap.transform transform) ∙ kind in
    λ i. record { kind = q i; transform = t i; rule = r i; x = trap.x; y = trap.y }

pub word : (by x y : ℕ) → x < 2 ^ 23 → y < 2 ^ 23 → trap_in ((by * 2 ^ 23 + x) * 2 ^ 23 + y) ≡ trap_by by x y
unfolding trap_in
word by x y across down =
    let first = by * 2 ^ 23 + x in
    let front : (first * 2 ^ 23 + y) / 2 ^ 23 ≡ first = div-mul-add first (2 ^ 23) y down in
    let b : (first * 2 ^ 23 + y) / 2 ^ 23 / 2 ^ 23 ≡ by = ap (λ n. n / 2 ^ 23) front ∙ div-mul-add by (2 ^ 23) x across in
    let e : (first * 2 ^ 23 + y) / 2 ^ 23 % 2 ^ 23 ≡ x = ap (λ n. n % 2 ^ 23) front ∙ mod-mul-add by (2 ^ 23) x across in
    let f : (first * 2 ^ 23 + y) % 2 ^ 23 ≡ y = mod-mul-add first (2 ^ 23) y down in
    λ i. trap_by (b i) (e i) (f i)

-- ---- outcomes by their places
pub length_in : (ws : List ℤ) (bs : List Bool) → length (outcomes_in ws bs) ≡ length ws
unfolding outcomes_in
length_in [] bs = refl
length_in (w ∷ ws) [] = ap suc (length_in ws [])
length_in (w ∷ ws) (b ∷ bs) = ap suc (length_in ws bs)

pub get_in : (ws : List ℤ) (bs : List Bool) (i : ℕ) (w : ℤ) → i < length ws → w ≡ get_or ws i w → slice_get (outcomes_in ws bs) i ≡ Some (outcome_in w (get_or bs i false))
unfolding outcomes_in outcome_in
get_in [] bs i w below at = absurd (omega arith)
get_in (v ∷ ws) [] zero w below at = ap (λ z. Some (Value z)) (sym at)
get_in (v ∷ ws) [] (suc i) w below at = get_in ws [] i w (omega arith) at
get_in (v ∷ ws) (b ∷ bs) zero w below at = ap (λ z. Some (outcome_in z b)) (sym at)
get_in (v ∷ ws) (b ∷ bs) (suc i) w below at = get_in ws bs i w (omega arith) at

module _ (ws : List ℤ) (bs : List Bool) (outcomes : List Outcome) (same : outcomes_in ws bs ≡ outcomes) (i : ℕ) where
  pub below_in : i < length outcomes → i < length ws
  below_in below = omega (arith, length_in ws bs, ap length same)

  pub get_none : (w : ℤ) → i < length outcomes → w ≡ get_or ws i w → bs ≡ [] → slice_get outcomes i ≡ Some (Value w)
  unfolding outcome_in
  get_none w below at none = ap (λ l. slice_get l i) (sym same) ∙ get_in ws bs i w (below_in below) at ∙ ap (λ l. Some (outcome_in w (get_or l i false))) none

  pub get_flag : (w : ℤ) (b : Bool) → i < length outcomes → w ≡ get_or ws i w → length bs ≡ length ws → b ≡ get_or bs i b → slice_get outcomes i ≡ Some (outcome_in w b)
  get_flag w b below at each on =
      ap (λ l. slice_get l i) (sym same) ∙ get_in ws bs i w (below_in below) at ∙ ap (λ f. Some (outcome_in w f)) (sym (get_or_read bs i b (omega (arith, below_in below, each)) on false))

-- a number is put, and a trap
pub value_in : (ws : List ℤ) (bs : List Bool) (i : ℕ) (w : ℤ) → outcomes_in (slice_set ws i w) (slice_set bs i false) ≡ slice_set (outcomes_in ws bs) i (Value w)
unfolding outcomes_in outcome_in
value_in [] bs i w = refl
value_in (v ∷ ws) [] zero w = refl
value_in (v ∷ ws) [] (suc i) w = ap (λ l. Value v ∷ l) (value_in ws [] i w)
value_in (v ∷ ws) (b ∷ bs) zero w = refl
value_in (v ∷ ws) (b ∷ bs) (suc i) w = ap (λ l. outcome_in v b ∷ l) (value_in ws bs i w)

pub trap_put : (ws : List ℤ) (bs : List Bool) (i : ℕ) (w : ℤ) → length bs ≡ length ws → outcomes_in (slice_set ws i w) (slice_set bs i true) ≡ slice_set (outcomes_in ws bs) i (outcome_in w true)
unfolding outcomes_in
trap_put [] bs i w e = refl
trap_put (v ∷ ws) [] i w e = absurd (omega arith)
trap_put (v ∷ ws) (b ∷ bs) zero w e = refl
trap_put (v ∷ ws) (b ∷ bs) (suc i) w e = ap (λ l. outcome_in v b ∷ l) (trap_put ws bs i w (omega arith))

-- flags that say nothing more
pub more_in : (ws : List ℤ) (bs : List Bool) (k : ℕ) → outcomes_in ws (bs ++ replicate k false) ≡ outcomes_in ws bs
unfolding outcomes_in outcome_in
more_in [] bs k = refl
more_in (w ∷ ws) [] zero = refl
more_in (w ∷ ws) [] (suc k) = ap (λ l. Value w ∷ l) (more_in ws [] k)
more_in (w ∷ ws) (b ∷ bs) k = ap (λ l. outcome_in w b ∷ l) (more_in ws bs k)

pub filled_in : (any : Bool) (ws : List ℤ) (bs new : List Bool) (capacity n m : ℕ) (ok : Bool) → AreFlags any bs capacity (length ws) → n ≡ length ws → m ≡ length bs → ok ≡ true → new ≡ (if ok then take n bs ++ replicate (n - m) false else bs)
    → (length new ≡ length ws) × (outcomes_in ws new ≡ outcomes_in ws bs)
filled_in any ws bs new capacity n m ok flags size old went is = (ap length all ∙ length-append bs (replicate (n - m) false) ∙ omega (arith, few any flags, size, old, length-replicate (n - m) false), ap (outcomes_in ws) all ∙ more_in ws bs (n - m))
  where
    few : (any : Bool) → AreFlags any bs capacity (length ws) → length bs ≤ length ws
    few false flags = omega (arith, ap length (flags.none refl))
    few true flags = omega (arith, flags.each refl)

    all : new ≡ bs ++ replicate (n - m) false
    all = is ∙ ap (λ b. if b then take n bs ++ replicate (n - m) false else bs) went ∙ ap (λ l. l ++ replicate (n - m) false) (take_all n bs (omega (arith, few any flags, size)))

-- ---- a part of them, with no trap in it
drop_in : (ws : List ℤ) (bs : List Bool) (k : ℕ) → drop k (outcomes_in ws bs) ≡ outcomes_in (drop k ws) (drop k bs)
unfolding outcomes_in
drop_in [] bs k = drop-nil k ∙ sym (ap (λ l. outcomes_in l (drop k bs)) (drop-nil k))
drop_in (w ∷ ws) bs zero = refl
drop_in (w ∷ ws) [] (suc k) = drop_in ws [] k ∙ ap (outcomes_in (drop k ws)) (drop-nil k)
drop_in (w ∷ ws) (b ∷ bs) (suc k) = drop_in ws bs k

take_in : (ws : List ℤ) (bs : List Bool) (n : ℕ) → take n (outcomes_in ws bs) ≡ outcomes_in (take n ws) (take n bs)
unfolding outcomes_in
take_in [] bs n = take-nil n ∙ sym (ap (λ l. outcomes_in l (take n bs)) (take-nil n))
take_in (w ∷ ws) bs zero = refl
take_in (w ∷ ws) [] (suc n) = ap (λ l. Value w ∷ l) (take_in ws [] n ∙ ap (outcomes_in (take n ws)) (take-nil n))
take_in (w ∷ ws) (b ∷ bs) (suc n) = ap (λ l. outcome_in w b ∷ l) (take_in ws bs n)

values_in : (f : Bool → Bool) → f true ≡ true → (ws : List ℤ) (bs : List Bool) → list_any f bs ≡ false → outcomes_in ws bs ≡ map (λ z. Value z) ws
unfolding outcomes_in outcome_in
values_in f is [] bs none = refl
values_in f is (w ∷ ws) [] none = ap (λ l. Value w ∷ l) (values_in f is ws [] none)
values_in f is (w ∷ ws) (true ∷ bs) none = absurd (trapped (f true) (list_any f bs) is none)
  where
    trapped : (a b : Bool) → a ≡ true → (a || b) ≡ false → ⊥
    trapped true b h no_trap = let wrong : true ≡ false = no_trap in cc
    trapped false b h no_trap = cc
values_in f is (w ∷ ws) (false ∷ bs) none = ap (λ l. Value w ∷ l) (values_in f is ws bs (later (f false) (list_any f bs) none))
  where
    later : (a b : Bool) → (a || b) ≡ false → b ≡ false
    later true b h = absurd (let wrong : true ≡ false = h in cc)
    later false b h = h

pub part_values : (f : Bool → Bool) → f true ≡ true → (ws : List ℤ) (bs seen : List Bool) (n k : ℕ) → seen ≡ bs → list_any f (take n (drop k seen)) ≡ false → take n (drop k (outcomes_in ws bs)) ≡ map (λ z. Value z) (take n (drop k ws))
part_values f is ws bs seen n k same none =
    ap (λ l. take n (drop k (outcomes_in ws l))) (sym same) ∙ ap (take n) (drop_in ws seen k) ∙ take_in (drop k ws) (drop k seen) n ∙ values_in f is (take n (drop k ws)) (take n (drop k seen)) none

pub part_none : (ws : List ℤ) (bs : List Bool) (n k : ℕ) → bs ≡ [] → take n (drop k (outcomes_in ws bs)) ≡ map (λ z. Value z) (take n (drop k ws))
part_none ws bs n k none = part_values (λ b. b) refl ws bs [] n k (sym none) (ap (list_any (λ b. b)) (ap (take n) (drop-nil k) ∙ take-nil n))

-- ---- words without flags
numbers-there : (ws : List ℤ) (c : ℕ) → IsTrue (is_some (slice_get (map (λ z. Value z) ws) c)) → IsTrue (is_number (slice_get (map (λ z. Value z) ws) c))
numbers-there [] c some = absurd (let wrong : false ≡ true = some in cc)
numbers-there (w ∷ ws) zero some = refl
numbers-there (w ∷ ws) (suc c) some = numbers-there ws c some

pub numbers-all : (ws : List ℤ) (bs : List Bool) (outcomes : List Outcome) → outcomes_in ws bs ≡ outcomes → bs ≡ [] → HasNumbers outcomes
numbers-all ws bs outcomes same none =
    let all : map (λ z. Value z) ws ≡ outcomes = sym (values_in (λ b. b) refl ws [] refl) ∙ ap (outcomes_in ws) (sym none) ∙ same in
    λ c some. subst (λ (l : List Outcome). IsTrue (is_number (slice_get l c))) all (numbers-there ws c (subst (λ (l : List Outcome). IsTrue (is_some (slice_get l c))) (sym all) some))

pub number-in : (ws : List ℤ) (bs : List Bool) (c : ℕ) → IsTrue (is_number (slice_get (outcomes_in ws bs) c)) → (c < length ws) × ((w : ℤ) → w ≡ get_or ws c w → slice_get (outcomes_in ws bs) c ≡ Some (Value w))
unfolding outcomes_in outcome_in
number-in [] bs c number = absurd (let wrong : false ≡ true = number in cc)
number-in (w ∷ ws) [] zero number = (omega arith, λ v is. ap (λ z. Some (Value z)) (sym is))
number-in (w ∷ ws) [] (suc c) number = let rest = number-in ws [] c number in (omega (arith, rest.0), rest.1)
number-in (w ∷ ws) (true ∷ bs) zero number = absurd (let wrong : false ≡ true = number in cc)
number-in (w ∷ ws) (false ∷ bs) zero number = (omega arith, λ v is. ap (λ z. Some (Value z)) (sym is))
number-in (w ∷ ws) (b ∷ bs) (suc c) number = let rest = number-in ws bs c number in (omega (arith, rest.0), rest.1)
