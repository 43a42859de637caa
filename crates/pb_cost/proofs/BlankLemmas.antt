-- Blank matrices for those after `from`: a run over them can be begun, where its counts are within their limits.
use Rattle.std.proofs.Common.{◌≡◌, ◌∙◌, refl, sym, subst, ℕ, zero, suc, ◌*◌, ℤ, pos, negsuc, ◌≤ℤ◌, List, [], ◌∷◌, length, map, take, replicate, slice_get, Some, None, arith}
use Rattle.std.specs.Prelude.{IsTrue}
use Rattle.std.specs.List.{All, AllByRecursion}
use Rattle.std.proofs.lemmas.List.{length-map, length-replicate, length-take-le}
use Rattle.std.proofs.lemmas.List.Elements.{All-replicate}
use Rattle.pb_linear.specs.Numbers.{exact_value}
use Rattle.pb_linear.specs.Sizes.{InRange, leasts_of}
use Rattle.pb_values.specs.declared.outcome.Outcome.TheVariants.{Value}
use Rattle.pb_program.specs.Configs.{ConfigValue, IsValid}
use Rattle.pb_program.specs.Forms.{DeclValue}
use Rattle.pb_program.specs.Trees.{ProgTransform, bare_prog}
use Rattle.pb_program.specs.WellFormed.{IsTransform}
use Rattle.pb_region.proofs.SmallLemmas.{at_place}
use Rattle.pb_model.specs.Calls.{Outcomes}
use Rattle.pb_model.specs.Cells.{natural}
use Rattle.pb_calls.specs.Given.{AreGiven, HasSides}
use Rattle.pb_check.specs.Accepting.{AcceptedValue, IsAccepted}
use Rattle.pb_check.specs.Phases.{IsBounded}
use Rattle.pb_entry.specs.Fitting.{IsNatural}
use Rattle.pb_entry.proofs.SideLemmas.{natural_sides}
use Rattle.pb_taskgraph.specs.Plans.{IsSmall}
use Rattle.pb_recursion.specs.Counts.{run_count}
use Rattle.pb_recursion.specs.Depths.{IsWhole, sides_of_matrix}
use Rattle.pb_recursion.specs.Shapes.{can_enter, sides_of_decl}
use Rattle.pb_counts.specs.Limits.{AreFew}
use Rattle.pb_cost.specs.Costs.{given_sides}
use Rattle.pb_cost.specs.Linked.{CanBeBegun}
use Rattle.pb_cost.specs.declared.at_size.TheConstants.{COST_DEPTH}

natural_is : (z : ℤ) → pos 0 ≤ℤ z → pos (natural z) ≡ z
natural_is (pos n) h = refl
natural_is (negsuc n) h = absurd (omega (arith, h))

module _ (sizes : List ℕ) where
  abbrev blank : DeclValue → Outcomes
  blank d = record {
    width = natural (exact_value d.w sizes);
    height = natural (exact_value d.h sizes);
    cells = replicate (natural (exact_value d.w sizes) * natural (exact_value d.h sizes)) (Value (pos 0));
  }

  abbrev blanks : List DeclValue → List Outcomes
  blanks ds = map blank ds

  all_whole : (ds : List DeclValue) → All IsWhole (blanks ds)
  all_whole [] k e below = absurd (omega (arith, below))
  all_whole (d ∷ ds) zero e below = length-replicate _ (Value (pos 0))
  all_whole (d ∷ ds) (suc k) e below = all_whole ds k e (omega (arith, below))

  all_small : (ds : List DeclValue) → All (λ (m : Outcomes). All IsSmall m.cells) (blanks ds)
  all_small [] k e below = absurd (omega (arith, below))
  all_small (d ∷ ds) zero e below = All-replicate IsSmall _ (Value (pos 0)) (omega arith)
  all_small (d ∷ ds) (suc k) e below = all_small ds k e (omega (arith, below))

  sides_are : (ds : List DeclValue) → AllByRecursion (IsNatural sizes) ds → map sides_of_matrix (blanks ds) ≡ map (sides_of_decl sizes) ds
  sides_are [] h = refl
  sides_are (d ∷ ds) h = λ i. (natural_is (exact_value d.w sizes) h.0.0 i, natural_is (exact_value d.h sizes) h.0.1 i) ∷ sides_are ds h.1 i

  each_has : (ds : List DeclValue) (n m : ℕ) (d : DeclValue) (g : Outcomes) → slice_get ds m ≡ Some d → slice_get (blanks (take n ds)) m ≡ Some g → HasSides sizes d g
  each_has ds zero m d g at_d at_g = absurd (let wrong : None ≡ Some g = at_g in cc)
  each_has [] (suc n) m d g at_d at_g = absurd (let wrong : None ≡ Some d = at_d in cc)
  each_has (c ∷ ds) (suc n) (suc m) d g at_d at_g = each_has ds n m d g at_d at_g
  each_has (c ∷ ds) (suc n) zero d g at_d at_g =
      let same : c ≡ d = (let e : Some c ≡ Some d = at_d in cc) in
      let is : blank c ≡ g = (let e : Some (blank c) ≡ Some g = at_g in cc) in
      subst (HasSides sizes d) is (subst (λ q. HasSides sizes q (blank c)) same (record { width = refl; height = refl; all = length-replicate _ (Value (pos 0)) }))

take_all : {A : Type 0} (P : A → Type 0) (n : ℕ) (xs : List A) → All P xs → AllByRecursion P (take n xs)
take_all P zero xs h = tt
take_all P (suc n) [] h = tt
take_all P (suc n) (x ∷ xs) h = (h 0 x (omega arith), take_all P n xs (λ k d below. h (suc k) d (omega (arith, below))))

pub one_of : {A : Type 0} (P : A → Type 0) (xs : List A) (k : ℕ) (x : A) → All P xs → slice_get xs k ≡ Some x → P x
one_of P [] k x h at = absurd (let wrong : None ≡ Some x = at in cc)
one_of P (y ∷ xs) zero x h at = subst P (let e : Some y ≡ Some x = at in cc) (h 0 y (omega arith))
one_of P (y ∷ xs) (suc k) x h at = one_of P xs k x (λ j d below. h (suc j) d (omega (arith, below))) at

-- of an accepted program: a transform by its number, at sizes in range
module _ (v : AcceptedValue) (accepted : IsAccepted v) (config : ConfigValue) (valid : IsValid (bare_prog v.program) config) (t : ℕ) (x : ProgTransform) (there : slice_get (bare_prog v.program) t ≡ Some x) (sizes : List ℕ) (range : InRange (leasts_of x.ranges) sizes) where
  abbrev p : List ProgTransform
  p = bare_prog v.program

  abbrev pub ins : List Outcomes
  ins = blanks sizes (take x.inputs x.matrices)

  pub well : IsTransform (length p) x
  well = at_place (IsTransform (length p)) p t x accepted.well_formed.transforms there

  naturals : AllByRecursion (IsNatural sizes) (take x.inputs x.matrices)
  naturals = take_all (IsNatural sizes) x.inputs x.matrices (natural_sides x sizes (record { transforms = length p; well_formed = well; sides = (one_of IsBounded p t x accepted.sound.bounded there).sides }) range)

  pub are_sides : map sides_of_matrix ins ≡ given_sides x sizes
  are_sides = sides_are sizes (take x.inputs x.matrices) naturals

  pub are_given : AreGiven x sizes ins
  are_given = record {
    count = length-map (take x.inputs x.matrices) (blank sizes) ∙ length-take-le x.inputs x.matrices (omega (arith, well.parts));
    each = each_has sizes x.matrices x.inputs;
  }

  module _ (enters : IsTrue (can_enter x (map sides_of_matrix ins))) (few : AreFew (run_count p config COST_DEPTH t (given_sides x sizes))) where
    pub can_begin : CanBeBegun v config t (given_sides x sizes)
    can_begin = record {
      ins = ins;
      sides = are_sides;
      entered = record {
        well = accepted.well_formed;
        sound = accepted.sound;
        are_found = accepted.found;
        valid = valid;
        transform = x;
        there = there;
        whole = all_whole sizes (take x.inputs x.matrices);
        enters = enters;
      };
      small = all_small sizes (take x.inputs x.matrices);
      few = subst (λ ss. AreFew (run_count p config COST_DEPTH t ss)) (sym are_sides) few;
    }
