-- Each cell of a call of an accepted program is what its chosen rule says.
use Rattle.std.proofs.Common.{◌≡◌, ◌∙◌, refl, sym, ap, subst, inl, inr, ◌⊎◌, ⊎_elim, ℕ, zero, suc, ◌+◌, ◌-◌, ◌*◌, ◌<◌, ◌≤◌, ℤ, pos, negsuc, ◌<ℤ◌, Bool, true, List, [], ◌∷◌, ◌++◌, length, drop, slice_get, Option, Some, None, arith}
use Rattle.std.specs.Prelude.{IsSome, IsTrue, nat_lt, slice_index_or}
use Rattle.std.specs.List.{AllByRecursion, Contains}
use Rattle.std.specs.Option.{option_map_or}
use Rattle.std.proofs.lemmas.Bool.{cases_lt}
use Rattle.std.proofs.lemmas.Bool.Decides.{nat_tests}
use Rattle.std.proofs.lemmas.Int.{ints}
use Rattle.pb_linear.specs.Numbers.{exact_value}
use Rattle.pb_linear.specs.Sizes.{InRange, leasts_of}
use Rattle.pb_values.specs.declared.outcome.Outcome.{Outcome}
use Rattle.pb_graph.specs.Ranks.{IsBelow, rank_in}
use Rattle.pb_program.specs.Configs.{ConfigValue, IsValid}
use Rattle.pb_program.specs.Forms.{DeclValue}
use Rattle.pb_program.specs.Trees.{ProgRule, ProgTransform}
use Rattle.pb_program.specs.WellFormed.{IsWellFormed}
use Rattle.pb_model.specs.Calls.{IsSettled, Outcomes, Plans, ReadsBefore, call_of, cell_reads, in_matrices, made_cells, rule_of}
use Rattle.pb_model.specs.Cells.{Cell, IsCell, natural, reads}
use Rattle.pb_model.specs.Chosen.{chosen_rule}
use Rattle.pb_model.specs.Grids.{at_place, no_grid}
use Rattle.pb_model.proofs.CallLemmas.{in_made, made_at, settled}
use Rattle.pb_model.proofs.ChosenLemmas.{chosen_lawful}
use Rattle.pb_model.proofs.LawfulLemmas.{in_lawful}
use Rattle.pb_model.proofs.ReadLemmas.{reads_are}
use Rattle.pb_base.proofs.ListLemmas.{in_head, in_tail}
use Rattle.pb_check.specs.Orders.{AnalysisValue, IsAnalysis}
use Rattle.pb_check.specs.Phases.{IsSound}
use Rattle.pb_check.specs.Ranked.{HasRank, IsMadeCell}
use Rattle.pb_check.proofs.CoverLemmas.{has_lawful}
use Rattle.pb_check.proofs.RankedLemmas.{covered_is, segment_there}
use Rattle.pb_check.proofs.WaitLemmas.{chosen_falls}
use Rattle.pb_calls.specs.Given.{AreGiven, HasSides}
use Rattle.pb_calls.proofs.BeforeLemmas.{before, before_is, before_never, before_over, held, holder, rank_of}
use Rattle.pb_calls.proofs.InsideLemmas.{reads_inside}

below_side : (z : ℤ) (n : ℕ) → n < natural z → pos n <ℤ z
below_side (pos k) n h = omega (arith, ints, h)
below_side (negsuc k) n h = absurd (omega (arith, h))

side_below : (z : ℤ) (n : ℕ) → pos n <ℤ z → n < natural z
side_below (pos k) n h = omega (arith, ints, h)
side_below (negsuc k) n h = absurd (omega (arith, ints, h))

dropped_at : {A : Type 0} (xs : List A) (n k : ℕ) (x : A) → slice_get (drop n xs) k ≡ Some x → slice_get xs (n + k) ≡ Some x
dropped_at xs zero k x at = let here : 0 + k ≡ k = omega arith in rw here at
dropped_at [] (suc n) k x at = absurd (let none : None ≡ Some x = at in cc)
dropped_at (y ∷ xs) (suc n) k x at = let here : suc n + k ≡ suc (n + k) = omega arith in rw here (dropped_at xs n k x at)

at_dropped : {A : Type 0} (xs : List A) (n k : ℕ) (x : A) → slice_get xs (n + k) ≡ Some x → slice_get (drop n xs) k ≡ Some x
at_dropped xs zero k x at = let here : 0 + k ≡ k = omega arith in subst (λ i. slice_get xs i ≡ Some x) here at
at_dropped [] (suc n) k x at = absurd (let none : None ≡ Some x = at in cc)
at_dropped (y ∷ xs) (suc n) k x at = let here : suc n + k ≡ suc (n + k) = omega arith in at_dropped xs n k x (subst (λ i. slice_get (y ∷ xs) i ≡ Some x) here at)

all_in : {A : Type 0} (P : A → Type 0) (xs : List A) → ((x : A) → Contains xs x → P x) → AllByRecursion P xs
all_in P [] each = tt
all_in P (x ∷ xs) each = (each x (in_head x xs), all_in P xs (λ y h. each y (in_tail x y xs h)))

some_at : {A : Type 0} (xs : List A) (k : ℕ) → k < length xs → (x : A) × (slice_get xs k ≡ Some x)
some_at [] k h = absurd (omega (arith, h))
some_at (x ∷ xs) zero h = (x, refl)
some_at (x ∷ xs) (suc k) h = some_at xs k (omega (arith, h))

or_at : {A : Type 0} (xs : List A) (k : ℕ) (x d : A) → slice_get xs k ≡ Some x → slice_index_or xs k d ≡ x
or_at [] k x d at = absurd (let none : None ≡ Some x = at in cc)
or_at (y ∷ xs) zero x d at = let some : Some y ≡ Some x = at in cc
or_at (y ∷ xs) (suc k) x d at = or_at xs k x d at

place_below : (x y w h : ℕ) → x < w → y < h → y * w + x < w * h
place_below x y w h across down = grind (arith, across, down)

is_there : (o : Option Outcome) (x : Outcome) → o ≡ Some x → IsSome o
is_there o x e = subst IsSome (sym e) refl

-- a cell inside a matrix that is given is there
given_there : (sizes : List ℕ) (d : DeclValue) (g : Outcomes) (x y : ℕ) → HasSides sizes d g → x < natural (exact_value d.w sizes) → y < natural (exact_value d.h sizes) → IsSome (at_place g x y)
given_there sizes d g x y sides across down =
    let inx : nat_lt x g.width ≡ true = grind (arith, nat_tests, across, sides.width) in
    let iny : nat_lt y g.height ≡ true = grind (arith, nat_tests, down, sides.height) in
    let there = some_at g.cells (y * g.width + x) (subst (λ n. y * g.width + x < n) (sym sides.all) (place_below x y g.width g.height (omega (arith, across, sides.width)) (omega (arith, down, sides.height)))) in
    is_there (at_place g x y) there.0 (rw (inx, iny) there.1)

module _ (p : List ProgTransform) (number : ℕ) (t : ProgTransform) (a : AnalysisValue) (sizes : List ℕ) (config : ConfigValue) (plans : Plans) (ins : List Outcomes)
    (well : IsWellFormed p) (sound : IsSound p) (at : slice_get p number ≡ Some t) (found : IsAnalysis t a) (valid : IsValid p config) (range : InRange (leasts_of t.ranges) sizes) (given : AreGiven t sizes ins) where
  made_is : (c : Cell) → Contains (made_cells t sizes) c → IsMadeCell t sizes c
  unfolding made_cells
  made_is c h =
      let s = made_at sizes t.inputs (drop t.inputs t.matrices) c h in
      record {
        cell = record {
          in_range = range;
          decl = s.decl;
          there = ap (slice_get t.matrices) (sym s.matrix) ∙ dropped_at t.matrices t.inputs s.place s.decl s.there;
          before_x = below_side (exact_value s.decl.w sizes) c.x s.across;
          before_y = below_side (exact_value s.decl.h sizes) c.y s.down;
        };
        made = omega (arith, s.matrix);
      }

  is_made : (c : Cell) → IsMadeCell t sizes c → Contains (made_cells t sizes) c
  unfolding made_cells
  is_made c m =
      let place : ℕ = c.matrix - t.inputs in
      let matrix : t.inputs + place ≡ c.matrix = omega (arith, m.made) in
      in_made sizes t.inputs (drop t.inputs t.matrices) c (record {
        place = place;
        decl = m.cell.decl;
        there = at_dropped t.matrices t.inputs place m.cell.decl (ap (slice_get t.matrices) matrix ∙ m.cell.there);
        matrix = matrix;
        across = side_below (exact_value m.cell.decl.w sizes) c.x m.cell.before_x;
        down = side_below (exact_value m.cell.decl.h sizes) c.y m.cell.before_y;
      })

  -- a given cell has an outcome
  is_given : (d : Cell) → IsCell t sizes d → d.matrix < t.inputs → IsSome (in_matrices ins d)
  unfolding in_matrices
  is_given d cell low =
      let g = some_at ins d.matrix (omega (arith, low, given.count)) in
      subst (λ g. IsSome (at_place g d.x d.y)) (sym (or_at ins d.matrix g.0 no_grid g.1))
      (given_there sizes cell.decl g.0 d.x d.y (given.each d.matrix cell.decl g.0 cell.there g.1) (side_below (exact_value cell.decl.w sizes) d.x cell.before_x) (side_below (exact_value cell.decl.h sizes) d.y cell.before_y))

  abbrev earlier : Cell → Cell → Bool
  earlier = before a.nodes a.order sizes

  abbrev Known : Cell → Cell → Type 0
  Known c d = ((d.matrix < t.inputs) × IsSome (in_matrices ins d)) ⊎ ((t.inputs ≤ d.matrix) × Contains (made_cells t sizes) d × IsTrue (earlier d c))

  own_rank : (c : Cell) → IsMadeCell t sizes c → HasRank t a sizes c (rank_of a.nodes a.order sizes c)
  own_rank c m =
      let u = segment_there p number t sizes well sound at a found c m in
      record { segment = holder sizes c a.nodes; holds = held sizes c a.nodes u.0 u.1; is = refl }

  falls_for : (c : Cell) (m : IsMadeCell t sizes c) (rule : ProgRule) → slice_get t.rules (chosen_rule config number t sizes c) ≡ Some rule → (d : Cell) → Contains (reads t.matrices sizes c rule) d → Known c d
  falls_for c m rule there d h =
      let k = chosen_rule config number t sizes c in
      let shows = (reads_are t.matrices sizes c d rule).0 h in
      let may = in_lawful t sizes c k (chosen_lawful p config number t sizes c valid (has_lawful p number t c sizes well sound at m.cell m.made)) in
      let inside = reads_inside p number t sizes well sound at c k rule m.cell may there d shows in
      ⊎_elim
      (λ low. inl (low, is_given d inside low))
      (λ high.
      let made : IsMadeCell t sizes d = record { cell = inside; made = high } in
      let below = chosen_falls p number t a sizes config well sound at found valid c rule m there (rank_of a.nodes a.order sizes c) d (own_rank c m) shows made in
      let u = below.has in
      let alone = (covered_is p number t sizes well sound at a found d made u.segment u.holds).alone (holder sizes d a.nodes) (held sizes d a.nodes u.segment u.holds) in
      let rank : below.own ≡ rank_of a.nodes a.order sizes d = u.is ∙ ap (λ s. rank_in a.order s (pos d.x) (pos d.y)) (sym alone) in
      inr (high, is_made d made, before_is a.nodes a.order sizes d c (subst (λ r. IsBelow r (rank_of a.nodes a.order sizes c)) rank below.below)))
      (cases_lt d.matrix t.inputs)

  falls : (c : Cell) → Contains (made_cells t sizes) c → AllByRecursion (Known c) (cell_reads config plans number t sizes c)
  unfolding cell_reads
  falls c h = by (rule_of config plans number t sizes c) refl
    where
      by : (o : Option ProgRule) → rule_of config plans number t sizes c ≡ o → AllByRecursion (Known c) (option_map_or (reads t.matrices sizes c) o [])
      by None e = tt
      by (Some rule) e = all_in (Known c) (reads t.matrices sizes c rule) (falls_for c (made_is c h) rule e)

  reads_before : ReadsBefore config plans number t sizes earlier ins
  reads_before = record {
    irreflexive = before_never a.nodes a.order sizes;
    transitive = before_over a.nodes a.order sizes;
    falls = falls;
  }

  pub call_settled : IsSettled config plans number t sizes (ins ++ call_of config plans number t sizes ins)
  call_settled = settled config plans number t sizes ins earlier reads_before given.count
