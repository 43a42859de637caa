-- A call of a plan is unrolled to what it means.
use Rattle.std.proofs.Common.{◌≡◌, ◌∙◌, refl, sym, ap, subst, inr, ℕ, zero, suc, ◌+◌, Bool, true, false, List, [], ◌∷◌, drop, map, take, slice_get, Option, Some, None, arith}
use Rattle.std.specs.Prelude.{if◌then◌else◌}
use Rattle.std.specs.List.{AllByRecursion, AllZip, Contains}
use Rattle.std.specs.Option.{option_map_or}
use Rattle.std.proofs.lemmas.Bool.{and_parts}
use Rattle.pb_linear.specs.Sizes.{leasts_of}
use Rattle.pb_values.specs.declared.outcome.Kind.{Kind}
use Rattle.pb_values.specs.declared.outcome.Kind.TheVariants.{BadShape, DepthEnded}
use Rattle.pb_program.specs.declared.plan.Slot.{Slot}
use Rattle.pb_program.specs.Configs.{ConfigValue}
use Rattle.pb_program.specs.Plans.{PlanCallValue}
use Rattle.pb_program.specs.Trees.{ProgRule, ProgTransform}
use Rattle.pb_model.specs.Calls.{Outcomes}
use Rattle.pb_model.specs.Cells.{natural}
use Rattle.pb_model.specs.Grids.{no_grid}
use Rattle.pb_entry.specs.Fitting.{IsNatural}
use Rattle.pb_recursion.specs.Depths.{Call, filled, given_back as made_back, made_by_call, sides_of_matrix, sizes_given, targets_filled, trapped_by}
use Rattle.pb_recursion.specs.Ordered.{IsGiven}
use Rattle.pb_recursion.specs.Plans.{Names, argument_sides, fits_call, named, sides_of_slot, target_sides}
use Rattle.pb_recursion.specs.Shapes.{Sides, all_same_sides, are_in_range, can_enter, fits, same_sides, sides_of_decl}
use Rattle.pb_recursion.proofs.ShapeLemmas.{same_is}
use Rattle.pb_runs.specs.Matrices.{AllMade, Below, call_below, call_matrices}
use Rattle.pb_views.specs.declared.seat.Seat.{Seat}
use Rattle.pb_views.specs.Seats.{no_seat}
use Rattle.pb_runs.specs.Steps.{Instance, cells_in}
use Rattle.pb_runs.specs.Unrolled.{Met, Player, Unroll, failed, given_back, own_sides, targets_of, unrolled_by}
use Rattle.pb_runs.proofs.BaseLemmas.{HaveSides, Stands}
use Rattle.pb_runs.proofs.OriginLemmas.{IsSmallTrap}
use Rattle.pb_runs.proofs.FailedLemmas.{failed_deep, failed_tally, filled_sides}
use Rattle.pb_runs.proofs.FitLemmas.{HaveNatural, fits_enters}
use Rattle.pb_runs.proofs.NameLemmas.{Answer, AreNamed, named_known, named_placed}
use Rattle.pb_runs.proofs.PlayedLemmas.{AreCalled, IsCalled}
use Rattle.pb_runs.proofs.SeatLemmas.{HasCell}
use Rattle.pb_recursion.specs.Counts.{Counted, Counter, call_count, failed_count}
use Rattle.pb_runs.proofs.TallyLemmas.{Tallies}
use Rattle.pb_runs.proofs.SoundLemmas.{Cells, IsDeep, deep_made, with_cells}
use Rattle.pb_base.proofs.ListLemmas.{in_head, in_tail}
use Rattle.pb_runs.specs.Placed.{IsPlaced}

abbrev the_none : (A : Type 0) → List A
the_none A = []

-- ---- lists without their first elements
drop_zip : {A B : Type 0} (R : A → B → Type 0) (n : ℕ) (xs : List A) (ys : List B) → AllZip R xs ys → AllZip R (drop n xs) (drop n ys)
drop_zip R zero xs ys h = h
drop_zip R (suc n) [] [] h = tt
drop_zip R (suc n) [] (y ∷ ys) h = absurd h
drop_zip R (suc n) (x ∷ xs) [] h = absurd h
drop_zip R (suc n) (x ∷ xs) (y ∷ ys) h = drop_zip R n xs ys h.1

in_drop : {A : Type 0} (n : ℕ) (xs : List A) (x : A) → Contains (drop n xs) x → Contains xs x
in_drop zero xs x h = h
in_drop (suc n) [] x h = h
in_drop (suc n) (y ∷ xs) x h = in_tail y x xs (in_drop n xs x h)

drop_sides : (ms : List Outcomes) (n : ℕ) (ss : List Sides) (mats : List Outcomes) → HaveSides ss mats → HaveSides (drop n ss) (drop n mats)
drop_sides ms zero ss mats h = h
drop_sides ms (suc n) [] [] h = tt
drop_sides ms (suc n) [] (m ∷ mats) h = absurd h
drop_sides ms (suc n) (s ∷ ss) [] h = absurd h
drop_sides ms (suc n) (s ∷ ss) (m ∷ mats) h = drop_sides ms n ss mats h.1

drop_map : {A B : Type 0} (f : A → B) (n : ℕ) (xs : List A) → drop n (map f xs) ≡ map f (drop n xs)
drop_map f zero xs = refl
drop_map f (suc n) [] = refl
drop_map f (suc n) (x ∷ xs) = drop_map f n xs

drop_none : {A : Type 0} (m : ℕ) → drop m (the_none A) ≡ the_none A
drop_none zero = refl
drop_none (suc m) = refl

drop_drop : {A : Type 0} (n m : ℕ) (xs : List A) → drop m (drop n xs) ≡ drop (n + m) xs
drop_drop zero m xs = let here : 0 + m ≡ m = omega arith in ap (λ k. drop k xs) (sym here)
drop_drop (suc n) m [] = let here : suc n + m ≡ suc (n + m) = omega arith in drop_none m ∙ ap (λ k. drop k []) (sym here)
drop_drop (suc n) m (x ∷ xs) = let here : suc n + m ≡ suc (n + m) = omega arith in drop_drop n m xs ∙ ap (λ k. drop k (x ∷ xs)) (sym here)

module _ (config : ConfigValue) (ms : List Outcomes) (p : List ProgTransform) where
  -- ---- a call one less deep
  -- it is unrolled to what it means, whatever is known of what is given
  abbrev pub IsDeeper : Unroll → AllMade → Call → Counter → Type 1
  IsDeeper u all call counter = (number : ℕ) (t : ProgTransform) → slice_get p number ≡ Some t → (known : Cells) (n : Met) (given : List Seat) (ins : List Outcomes) → AllZip (IsPlaced ms) given ins → can_enter t (map sides_of_matrix ins) ≡ true
      → ((s : Seat) → Contains given s → (c : ℕ) → HasCell s c → known c) → Stands ms n (all number ins)
      → IsDeep config ms known n (u number given n) (all number ins) (call number ins) × HaveSides (own_sides t (sizes_given t ins)) (call number ins) × Tallies n (u number given n).next (all number ins) (counter number (map sides_of_matrix ins))

  -- what is counted depends on the sizes that are bound alone
  abbrev pub CountsSizes : Counter → Type 0
  CountsSizes counter = (number : ℕ) (t : ProgTransform) → slice_get p number ≡ Some t → (ss : List Sides) (mats : List Outcomes) → HaveNatural ss mats → counter number ss ≡ counter number (map sides_of_matrix mats)

  pub record AreDeeper (deeper : Option Unroll) (below : Option Below) (counter : Option Counter) : Type 1 where
    pub none : deeper ≡ None → (below ≡ None) × (counter ≡ None)
    pub some : (u : Unroll) → deeper ≡ Some u → (b : Below) × (below ≡ Some b) × (k : Counter) × (counter ≡ Some k) × CountsSizes k × IsDeeper u b.all b.call k

  -- each size in range gives sides that aren't negative
  abbrev pub AreNatural : Type 0
  AreNatural = (number : ℕ) (t : ProgTransform) → slice_get p number ≡ Some t → (sizes : List ℕ) → are_in_range (leasts_of t.ranges) sizes ≡ true → AllByRecursion (IsNatural sizes) (take t.inputs t.matrices)

  module _ (i : Instance) (rule : ℕ) (r : ProgRule) (traps : (k : Kind) → IsSmallTrap config ms (trapped_by i.number i.transform i.sizes rule r k)) where
    abbrev sides : Slot → Sides
    sides = sides_of_slot i.transform.matrices i.sizes r

    -- targets with the sides of what is made for them
    answers : (known : Cells) (targets : List Slot) (wanted : List Sides) (seats : List Seat) (mats : List Outcomes) → all_same_sides wanted (map sides targets) ≡ true → HaveSides wanted mats → AllZip (IsPlaced ms) seats mats
        → ((s : Seat) → Contains seats s → (c : ℕ) → HasCell s c → known c) → Answer ms sides known targets seats mats
    answers known [] wanted seats mats same have placed cells = tt
    answers known (t ∷ ts) [] seats mats same have placed cells = absurd (let wrong : false ≡ true = same in cc)
    answers known (t ∷ ts) (w ∷ ws) seats [] same have placed cells = absurd have
    answers known (t ∷ ts) (w ∷ ws) [] (m ∷ mats) same have placed cells = absurd placed
    answers known (t ∷ ts) (w ∷ ws) (s ∷ seats) (m ∷ mats) same have placed cells =
        let parts = and_parts (same_sides w (sides t)) (all_same_sides ws (map sides ts)) same in
        let here = same_is w (sides t) parts.0 in (
          record { placed = placed.0; width = have.0.0 ∙ ap natural here.0; height = have.0.1 ∙ ap natural here.1; cells = cells s (in_head s seats) },
          answers known ts ws seats mats parts.1 have.1 placed.1 (λ q there. cells q (in_tail s q seats there)),
        )

    -- targets of a call that can't be made
    filled_answers : (known : Cells) (targets : List Slot) (seats : List Seat) (mats : List Outcomes) → HaveSides (map sides targets) mats → AllZip (IsPlaced ms) seats mats
        → ((s : Seat) → Contains seats s → (c : ℕ) → HasCell s c → known c) → Answer ms sides known targets seats mats
    filled_answers known [] seats mats have placed cells = tt
    filled_answers known (t ∷ ts) seats [] have placed cells = absurd have
    filled_answers known (t ∷ ts) [] (m ∷ mats) have placed cells = absurd placed
    filled_answers known (t ∷ ts) (s ∷ seats) (m ∷ mats) have placed cells = (
      record { placed = placed.0; width = have.0.0; height = have.0.1; cells = cells s (in_head s seats) },
      filled_answers known ts seats mats have.1 placed.1 (λ q there. cells q (in_tail s q seats there)),
    )

    -- the arguments have the sides of their names
    naturals : (known : Cells) (made : List Slot) (ss : Names Seat) (mm : Names Outcomes) (slots : List Slot) → AreNamed ms sides known made ss mm → AllByRecursion (IsGiven made) slots → HaveNatural (map sides slots) (map (named no_grid mm) slots)
    naturals known made ss mm [] are given = tt
    naturals known made ss mm (s ∷ slots) are given = ((are s given.0).width, (are s given.0).height, naturals known made ss mm slots are given.1)

    failed_called : (k : Kind) (player : Player) (all make : PlanCallValue → List Outcomes → List Outcomes) (count : PlanCallValue → Counted) (known : Cells) (n : Met) (c : PlanCallValue) (seats : List Seat) (given : List Outcomes)
        → player c seats n ≡ failed (targets_of r c) (trapped_by i.number i.transform i.sizes rule r k) (target_sides i.transform.matrices i.sizes r c) n → all c given ≡ targets_filled i.number i.transform i.sizes rule r k c → make c given ≡ targets_filled i.number i.transform i.sizes rule r k c
        → count c ≡ failed_count p i.transform i.sizes r c → Stands ms n (all c given) → IsCalled config ms sides player make all count known n c seats given
    failed_called k player all make count known n c seats given is_player is_all is_make is_count stands =
        let o = trapped_by i.number i.transform i.sizes rule r k in
        let wanted = target_sides i.transform.matrices i.sizes r c in
        let mats = map (filled o) wanted in
        let deep = failed_deep config ms known (targets_of r c) o (traps k) wanted n (subst (Stands ms n) is_all stands) in
        record {
          own = mats;
          deep = subst (λ u. IsDeep config ms known n u (all c given) mats) (sym is_player) (subst (λ a. IsDeep config ms known n (failed (targets_of r c) o wanted n) a mats) (sym is_all) deep);
          tally = subst (λ u. Tallies n u.next (all c given) (count c)) (sym is_player) (subst (λ a. Tallies n (failed (targets_of r c) o wanted n).next a (count c)) (sym is_all) (subst (Tallies n (failed (targets_of r c) o wanted n).next mats) (sym is_count) (failed_tally ms (targets_of r c) o wanted n)));
          answer = subst (λ u. Answer ms sides (with_cells known (cells_in u.steps)) c.targets u.seats (make c given)) (sym is_player) (subst (λ a. Answer ms sides (with_cells known (cells_in (failed (targets_of r c) o wanted n).steps)) c.targets (failed (targets_of r c) o wanted n).seats a) (sym is_make)
              (filled_answers (with_cells known (cells_in (failed (targets_of r c) o wanted n).steps)) c.targets (failed (targets_of r c) o wanted n).seats mats (filled_sides ms o wanted) deep.placed (λ s there cell has. inr (deep_made config ms known n (failed (targets_of r c) o wanted n) mats mats deep s there cell has))));
        }

    -- a call that fits
    fits_called : (u : Unroll) (b : Below) (k : Counter) → CountsSizes k → IsDeeper u b.all b.call k → AreNatural → (t : ProgTransform) (known : Cells) (n : Met) (c : PlanCallValue) (made : List Slot) (ss : Names Seat) (mm : Names Outcomes)
        → slice_get p c.transform ≡ Some t → fits t (argument_sides i.transform.matrices i.sizes r c) (target_sides i.transform.matrices i.sizes r c) ≡ true → AreNamed ms sides known made ss mm → AllByRecursion (IsGiven made) c.arguments
        → Stands ms n (b.all c.transform (map (named no_grid mm) c.arguments))
        → IsDeep config ms known n (given_back p c (u c.transform (map (named no_seat ss) c.arguments) n)) (b.all c.transform (map (named no_grid mm) c.arguments)) (drop t.middles (b.call c.transform (map (named no_grid mm) c.arguments)))
        × Answer ms sides (with_cells known (cells_in (u c.transform (map (named no_seat ss) c.arguments) n).steps)) c.targets (given_back p c (u c.transform (map (named no_seat ss) c.arguments) n)).seats (drop t.middles (b.call c.transform (map (named no_grid mm) c.arguments)))
        × Tallies n (u c.transform (map (named no_seat ss) c.arguments) n).next (b.all c.transform (map (named no_grid mm) c.arguments)) (k c.transform (argument_sides i.transform.matrices i.sizes r c))
    fits_called u b k sized deeper natural_sides t known n c made ss mm there fit are given stands =
        let seats = map (named no_seat ss) c.arguments in
        let ins = map (named no_grid mm) c.arguments in
        let asides = argument_sides i.transform.matrices i.sizes r c in
        let wanted = target_sides i.transform.matrices i.sizes r c in
        let enters = fits_enters t asides wanted ins (natural_sides c.transform t there) (naturals known made ss mm c.arguments are given) fit in
        let called = deeper c.transform t there known n seats ins (named_placed ms sides known made ss mm c.arguments are given) enters.0 (named_known ms sides known made ss mm c.arguments are given) stands in
        let deep = called.0 in
        let un = u c.transform seats n in
        let middles : option_map_or (λ (q : ProgTransform). q.middles) (slice_get p c.transform) 0 ≡ t.middles = ap (λ o. option_map_or (λ (q : ProgTransform). q.middles) o 0) there in
        let own = b.call c.transform ins in
        let back : (given_back p c un).seats ≡ drop t.middles un.seats = ap (λ k. drop k un.seats) middles in
        let placed : AllZip (IsPlaced ms) (given_back p c un).seats (drop t.middles own) = subst (λ l. AllZip (IsPlaced ms) l (drop t.middles own)) (sym back) (drop_zip (IsPlaced ms) t.middles un.seats own deep.placed) in
        let inside : (s : Seat) → Contains (given_back p c un).seats s → Contains un.seats s = λ s h. in_drop t.middles un.seats s (subst (λ l. Contains l s) back h) in
        let decls : drop t.middles (own_sides t (sizes_given t ins)) ≡ map (sides_of_decl (sizes_given t ins)) (drop (t.inputs + t.middles) t.matrices) = drop_map (sides_of_decl (sizes_given t ins)) t.middles (drop t.inputs t.matrices) ∙ ap (map (sides_of_decl (sizes_given t ins))) (drop_drop t.inputs t.middles t.matrices) in
        let have : HaveSides (map (sides_of_decl (sizes_given t ins)) (drop (t.inputs + t.middles) t.matrices)) (drop t.middles own) = subst (λ l. HaveSides l (drop t.middles own)) decls (drop_sides ms t.middles (own_sides t (sizes_given t ins)) own called.1) in (
          record { placed = placed; within = λ s h c has. deep.within s (inside s h) c has; sound = deep.sound; counts = deep.counts; reaches = deep.reaches },
          answers (with_cells known (cells_in un.steps)) c.targets (map (sides_of_decl (sizes_given t ins)) (drop (t.inputs + t.middles) t.matrices)) (given_back p c un).seats (drop t.middles own) enters.1 have placed
              (λ s h cell has. inr (deep_made config ms known n un (b.all c.transform ins) own deep s (inside s h) cell has)),
          subst (Tallies n un.next (b.all c.transform ins)) (sym (sized c.transform t there asides ins (naturals known made ss mm c.arguments are given))) called.2,
        )

    module _ (deeper : Option Unroll) (below : Option Below) (counter : Option Counter) where
      abbrev count : PlanCallValue → Counted
      count = call_count p i.transform i.sizes counter r

      abbrev player : Player
      player = unrolled_by p i rule r deeper

      abbrev make : PlanCallValue → List Outcomes → List Outcomes
      make = made_by_call p i.number i.transform i.sizes rule r (call_below below)

      abbrev all : PlanCallValue → List Outcomes → List Outcomes
      all = call_matrices p i.number i.transform i.sizes rule r below

      pub calls_called : AreDeeper deeper below counter → AreNatural → AreCalled config ms sides player make all count
      calls_called are_deeper natural_sides known n c made ss mm are given stands = by_deeper deeper refl
        where
          seats : List Seat
          seats = map (named no_seat ss) c.arguments

          ins : List Outcomes
          ins = map (named no_grid mm) c.arguments

          by_below : (u : Unroll) → ((b : Below) × (below ≡ Some b) × (k : Counter) × (counter ≡ Some k) × CountsSizes k × IsDeeper u b.all b.call k) → deeper ≡ Some u → IsCalled config ms sides player make all count known n c seats ins
          by_below u h e = by_fits (fits_call i.transform.matrices i.sizes p r c) refl
            where
              b : Below
              b = h.0

              -- as far as whether it fits
              player_is : player c seats n ≡ (if fits_call i.transform.matrices i.sizes p r c then given_back p c (u c.transform seats n) else failed (targets_of r c) (trapped_by i.number i.transform i.sizes rule r BadShape) (target_sides i.transform.matrices i.sizes r c) n)
              player_is = ap (λ o. unrolled_by p i rule r o c seats n) e

              all_is : all c ins ≡ (if fits_call i.transform.matrices i.sizes p r c then b.all c.transform ins else targets_filled i.number i.transform i.sizes rule r BadShape c)
              all_is = ap (λ o. call_matrices p i.number i.transform i.sizes rule r o c ins) h.1

              make_is : make c ins ≡ (if fits_call i.transform.matrices i.sizes p r c then made_back p c (b.call c.transform ins) else targets_filled i.number i.transform i.sizes rule r BadShape c)
              make_is = ap (λ o. made_by_call p i.number i.transform i.sizes rule r (call_below o) c ins) h.1

              count_is : count c ≡ (if fits_call i.transform.matrices i.sizes p r c then h.2 c.transform (argument_sides i.transform.matrices i.sizes r c) else failed_count p i.transform i.sizes r c)
              count_is = ap (λ o. call_count p i.transform i.sizes o r c) h.3

              by_fits : (f : Bool) → fits_call i.transform.matrices i.sizes p r c ≡ f → IsCalled config ms sides player make all count known n c seats ins
              by_fits false fit =
                  failed_called BadShape player all make count known n c seats ins (player_is ∙ ap (λ f. if f then given_back p c (u c.transform seats n) else failed (targets_of r c) (trapped_by i.number i.transform i.sizes rule r BadShape) (target_sides i.transform.matrices i.sizes r c) n) fit)
                  (all_is ∙ ap (λ f. if f then b.all c.transform ins else targets_filled i.number i.transform i.sizes rule r BadShape c) fit) (make_is ∙ ap (λ f. if f then made_back p c (b.call c.transform ins) else targets_filled i.number i.transform i.sizes rule r BadShape c) fit) (count_is ∙ ap (λ f. if f then h.2 c.transform (argument_sides i.transform.matrices i.sizes r c) else failed_count p i.transform i.sizes r c) fit) stands
              by_fits true fit = by_there (slice_get p c.transform) refl fit
                where
                  player_fits : player c seats n ≡ given_back p c (u c.transform seats n)
                  player_fits = player_is ∙ ap (λ f. if f then given_back p c (u c.transform seats n) else failed (targets_of r c) (trapped_by i.number i.transform i.sizes rule r BadShape) (target_sides i.transform.matrices i.sizes r c) n) fit

                  all_fits : all c ins ≡ b.all c.transform ins
                  all_fits = all_is ∙ ap (λ f. if f then b.all c.transform ins else targets_filled i.number i.transform i.sizes rule r BadShape c) fit

                  by_there : (o : Option ProgTransform) → slice_get p c.transform ≡ o → option_map_or (λ t. fits t (argument_sides i.transform.matrices i.sizes r c) (target_sides i.transform.matrices i.sizes r c)) o false ≡ true → IsCalled config ms sides player make all count known n c seats ins
                  by_there None there fit = absurd (let wrong : false ≡ true = fit in cc)
                  by_there (Some t) there fit =
                      let own = drop t.middles (b.call c.transform ins) in
                      let make_fits : make c ins ≡ own = make_is ∙ ap (λ f. if f then made_back p c (b.call c.transform ins) else targets_filled i.number i.transform i.sizes rule r BadShape c) fits_true ∙ ap (λ o. drop (option_map_or (λ (q : ProgTransform). q.middles) o 0) (b.call c.transform ins)) there in
                      let count_fits : count c ≡ h.2 c.transform (argument_sides i.transform.matrices i.sizes r c) = count_is ∙ ap (λ f. if f then h.2 c.transform (argument_sides i.transform.matrices i.sizes r c) else failed_count p i.transform i.sizes r c) fits_true in
                      let made_of = fits_called u b h.2 h.4 h.5 natural_sides t known n c made ss mm there fit are given (subst (Stands ms n) all_fits stands) in
                      record {
                        own = own;
                        deep = subst (λ q. IsDeep config ms known n q (all c ins) own) (sym player_fits) (subst (λ q. IsDeep config ms known n (given_back p c (u c.transform seats n)) q own) (sym all_fits) made_of.0);
                        tally = subst (λ q. Tallies n q.next (all c ins) (count c)) (sym player_fits) (subst (λ q. Tallies n (u c.transform seats n).next q (count c)) (sym all_fits) (subst (Tallies n (u c.transform seats n).next (b.all c.transform ins)) (sym count_fits) made_of.2));
                        answer = subst (λ q. Answer ms sides (with_cells known (cells_in q.steps)) c.targets q.seats (make c ins)) (sym player_fits) (subst (λ q. Answer ms sides (with_cells known (cells_in (u c.transform seats n).steps)) c.targets (given_back p c (u c.transform seats n)).seats q) (sym make_fits) made_of.1);
                      }
                    where
                      fits_true : fits_call i.transform.matrices i.sizes p r c ≡ true
                      fits_true = ap (λ o. option_map_or (λ t. fits t (argument_sides i.transform.matrices i.sizes r c) (target_sides i.transform.matrices i.sizes r c)) o false) there ∙ fit

          by_deeper : (o : Option Unroll) → deeper ≡ o → IsCalled config ms sides player make all count known n c seats ins
          by_deeper None e =
              let none = are_deeper.none e in
              failed_called DepthEnded player all make count known n c seats ins (ap (λ o. unrolled_by p i rule r o c seats n) e) (ap (λ o. call_matrices p i.number i.transform i.sizes rule r o c ins) none.0) (ap (λ o. made_by_call p i.number i.transform i.sizes rule r (call_below o) c ins) none.0) (ap (λ o. call_count p i.transform i.sizes o r c) none.1) stands
          by_deeper (Some u) e = by_below u (are_deeper.some u e) e
