-- The plans that are chosen for some cell of an instance are those of its jobs, each once.
use Rattle.std.proofs.Common.{◌≡◌, ◌∙◌, refl, sym, ap, subst, inl, inr, ◌⊎◌, ⊎_elim, ℕ, zero, suc, ◌+◌, ◌-◌, Bool, true, false, ◌||◌, not, List, [], ◌∷◌, ◌++◌, drop, length, map, slice_get, slice_index, Option, Some, None, arith}
use Rattle.std.specs.Prelude.{◌==◌, filter, if◌then◌else◌}
use Rattle.std.specs.List.{Contains, enumerate_from, flat_map, list_any, range_with_len}
use Rattle.std.specs.Option.{option_map_or}
use Rattle.std.proofs.lemmas.Bool.{and_parts, eq-eqb, eqb-true}
use Rattle.pb_linear.specs.Numbers.{exact_value}
use Rattle.pb_program.specs.Configs.{ConfigValue}
use Rattle.pb_program.specs.Trees.{ProgRule, ProgTransform}
use Rattle.pb_program.specs.declared.rule.RuleKind.{RuleKind}
use Rattle.pb_program.specs.declared.rule.RuleKind.TheVariants as kind
use Rattle.pb_region.specs.Boxes.{is_wide}
use Rattle.pb_base.proofs.ListLemmas.{at_in, filter_in, flat_in, in_at, in_cases, in_filter, in_flat, in_head, in_none, in_tail}
use Rattle.pb_model.specs.Calls.{made_cells}
use Rattle.pb_model.specs.Cells.{Cell}
use Rattle.pb_model.specs.Chosen.{chosen_rule}
use Rattle.pb_model.proofs.CallLemmas.{in_made, made_at}
use Rattle.pb_check.specs.Orders.{IsAnalysis, wide_rules}
use Rattle.pb_check.specs.Ranked.{IsMadeCell}
use Rattle.pb_check.proofs.LawfulLemmas.{at_numbered, both, numbered_at}
use Rattle.pb_frame.specs.Frames.{JobValue, chosen_wides, corner_of, in_layer, is_cell_rule, is_wide_rule}
use Rattle.pb_frame.specs.declared.part.FramePart.{FramePart}
use Rattle.pb_frame.proofs.PartLemmas.{corner_made, of_part}
use Rattle.pb_plan.proofs.BeforeLemmas.{among_rules, first_part, node_of, own_layer, parts}
use Rattle.pb_plan.proofs.JobLemmas.{IsBlockAt, IsPlaced, IsWideAt, kind_of, part_of, placed, same_place}
use Rattle.pb_plan.proofs.MadeLemmas.{made_by, made_rule}
use Rattle.pb_plan.proofs.PieceLemmas.{IsPiece}
use Rattle.pb_plan.proofs.RiseLemmas.{rises_filter, rises_numbered, rises_one, rises_range}
use Rattle.pb_plan.proofs.OnceLemmas.{Once, once_flat}
use Rattle.pb_recursion.specs.Counts.{Counted, Counter, all_of, both as sum, chosen_plans, is_chosen_plan, is_plan_kind, nothing, plan_count}
use Rattle.pb_runs.specs.Steps.{Instance}
use Rattle.pb_runs.proofs.BoxLemmas.{IsSituated, inst, jobs}
use Rattle.pb_runs.specs.Tallied.{job_tally, rule_tally}
use Rattle.pb_runs.proofs.OwnLemmas.{at_dropped, below_side, side_below}
use Rattle.pb_runs.proofs.TallyLemmas.{all_append, all_same, same_counted}

abbrev the_none : (A : Type 0) → List A
the_none A = []

-- ---- the plans of jobs
module _ (t : ProgTransform) where
  abbrev of_rule : ℕ → Option ProgRule → List (ℕ × ProgRule)
  of_rule k None = []
  of_rule k (Some r) = if is_plan_kind r.kind then (k, r) ∷ [] else []

  abbrev of_job : Option ℕ → List (ℕ × ProgRule)
  of_job None = []
  of_job (Some k) = of_rule k (slice_get t.rules k)

  abbrev plans_in : List JobValue → List (ℕ × ProgRule)
  plans_in all = flat_map (λ (job : JobValue). of_job job.rule) all

  -- one of them
  pub record IsPlanOf (o : Option ℕ) (k : ℕ) (r : ProgRule) : Type 0 where
    pub rule : o ≡ Some k
    pub there : slice_get t.rules k ≡ Some r
    pub plan : is_plan_kind r.kind ≡ true

  of_is : (o : Option ℕ) (b : ℕ × ProgRule) → Contains (of_job o) b → IsPlanOf o b.0 b.1
  of_is None b h = absurd (in_none b h)
  of_is (Some k) b h = by (slice_get t.rules k) refl h
    where
      one : (x y : ℕ × ProgRule) → Contains (x ∷ []) y → x ≡ y
      one x y h = ⊎_elim (λ same. same) (λ none. absurd (in_none y none)) (in_cases x y [] h)

      by : (q : Option ProgRule) → slice_get t.rules k ≡ q → Contains (of_rule k q) b → IsPlanOf (Some k) b.0 b.1
      by None e h = absurd (in_none b h)
      by (Some r) e h = kinds (is_plan_kind r.kind) refl h
        where
          kinds : (w : Bool) → is_plan_kind r.kind ≡ w → Contains (if w then (k, r) ∷ [] else []) b → IsPlanOf (Some k) b.0 b.1
          kinds true plan h = subst (λ (z : ℕ × ProgRule). IsPlanOf (Some k) z.0 z.1) (one (k, r) b h) (record { rule = refl; there = e; plan = plan })
          kinds false plan h = absurd (in_none b h)

  is_of : (o : Option ℕ) (b : ℕ × ProgRule) → IsPlanOf o b.0 b.1 → Contains (of_job o) b
  is_of o b h = subst (λ q. Contains (of_job q) b) (sym h.rule) (subst (λ q. Contains (of_rule b.0 q) b) (sym h.there) (subst (λ w. Contains (if w then b ∷ [] else []) b) (sym h.plan) (in_head b [])))

  none_once : Once (the_none (ℕ × ProgRule))
  none_once i j x e f = absurd (let wrong : None ≡ Some x = e in cc)

  one_once : (y : ℕ × ProgRule) → Once (y ∷ [])
  one_once y zero zero x e f = refl
  one_once y zero (suc j) x e f = absurd (let wrong : None ≡ Some x = f in cc)
  one_once y (suc i) j x e f = absurd (let wrong : None ≡ Some x = e in cc)

  of_once : (o : Option ℕ) → Once (of_job o)
  of_once None = none_once
  of_once (Some k) = by (slice_get t.rules k)
    where
      kinds : (r : ProgRule) (w : Bool) → Once {A = ℕ × ProgRule} (if w then (k, r) ∷ [] else [])
      kinds r true = one_once (k, r)
      kinds r false = none_once

      by : (q : Option ProgRule) → Once (of_rule k q)
      by None = none_once
      by (Some r) = kinds r (is_plan_kind r.kind)

-- ---- what they count
module _ (p : List ProgTransform) (t : ProgTransform) (sizes : List ℕ) (counter : Option Counter) where
  sum_none : (a : Counted) → a ≡ sum a nothing
  sum_none a = same_counted a (sum a nothing) (omega arith) (omega arith) (omega arith)

  one_is : (o : Option ℕ) → job_tally p t sizes counter o ≡ all_of (map (plan_count p t sizes counter) (of_job t o))
  one_is None = refl
  one_is (Some k) = by (slice_get t.rules k)
    where
      by : (q : Option ProgRule) → rule_tally p t sizes counter k q ≡ all_of (map (plan_count p t sizes counter) (of_rule t k q))
      by None = refl
      by (Some r) = kinds (is_plan_kind r.kind)
        where
          kinds : (w : Bool) → (if w then plan_count p t sizes counter (k, r) else nothing) ≡ all_of (map (plan_count p t sizes counter) (if w then (k, r) ∷ [] else []))
          kinds true = sum_none (plan_count p t sizes counter (k, r))
          kinds false = refl

  map_append : (xs ys : List (ℕ × ProgRule)) → map (plan_count p t sizes counter) (xs ++ ys) ≡ map (plan_count p t sizes counter) xs ++ map (plan_count p t sizes counter) ys
  map_append [] ys = refl
  map_append (x ∷ xs) ys = ap (λ l. plan_count p t sizes counter x ∷ l) (map_append xs ys)

  tally_is : (all : List JobValue) → all_of (map (λ (job : JobValue). job_tally p t sizes counter job.rule) all) ≡ all_of (map (plan_count p t sizes counter) (plans_in t all))
  tally_is [] = refl
  tally_is (job ∷ all) =
      (λ z. sum (one_is job.rule z) (tally_is all z)) ∙ sym (all_append (map (plan_count p t sizes counter) (of_job t job.rule)) (map (plan_count p t sizes counter) (plans_in t all))) ∙ ap all_of (sym (map_append (of_job t job.rule) (plans_in t all)))

plan_wide : (k : RuleKind) → is_plan_kind k ≡ true → is_wide k ≡ true
plan_wide kind.Cell h = absurd (let wrong : false ≡ true = h in cc)
plan_wide kind.Wide h = refl
plan_wide kind.Plan h = refl

module _ (config : ConfigValue) (p : List ProgTransform) (i : Instance) (grain : ℕ) (at : IsSituated config p i) where
  abbrev t : ProgTransform
  t = i.transform

  abbrev all_jobs : List JobValue
  all_jobs = jobs config p i grain at

  abbrev all_parts : List FramePart
  all_parts = parts config i.number t i.found i.sizes grain (inst config p i grain at) at.valid

  -- ---- a plan has one job
  wide_listed : (k : ℕ) (r : ProgRule) → slice_get t.rules k ≡ Some r → is_wide r.kind ≡ true → Contains (wide_rules t) k
  wide_listed k r there wide =
      let e : Contains (enumerate_from 0 t.rules) (0 + k, r) = at_numbered 0 t.rules k r there in
      let number : 0 + k ≡ k = omega arith in
      in_flat (λ (q : ℕ × ProgRule). if is_wide q.1.kind then q.0 ∷ [] else []) (enumerate_from 0 t.rules) (0 + k, r) k e
      (subst (λ w. Contains (if w then (0 + k) ∷ [] else []) k) (sym wide) (subst (λ n. Contains (n ∷ []) k) (sym number) (in_head k [])))

  same_layer : (k : ℕ) (r : ProgRule) → slice_get t.rules k ≡ Some r → is_wide r.kind ≡ true → (q s : FramePart) → IsPiece all_parts q → IsPiece all_parts s → q.rule ≡ k → s.rule ≡ k → slice_index i.found.order.layer q.node ≡ slice_index i.found.order.layer s.node
  same_layer k r there wide q s in_q in_s rule_q rule_s =
      let fq = node_of config i.number t i.found i.sizes grain (inst config p i grain at) at.valid q in_q in
      let fs = node_of config i.number t i.found i.sizes grain (inst config p i grain at) at.valid s in_s in
      let aq = among_rules config i.number t i.found i.sizes grain (inst config p i grain at) at.valid q in_q fq.0 fq.1 r (ap (slice_get t.rules) rule_q ∙ there) in
      let as_ = among_rules config i.number t i.found i.sizes grain (inst config p i grain at) at.valid s in_s fs.0 fs.1 r (ap (slice_get t.rules) rule_s ∙ there) in
      let analysis : IsAnalysis t i.found = at.found in
      analysis.layering.is_order.shared q.node s.node (record {
        rule = k;
        is_wide = subst (λ l. Contains l k) (sym analysis.are.wide) (wide_listed k r there wide);
        first = fq.0;
        second = fs.0;
        has_first = subst (λ l. slice_get l q.node ≡ Some fq.0) analysis.nodes fq.1;
        has_second = subst (λ l. slice_get l s.node ≡ Some fs.0) analysis.nodes fs.1;
        of_first = subst (Contains fq.0.rules) rule_q aq;
        of_second = subst (Contains fs.0.rules) rule_s as_;
      })

  one_wide : (k : ℕ) (r : ProgRule) → slice_get t.rules k ≡ Some r → is_wide r.kind ≡ true → (j l : ℕ) (x y : JobValue) → slice_get all_jobs j ≡ Some x → slice_get all_jobs l ≡ Some y → x.rule ≡ Some k → y.rule ≡ Some k → j ≡ l
  one_wide k r there wide j l x y at_j at_l rule_x rule_y = by (kind_of t i.found.order grain all_parts j x px) (kind_of t i.found.order grain all_parts l y py)
    where
      px : IsPlaced t i.found.order grain all_parts j x
      px = placed t i.found.order grain all_parts j x at_j

      py : IsPlaced t i.found.order grain all_parts l y
      py = placed t i.found.order grain all_parts l y at_l

      layer : px.layer ≡ py.layer
      layer =
          let q = first_part config i.number t i.found i.sizes grain (inst config p i grain at) at.valid j x at_j k rule_x in
          let s = first_part config i.number t i.found i.sizes grain (inst config p i grain at) at.valid l y at_l k rule_y in
          let pq = part_of t i.found.order grain all_parts j x px q.0 q.1 in
          let ps = part_of t i.found.order grain all_parts l y py s.0 s.1 in
          sym (own_layer config i.number t i.found i.sizes grain (inst config p i grain at) at.valid j x at_j q.0 q.1) ∙ same_layer k r there wide q.0 s.0 pq.piece ps.piece (pq.wide k rule_x).0 (ps.wide k rule_y).0 ∙ own_layer config i.number t i.found i.sizes grain (inst config p i grain at) at.valid l y at_l s.0 s.1

      wides : ℕ → List ℕ
      wides n = chosen_wides t (in_layer i.found.order all_parts n)

      by : ((m : ℕ) × IsWideAt t i.found.order grain all_parts px.layer px.place x m) ⊎ IsBlockAt t i.found.order grain all_parts px.layer px.value px.place x → ((m : ℕ) × IsWideAt t i.found.order grain all_parts py.layer py.place y m) ⊎ IsBlockAt t i.found.order grain all_parts py.layer py.value py.place y → j ≡ l
      by (inr b) w = absurd (let wrong : Some k ≡ None = sym rule_x ∙ ap (λ (c : JobValue). c.rule) b.same in cc)
      by (inl u) (inr b) = absurd (let wrong : Some k ≡ None = sym rule_y ∙ ap (λ (c : JobValue). c.rule) b.same in cc)
      by (inl u) (inl w) =
          let rule_u : u.0 ≡ k = (let e : Some u.0 ≡ Some k = sym (ap (λ (c : JobValue). c.rule) u.1.1) ∙ rule_x in cc) in
          let rule_w : w.0 ≡ k = (let e : Some w.0 ≡ Some k = sym (ap (λ (c : JobValue). c.rule) w.1.1) ∙ rule_y in cc) in
          let at_x : slice_get (chosen_wides t (in_layer i.found.order all_parts px.layer)) px.place ≡ Some k = u.1.0 ∙ ap (λ n. Some n) rule_u in
          let at_y : slice_get (chosen_wides t (in_layer i.found.order all_parts px.layer)) py.place ≡ Some k = ap (λ n. slice_get (chosen_wides t (in_layer i.found.order all_parts n)) py.place) layer ∙ w.1.0 ∙ ap (λ n. Some n) rule_w in
          let place = once_wides (in_layer i.found.order all_parts px.layer) px.place py.place k at_x at_y in
          same_place t i.found.order grain all_parts j l x y px py layer place
        where
          once_wides : (here : List FramePart) (m n k : ℕ) → slice_get (chosen_wides t here) m ≡ Some k → slice_get (chosen_wides t here) n ≡ Some k → m ≡ n
          once_wides here m n k e f = rises_one (λ (z : ℕ). z) (chosen_wides t here) (rises_filter (λ (z : ℕ). z) _ (range_with_len 0 (length t.rules)) (rises_range 0 (length t.rules))) m n k k e f refl

  jobs_once : Once (plans_in t all_jobs)
  jobs_once = once_flat (λ (job : JobValue). of_job t job.rule) all_jobs (λ j job e. of_once t job.rule) (λ j l x y b at_j at_l in_x in_y.
      let hx = of_is t x.rule b in_x in
      let hy = of_is t y.rule b in_y in
      one_wide b.0 b.1 hx.there (plan_wide b.1.kind hx.plan) j l x y at_j at_l hx.rule hy.rule)

  -- ---- made cells
  made_is : (c : Cell) → Contains (made_cells t i.sizes) c → IsMadeCell t i.sizes c
  unfolding made_cells
  made_is c h =
      let s = made_at i.sizes t.inputs (drop t.inputs t.matrices) c h in
      record {
        cell = record {
          in_range = at.range;
          decl = s.decl;
          there = ap (slice_get t.matrices) (sym s.matrix) ∙ dropped t.matrices t.inputs s.place s.decl s.there;
          before_x = below_side (exact_value s.decl.w i.sizes) c.x s.across;
          before_y = below_side (exact_value s.decl.h i.sizes) c.y s.down;
        };
        made = omega (arith, s.matrix);
      }
    where
      dropped : {A : Type 0} (xs : List A) (n k : ℕ) (x : A) → slice_get (drop n xs) k ≡ Some x → slice_get xs (n + k) ≡ Some x
      dropped xs zero k x at = let here : 0 + k ≡ k = omega arith in rw here at
      dropped [] (suc n) k x at = absurd (let none : None ≡ Some x = at in cc)
      dropped (y ∷ xs) (suc n) k x at = let here : suc n + k ≡ suc (n + k) = omega arith in rw here (dropped xs n k x at)

  is_made : (c : Cell) → IsMadeCell t i.sizes c → Contains (made_cells t i.sizes) c
  unfolding made_cells
  is_made c m =
      let place : ℕ = c.matrix - t.inputs in
      let matrix : t.inputs + place ≡ c.matrix = omega (arith, m.made) in
      in_made i.sizes t.inputs (drop t.inputs t.matrices) c (record {
        place = place;
        decl = m.cell.decl;
        there = at_dropped t.matrices t.inputs place m.cell.decl (ap (slice_get t.matrices) matrix ∙ m.cell.there);
        matrix = matrix;
        across = side_below (exact_value m.cell.decl.w i.sizes) c.x m.cell.before_x;
        down = side_below (exact_value m.cell.decl.h i.sizes) c.y m.cell.before_y;
      })

  -- ---- the same plans
  some_any : (q : Cell → Bool) (cs : List Cell) → list_any q cs ≡ true → (c : Cell) × Contains cs c × (q c ≡ true)
  some_any q [] h = absurd (let wrong : false ≡ true = h in cc)
  some_any q (c ∷ cs) h = by (q c) refl h (some_any q cs)
    where
      by : (b : Bool) → q c ≡ b → (b || list_any q cs) ≡ true → (list_any q cs ≡ true → (d : Cell) × Contains cs d × (q d ≡ true)) → (d : Cell) × Contains (c ∷ cs) d × (q d ≡ true)
      by true e h rest = (c, in_head c cs, e)
      by false e h rest = let r = rest h in (r.0, in_tail c r.0 cs r.1, r.2)

  any_some : (q : Cell → Bool) (cs : List Cell) (c : Cell) → Contains cs c → q c ≡ true → list_any q cs ≡ true
  any_some q [] c h e = absurd (in_none c h)
  any_some q (d ∷ cs) c h e = by (q d) refl (in_cases d c cs h) (any_some q cs c)
    where
      by : (b : Bool) → q d ≡ b → (d ≡ c) ⊎ Contains cs c → (Contains cs c → q c ≡ true → list_any q cs ≡ true) → (q d || list_any q cs) ≡ true
      by true f h rest = rw f refl
      by false f (inl same) rest = absurd (let wrong : true ≡ false = sym e ∙ ap q (sym same) ∙ f in cc)
      by false f (inr later) rest = rw f (rest later e)

  to_chosen : (b : ℕ × ProgRule) → Contains (plans_in t all_jobs) b → Contains (chosen_plans config i.number t i.sizes) b
  unfolding chosen_plans
  to_chosen b h =
      let job = flat_in (λ (q : JobValue). of_job t q.rule) all_jobs b h in
      let is = of_is t job.0.rule b job.2 in
      let j = at_in all_jobs job.0 job.1 in
      let part = first_part config i.number t i.found i.sizes grain (inst config p i grain at) at.valid j.0 job.0 j.1 b.0 is.rule in
      let of = part_of t i.found.order grain all_parts j.0 job.0 (placed t i.found.order grain all_parts j.0 job.0 j.1) part.0 part.1 in
      let f = of_part i.number t i.found i.sizes (inst config p i grain at) config of.piece.whole of.piece.among in
      let corner = corner_of f.0 i.sizes in
      let made = corner_made i.number t i.found i.sizes (inst config p i grain at) of.piece.whole.node f.0 f.1 f.2 in
      let rule : chosen_rule config i.number t i.sizes corner ≡ b.0 = sym (ap (λ (q : FramePart). q.rule) f.3) ∙ of.piece.rule ∙ (of.wide b.0 is.rule).0 in
      let number : 0 + b.0 ≡ b.0 = omega arith in
      in_filter (is_chosen_plan config i.number t i.sizes) (enumerate_from 0 t.rules) b (subst (λ n. Contains (enumerate_from 0 t.rules) (n, b.1)) number (at_numbered 0 t.rules b.0 b.1 is.there))
      (both (is_plan_kind b.1.kind) _ is.plan (any_some (λ c. chosen_rule config i.number t i.sizes c == b.0) (made_cells t i.sizes) corner (is_made corner made) (eq-eqb (chosen_rule config i.number t i.sizes corner) b.0 rule)))

  never : (z : Bool) → not z ≡ true → z ≡ true → ⊥
  never true h k = let wrong : false ≡ true = h in cc
  never false h k = let wrong : false ≡ true = k in cc

  -- the rule of a job that has a plan's part
  rule_from : (o : Option ℕ) (rule : ℕ) (b : ℕ × ProgRule) → (o ≡ None → is_cell_rule t rule ≡ true) → ((k : ℕ) → o ≡ Some k → (rule ≡ k) × (is_wide_rule t k ≡ true)) → slice_get t.rules rule ≡ Some b.1 → rule ≡ b.0 → is_plan_kind b.1.kind ≡ true → o ≡ Some b.0
  rule_from None rule b cell wide there same plan = absurd (let test : not (is_wide b.1.kind) ≡ true = sym (ap (λ o. option_map_or (λ (q : ProgRule). not (is_wide q.kind)) o false) there) ∙ cell refl in never (is_wide b.1.kind) test (plan_wide b.1.kind plan))
  rule_from (Some k) rule b cell wide there same plan = ap (λ n. Some n) (sym (wide k refl).0 ∙ same)

  from_chosen : (b : ℕ × ProgRule) → Contains (chosen_plans config i.number t i.sizes) b → Contains (plans_in t all_jobs) b
  unfolding chosen_plans
  from_chosen b h =
      let f = filter_in (is_chosen_plan config i.number t i.sizes) (enumerate_from 0 t.rules) b h in
      let parts_of = and_parts (is_plan_kind b.1.kind) (list_any (λ c. chosen_rule config i.number t i.sizes c == b.0) (made_cells t i.sizes)) f.1 in
      let c = some_any (λ c. chosen_rule config i.number t i.sizes c == b.0) (made_cells t i.sizes) parts_of.1 in
      let rule = eqb-true (chosen_rule config i.number t i.sizes c.0) b.0 c.2 in
      let n = numbered_at 0 t.rules b f.0 in
      let there : slice_get t.rules b.0 ≡ Some b.1 = (let number : b.0 ≡ n.0 = omega (arith, n.1) in ap (slice_get t.rules) number ∙ n.2) in
      let m = made_by config i.number t i.found i.sizes grain (inst config p i grain at) at.valid c.0 (made_is c.0 c.1) in
      let part_rule : m.2.part.rule ≡ b.0 = sym (made_rule config i.number t i.found i.sizes grain (inst config p i grain at) c.0 m.0 m.1 m.2) ∙ rule in
      let of = part_of t i.found.order grain all_parts m.0 m.2.job (placed t i.found.order grain all_parts m.0 m.2.job m.2.is) m.2.part (in_at m.2.job.parts m.1 m.2.part m.2.has) in
      let of_rule_is : m.2.job.rule ≡ Some b.0 = rule_from m.2.job.rule m.2.part.rule b of.cell of.wide (ap (slice_get t.rules) part_rule ∙ there) part_rule parts_of.0 in
      in_flat (λ (q : JobValue). of_job t q.rule) all_jobs m.2.job b (in_at all_jobs m.0 m.2.job m.2.is) (is_of t m.2.job.rule b (record { rule = of_rule_is; there = there; plan = parts_of.0 }))

  chosen_once : Once (chosen_plans config i.number t i.sizes)
  unfolding chosen_plans
  chosen_once l m x e f = rises_one (λ (z : ℕ × ProgRule). z.0) (filter (is_chosen_plan config i.number t i.sizes) (enumerate_from 0 t.rules)) (rises_filter (λ (z : ℕ × ProgRule). z.0) (is_chosen_plan config i.number t i.sizes) (enumerate_from 0 t.rules) (rises_numbered 0 t.rules)) l m x x e f refl

  -- so they count the same
  pub plans_tally : (counter : Option Counter) → all_of (map (λ (job : JobValue). job_tally p t i.sizes counter job.rule) all_jobs) ≡ all_of (map (plan_count p t i.sizes counter) (chosen_plans config i.number t i.sizes))
  plans_tally counter = tally_is p t i.sizes counter all_jobs ∙ all_same (plan_count p t i.sizes counter) (plans_in t all_jobs) (chosen_plans config i.number t i.sizes) jobs_once chosen_once to_chosen from_chosen
