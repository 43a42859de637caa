-- Gaps with flags, and the segments between them.
use Rattle.std.proofs.Common.{◌≡◌, ◌∙◌, refl, sym, ap, Some, ℕ, zero, suc, ◌+◌, ◌<◌, Bool, true, false, ◌&&◌, List, [], ◌∷◌, ◌++◌, length, map, take, get_or, arith}
use Rattle.std.specs.Prelude.{filter, nat_eq, option_map}
use Rattle.std.specs.List.{All, find, flat_map, list_any}
use Rattle.std.proofs.Math.Bool.{cond}
use Rattle.std.proofs.lemmas.Bool.{eq-eqb, eqb-true}
use Rattle.std.proofs.lemmas.List.{length-map, map-append}
use Rattle.pb_linear.specs.RuleBox.{Bounds}
use Rattle.pb_linear.specs.declared.form.Form.{Form}
use Rattle.pb_linear.specs.declared.vform.SymBox.{SymBox}
use Rattle.pb_grid.specs.declared.axis.Axis.{Axis}
use Rattle.pb_grid.specs.declared.axis.Axis.TheVariants as axis
use Rattle.pb_grid.specs.declared.segments.Holder.{Holder}
use Rattle.pb_grid.specs.Gaps.{GapValue, HeldValue, bare_area, both_held, gap_of, held_by, held_of, is_bare, made}
use Rattle.pb_grid.specs.Lists.{firsts}
use Rattle.pb_grid.specs.Segments.{area_of, holder_of, holds_on, is_best, is_uncovered, segment_of}
use Rattle.pb_grid.proofs.ListLemmas.{filter_kept, firsts_known, firsts_new, there}

both_held_more : {A : Type 0} (ps qs : List Bool) (xs : List A) (i : ℕ) (d : A) → length ps ≡ length xs → length qs ≡ length xs → i < length xs →
    both_held (take (i + 1) ps) (take (i + 1) qs) (take (i + 1) xs) ≡ both_held (take i ps) (take i qs) (take i xs) ++ cond (get_or ps i false && get_or qs i false) (get_or xs i d ∷ []) []
both_held_more ps qs [] i d hp hq here = absurd (omega arith)
both_held_more [] qs (x ∷ xs) i d hp hq here = absurd (omega arith)
both_held_more (p ∷ ps) [] (x ∷ xs) i d hp hq here = absurd (omega arith)
both_held_more (p ∷ ps) (q ∷ qs) (x ∷ xs) zero d hp hq here = refl
both_held_more {A = A} (p ∷ ps) (q ∷ qs) (x ∷ xs) (suc i) d hp hq here =
    let next : suc i + 1 ≡ suc (i + 1) = omega arith in
    let rest = both_held_more ps qs xs i d (omega arith) (omega arith) (omega arith) in
    rw next (by_test (p && q) _ _ _ rest)
  where
    by_test : (b : Bool) (l m n : List A) → l ≡ m ++ n → cond b (x ∷ l) l ≡ cond b (x ∷ m) m ++ n
    by_test true l m n e = ap (λ k. x ∷ k) e
    by_test false l m n e = e

both_held_is : {A : Type 0} (f g : A → Bool) (xs : List A) → both_held (map f xs) (map g xs) xs ≡ filter (λ x. f x && g x) xs
both_held_is f g [] = refl
both_held_is f g (x ∷ xs) = ap (λ l. cond (f x && g x) (x ∷ l) l) (both_held_is f g xs)

pub held_more : {A : Type 0} (ps qs : List Bool) (xs : List A) (i : ℕ) (x : A) (b : Bool) → length ps ≡ length xs → length qs ≡ length xs → i < length xs → x ≡ get_or xs i x → (get_or ps i false && get_or qs i false) ≡ b →
    both_held (take (i + 1) ps) (take (i + 1) qs) (take (i + 1) xs) ≡ both_held (take i ps) (take i qs) (take i xs) ++ cond b (x ∷ []) []
held_more ps qs xs i x b hp hq here is e =
    both_held_more ps qs xs i x hp hq here ∙ ap (λ (t : Bool). both_held (take i ps) (take i qs) (take i xs) ++ cond t (get_or xs i x ∷ []) []) e ∙ ap (λ y. both_held (take i ps) (take i qs) (take i xs) ++ cond b (y ∷ []) []) (sym is)

-- ---- the areas between the gaps
module _ (leasts : List ℕ) (boxes : List Bounds) where
  pub all_long : (a : Axis) (ns : List (Form × Form)) → All (λ (g : GapValue). length g.held ≡ length boxes) (map (gap_of leasts a boxes) ns)
  all_long a [] k d below = absurd (omega arith)
  all_long a (n ∷ ns) zero d below = length-map boxes (holds_on leasts a n)
  all_long a (n ∷ ns) (suc k) d below = all_long a ns k d (omega arith)

  one_area : (x y : Form × Form) → held_by boxes (gap_of leasts axis.X boxes x) (gap_of leasts axis.Y boxes y) ≡ held_of leasts boxes (area_of x y)
  one_area x y = ap (λ bs. record { area = area_of x y; holders = map holder_of bs }) (both_held_is (holds_on leasts axis.X x) (holds_on leasts axis.Y y) boxes)

  one_row : (y : Form × Form) (xs : List (Form × Form)) → map (λ x. held_by boxes x (gap_of leasts axis.Y boxes y)) (map (gap_of leasts axis.X boxes) xs) ≡ map (held_of leasts boxes) (map (λ x. area_of x y) xs)
  one_row y [] = refl
  one_row y (x ∷ xs) = ap (λ h. h ∷ map (λ x. held_by boxes x (gap_of leasts axis.Y boxes y)) (map (gap_of leasts axis.X boxes) xs)) (one_area x y) ∙ ap (λ l. held_of leasts boxes (area_of x y) ∷ l) (one_row y xs)

  pub all_areas : (xs ys : List (Form × Form)) → flat_map (λ y. map (λ x. held_by boxes x y) (map (gap_of leasts axis.X boxes) xs)) (map (gap_of leasts axis.Y boxes) ys) ≡ map (held_of leasts boxes) (flat_map (λ y. map (λ x. area_of x y) xs) ys)
  all_areas xs [] = refl
  all_areas xs (y ∷ ys) =
      ap (λ l. l ++ flat_map (λ y. map (λ x. held_by boxes x y) (map (gap_of leasts axis.X boxes) xs)) (map (gap_of leasts axis.Y boxes) ys)) (one_row y xs)
      ∙ ap (λ l. map (held_of leasts boxes) (map (λ x. area_of x y) xs) ++ l) (all_areas xs ys)
      ∙ sym (map-append (held_of leasts boxes) (map (λ x. area_of x y) xs) (flat_map (λ y. map (λ x. area_of x y) xs) ys))

  bare_step : (s : SymBox) (ss : List SymBox) (b : Bool) → bare_area (map (held_of leasts boxes) ss) ≡ find (is_uncovered leasts boxes) ss →
      option_map (λ (h : HeldValue). h.area) (cond b (Some (held_of leasts boxes s)) (find is_bare (map (held_of leasts boxes) ss))) ≡ cond b (Some s) (find (is_uncovered leasts boxes) ss)
  bare_step s ss true h = refl
  bare_step s ss false h = h

  pub bare_is : (ss : List SymBox) → bare_area (map (held_of leasts boxes) ss) ≡ find (is_uncovered leasts boxes) ss
  bare_is [] = refl
  bare_is (s ∷ ss) = bare_step s ss (is_uncovered leasts boxes s) (bare_is ss)

  pub made_is : (ss : List SymBox) → map made (map (held_of leasts boxes) ss) ≡ map (segment_of leasts boxes) ss
  made_is [] = refl
  made_is (s ∷ ss) = ap (λ l. segment_of leasts boxes s ∷ l) (made_is ss)

-- ---- the numbers of the best rules
pub nat-trans : (a b c : ℕ) → nat_eq a b ≡ true → nat_eq b c ≡ true → nat_eq a c ≡ true
nat-trans a b c h k = let e = eqb-true a b h in let f = eqb-true b c k in eq-eqb a c (e ∙ f)

module _ (hs : List Holder) (i : ℕ) (d : Holder) (here : i < length hs) (l k : List ℕ) (inv : l ≡ firsts nat_eq (map (λ h. h.rule) (filter (is_best hs) (take i hs)))) (kept : is_best hs (get_or hs i d) ≡ true) where
  numbers_more : firsts nat_eq (map (λ h. h.rule) (filter (is_best hs) (take i hs)) ++ (get_or hs i d).rule ∷ []) ≡ firsts nat_eq (map (λ h. h.rule) (filter (is_best hs) (take (i + 1) hs)))
  numbers_more =
      ap (firsts nat_eq) (sym (ap (map (λ h. h.rule)) (filter_kept hs i (get_or hs i d) here (there hs i d here) (is_best hs) kept) ∙ map-append (λ h. h.rule) (filter (is_best hs) (take i hs)) (get_or hs i d ∷ [])))

  pub best_known : list_any (λ z. nat_eq z (get_or hs i d).rule) l ≡ true → l ≡ firsts nat_eq (map (λ h. h.rule) (filter (is_best hs) (take (i + 1) hs)))
  best_known e = firsts_known nat_eq nat-trans (map (λ h. h.rule) (filter (is_best hs) (take i hs))) (get_or hs i d).rule l inv e ∙ numbers_more

  pub best_new : list_any (λ z. nat_eq z (get_or hs i d).rule) l ≡ false → k ≡ l ++ (get_or hs i d).rule ∷ [] → k ≡ firsts nat_eq (map (λ h. h.rule) (filter (is_best hs) (take (i + 1) hs)))
  best_new e pushed = firsts_new nat_eq nat-trans (map (λ h. h.rule) (filter (is_best hs) (take i hs))) (get_or hs i d).rule l k inv e pushed ∙ numbers_more
