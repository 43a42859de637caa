-- The turns of a loop.
use Rattle.std.proofs.Common.{◌≡◌, ◌∙◌, refl, sym, ap, ℕ, suc, ◌+◌, ◌-◌, ◌<◌, ◌≤◌, ◌+ℤ◌, ℤ, pos, negsuc, ◌-ℤ◌, ◌≤ℤ◌, Bool, true, false, Ok, Err, Result, arith}
use Rattle.std.specs.Prelude.{if◌then◌else◌, int_lt}
use Rattle.std.proofs.lemmas.Int.{ints}
use Rattle.pb_values.specs.declared.outcome.Kind.{Kind}
use Rattle.pb_values.specs.declared.outcome.Kind.TheVariants.{LoopLimit}
use Rattle.pb_model.specs.Bodies.{LOOP_LIMIT, Store, each_turn, if_ok, turns}
use Rattle.pb_model.specs.Cells.{natural}

natural_is : (n : ℕ) (z : ℤ) → pos n ≡ z → natural z ≡ n
natural_is n z e = sym (ap natural e)

natural_none : (z : ℤ) → z ≤ℤ pos 0 → natural z ≡ 0
natural_none (pos n) h = omega (arith, ints, h)
natural_none (negsuc n) h = refl

chosen : (low high : ℤ) (b : Bool) → int_lt (pos LOOP_LIMIT) (high -ℤ low) ≡ b → turns low high ≡ (if b then Err LoopLimit else Ok (natural (high -ℤ low)))
unfolding turns
chosen low high b e = ap (λ c. if c then Err LoopLimit else Ok (natural (high -ℤ low))) e

pub turns_none : (low high : ℤ) → high ≤ℤ low → Ok 0 ≡ turns low high
turns_none low high h = ap Ok (sym (natural_none (high -ℤ low) (omega (arith, ints, h)))) ∙ sym (chosen low high false (grind (arith, ints, h)))

pub turns_few : (low high : ℤ) (n : ℕ) → pos n ≡ high -ℤ low → n ≤ LOOP_LIMIT → Ok n ≡ turns low high
turns_few low high n e few = ap Ok (sym (natural_is n (high -ℤ low) e)) ∙ sym (chosen low high false (grind (arith, ints, e, few)))

pub turns_many : (low high : ℤ) (n : ℕ) → pos n ≡ high -ℤ low → LOOP_LIMIT < n → Err LoopLimit ≡ turns low high
turns_many low high n e many = sym (chosen low high true (grind (arith, ints, e, many)))

-- ---- turns from one on
module _ (f : ℤ → Store → Result Store Kind) (low : ℤ) (count : ℕ) where
  turns_next : (k : ℕ) (st : Store) → k < count → each_turn f (low +ℤ pos k) (count - k) st ≡ if_ok (f (low +ℤ pos k) st) (each_turn f (low +ℤ pos (k + 1)) (count - (k + 1)))
  unfolding each_turn
  turns_next k st below =
      let e : count - k ≡ suc (count - (k + 1)) = omega arith in
      let g : low +ℤ pos k +ℤ pos 1 ≡ low +ℤ pos (k + 1) = omega (arith, ints) in
      ap (λ n. each_turn f (low +ℤ pos k) n st) e ∙ ap (λ z. if_ok (f (low +ℤ pos k) st) (each_turn f z (count - (k + 1)))) g

  pub turns_ok : (k : ℕ) (i : ℤ) (st next : Store) → k < count → i ≡ low +ℤ pos k → f i st ≡ Ok next → each_turn f (low +ℤ pos (k + 1)) (count - (k + 1)) next ≡ each_turn f (low +ℤ pos k) (count - k) st
  turns_ok k i st next below is e = sym (turns_next k st below ∙ ap (λ r. if_ok r (each_turn f (low +ℤ pos (k + 1)) (count - (k + 1)))) (ap (λ z. f z st) (sym is) ∙ e))

  pub turns_err : (k : ℕ) (i : ℤ) (st : Store) (t : Kind) → k < count → i ≡ low +ℤ pos k → f i st ≡ Err t → each_turn f (low +ℤ pos k) (count - k) st ≡ Err t
  turns_err k i st t below is e = turns_next k st below ∙ ap (λ r. if_ok r (each_turn f (low +ℤ pos (k + 1)) (count - (k + 1)))) (ap (λ z. f z st) (sym is) ∙ e)

  pub turns_end : (k : ℕ) (st : Store) → count ≤ k → each_turn f (low +ℤ pos k) (count - k) st ≡ Ok st
  unfolding each_turn
  turns_end k st past = let e : count - k ≡ 0 = omega arith in ap (λ n. each_turn f (low +ℤ pos k) n st) e
