-- Outcomes in two words.
use Rattle.std.proofs.Common.{◌≡◌, ◌∙◌, refl, sym, ap, ℕ, ◌+◌, ◌*◌, ◌/◌, ◌%◌, ◌<◌, ◌^◌, w64, true, false, IsTrue, Some, arith}
use Rattle.std.specs.Int.{cast_signed}
use Rattle.std.proofs.lemmas.Int.{to_z-of_z}
use Rattle.std.proofs.lemmas.Nat.{div-mul-add, mod-mul-add}
use Rattle.pb_values.specs.Cells.{is_number}
use Rattle.pb_values.specs.declared.outcome.Kind.{Kind}
use Rattle.pb_values.specs.declared.outcome.Kind.TheVariants.{BadShape, DepthEnded, DivideByZero, LoopLimit, OutOfView, Overflow}
use Rattle.pb_values.specs.declared.outcome.Outcome.{Outcome}
use Rattle.pb_values.specs.declared.outcome.Outcome.TheVariants.{Trapped, Value}
use Rattle.pb_values.specs.declared.outcome.Trap.{Trap}
use Rattle.pb_taskgraph.specs.Plans.{IsSmall}
use Rattle.pb_cells.specs.Words.{kind_mark, mark_of, outcome_in, trap_in, trap_word, word_of}

trap-back : (t : Trap) → t.transform < 64 → t.rule < 32 → t.x < 2 ^ 23 → t.y < 2 ^ 23 → trap_in t.kind (trap_word t) ≡ t
unfolding trap_in trap_word
trap-back t transform rule across down =
    let maker = t.transform * 32 + t.rule in
    let w = t.transform * 2 ^ 51 + t.rule * 2 ^ 46 + t.y * 2 ^ 23 + t.x in
    let all : w ≡ (maker * 2 ^ 23 + t.y) * 2 ^ 23 + t.x = omega arith in
    let x : w % 2 ^ 23 ≡ t.x = ap (λ n. n % 2 ^ 23) all ∙ mod-mul-add (maker * 2 ^ 23 + t.y) (2 ^ 23) t.x across in
    let front : w / 2 ^ 23 ≡ maker * 2 ^ 23 + t.y = ap (λ n. n / 2 ^ 23) all ∙ div-mul-add (maker * 2 ^ 23 + t.y) (2 ^ 23) t.x across in
    let y : w / 2 ^ 23 % 2 ^ 23 ≡ t.y = ap (λ n. n % 2 ^ 23) front ∙ mod-mul-add maker (2 ^ 23) t.y down in
    let by : w / 2 ^ 23 / 2 ^ 23 ≡ maker = ap (λ n. n / 2 ^ 23) front ∙ div-mul-add maker (2 ^ 23) t.y down in
    let r : w / 2 ^ 23 / 2 ^ 23 % 32 ≡ t.rule = ap (λ n. n % 32) by ∙ mod-mul-add t.transform 32 t.rule rule in
    let m : w / 2 ^ 23 / 2 ^ 23 / 32 ≡ t.transform = ap (λ n. n / 32) by ∙ div-mul-add t.transform 32 t.rule rule in
    λ i. record { kind = t.kind; transform = m i; rule = r i; x = x i; y = y i }

pub outcome-back : (v : Outcome) → IsSmall v → outcome_in (mark_of v) (word_of v) ≡ v
unfolding mark_of word_of outcome_in
outcome-back (Value z) small = ap Value (to_z-of_z w64 z small)
outcome-back (Trapped t) small = told t.kind refl
  where
    trap : trap_in t.kind (trap_word t) ≡ t
    trap = trap-back t small.0 small.1 small.2 small.3

    told : (k : Kind) → k ≡ t.kind → outcome_in (kind_mark k) (trap_word t) ≡ Trapped t
    told Overflow e = ap (λ j. Trapped (trap_in j (trap_word t))) e ∙ ap Trapped trap
    told DivideByZero e = ap (λ j. Trapped (trap_in j (trap_word t))) e ∙ ap Trapped trap
    told OutOfView e = ap (λ j. Trapped (trap_in j (trap_word t))) e ∙ ap Trapped trap
    told LoopLimit e = ap (λ j. Trapped (trap_in j (trap_word t))) e ∙ ap Trapped trap
    told BadShape e = ap (λ j. Trapped (trap_in j (trap_word t))) e ∙ ap Trapped trap
    told DepthEnded e = ap (λ j. Trapped (trap_in j (trap_word t))) e ∙ ap Trapped trap

pub is-marked : (v : Outcome) → 0 < mark_of v
unfolding mark_of
is-marked (Value z) = omega arith
is-marked (Trapped t) = marked t.kind
  where
    marked : (k : Kind) → 0 < kind_mark k
    marked Overflow = omega arith
    marked DivideByZero = omega arith
    marked OutOfView = omega arith
    marked LoopLimit = omega arith
    marked BadShape = omega arith
    marked DepthEnded = omega arith

-- the mark 1 is that of a number
pub marked-number : (v : Outcome) → mark_of v ≡ 1 → IsTrue (is_number (Some v))
unfolding mark_of
marked-number (Value z) e = refl
marked-number (Trapped t) e = absurd (none t.kind e)
  where
    none : (k : Kind) → kind_mark k ≡ 1 → ⊥
    none Overflow h = omega (arith, h)
    none DivideByZero h = omega (arith, h)
    none OutOfView h = omega (arith, h)
    none LoopLimit h = omega (arith, h)
    none BadShape h = omega (arith, h)
    none DepthEnded h = omega (arith, h)

-- the word of a number gives it back
pub number-back : (v : Outcome) → IsSmall v → IsTrue (is_number (Some v)) → (word : ℕ) → word ≡ word_of v → v ≡ Value (cast_signed w64 word)
unfolding word_of
number-back (Value z) small number word e = sym (ap (λ n. Value (cast_signed w64 n)) e ∙ ap Value (to_z-of_z w64 z small))
number-back (Trapped t) small number word e = absurd (let wrong : false ≡ true = number in cc)
