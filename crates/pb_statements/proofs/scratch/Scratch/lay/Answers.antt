use Rattle.std.proofs.Common.{◌≡◌, ◌<◌, ◌≤◌, ◌*◌, ◌+◌, ◌∙◌, ◌++◌, ◌∷◌, [], ℕ, sym, ap, arith, length, map, take, List}
use Rattle.std.proofs.lemmas.Grind.{common_steps}
use Rattle.pb_linear.specs.Sizes.{sizes_of}
use Rattle.pb_program.specs.declared.view.Read.{Read}
use Rattle.pb_statements.specs.Outputs.{free_by, free_sides}
use Rattle.pb_statements.proofs.OutLemmas.{at_matrix, rest_next, sides_here, taken_next}
use Rattle.pb_statements.proofs.scratch.Scratch.lay.Goals as goal

pub lay_one-requires-clause-room : goal.lay_one-requires-clause-room
lay_one-requires-clause-room c =
    let out = c.out-item.result in
    let F : Read → ℕ × ℕ = free_sides c.args.matrices.now (sizes_of c.args.s.now) in
    let inside : c.loop-out.out-index < length c.args.outs.now = omega arith in
    let d = c.index-matrices-out.result in
    let there : out.matrix < length c.args.matrices.now = omega (arith, at_matrix c.args.matrices.now c.args.outs.now c.loop-out.out-index out inside c.out-item.is c.requires.there) in
    let here : ◌≡◌ {A = ℕ × ℕ} (F out) (free_by out.view (sizes_of c.args.s.now) out d) = sides_here c.args.matrices.now (sizes_of c.args.s.now) out d there c.index-matrices-out.is in
    let wide : c.view_sides-sides.result.width ≡ (F out).0 = c.view_sides-sides.ensures.width ∙ ap (λ (p : ℕ × ℕ). p.0) (sym here) in
    let tall : c.view_sides-sides.result.height ≡ (F out).1 = c.view_sides-sides.ensures.height ∙ ap (λ (p : ℕ × ℕ). p.1) (sym here) in
    let area : c.view_sides-sides.result.height * c.view_sides-sides.result.width ≡ (F out).1 * (F out).0 = ap (λ n. n * c.view_sides-sides.result.width) tall ∙ ap (λ n. (F out).1 * n) wide in
    let more = rest_next F c.args.outs.now c.loop-out.out-index out inside c.out-item.is in
    let held : length c.loop-out.self.numbers.items ≡ length c.args.self.now.numbers.items = ap (λ v. length v.items) c.loop-out.invariant.numbers in
    omega (arith, held, area, more, c.loop-out.invariant.rest, c.requires.room)

pub overflow_mul-total : goal.overflow_mul-total
overflow_mul-total c =
    let out = c.out-item.result in
    let F : Read → ℕ × ℕ = free_sides c.args.matrices.now (sizes_of c.args.s.now) in
    let inside : c.loop-out.out-index < length c.args.outs.now = omega arith in
    let d = c.index-matrices-out.result in
    let there : out.matrix < length c.args.matrices.now = omega (arith, at_matrix c.args.matrices.now c.args.outs.now c.loop-out.out-index out inside c.out-item.is c.requires.there) in
    let here : ◌≡◌ {A = ℕ × ℕ} (F out) (free_by out.view (sizes_of c.args.s.now) out d) = sides_here c.args.matrices.now (sizes_of c.args.s.now) out d there c.index-matrices-out.is in
    let wide : c.view_sides-sides.result.width ≡ (F out).0 = c.view_sides-sides.ensures.width ∙ ap (λ (p : ℕ × ℕ). p.0) (sym here) in
    let tall : c.view_sides-sides.result.height ≡ (F out).1 = c.view_sides-sides.ensures.height ∙ ap (λ (p : ℕ × ℕ). p.1) (sym here) in
    let area : c.view_sides-sides.result.height * c.view_sides-sides.result.width ≡ (F out).1 * (F out).0 = ap (λ n. n * c.view_sides-sides.result.width) tall ∙ ap (λ n. (F out).1 * n) wide in
    let more = rest_next F c.args.outs.now c.loop-out.out-index out inside c.out-item.is in
    let held : length c.loop-out.self.numbers.items ≡ length c.args.self.now.numbers.items = ap (λ v. length v.items) c.loop-out.invariant.numbers in
    let small : c.view_sides-sides.result.height * c.view_sides-sides.result.width ≤ length c.args.self.now.numbers.items = omega (arith, area, more, c.loop-out.invariant.rest, c.requires.room) in
    grind (arith, common_steps, small)

pub overflow_add-total : goal.overflow_add-total
overflow_add-total c =
    let out = c.out-item.result in
    let F : Read → ℕ × ℕ = free_sides c.args.matrices.now (sizes_of c.args.s.now) in
    let inside : c.loop-out.out-index < length c.args.outs.now = omega arith in
    let d = c.index-matrices-out.result in
    let there : out.matrix < length c.args.matrices.now = omega (arith, at_matrix c.args.matrices.now c.args.outs.now c.loop-out.out-index out inside c.out-item.is c.requires.there) in
    let here : ◌≡◌ {A = ℕ × ℕ} (F out) (free_by out.view (sizes_of c.args.s.now) out d) = sides_here c.args.matrices.now (sizes_of c.args.s.now) out d there c.index-matrices-out.is in
    let wide : c.view_sides-sides.result.width ≡ (F out).0 = c.view_sides-sides.ensures.width ∙ ap (λ (p : ℕ × ℕ). p.0) (sym here) in
    let tall : c.view_sides-sides.result.height ≡ (F out).1 = c.view_sides-sides.ensures.height ∙ ap (λ (p : ℕ × ℕ). p.1) (sym here) in
    let area : c.view_sides-sides.result.height * c.view_sides-sides.result.width ≡ (F out).1 * (F out).0 = ap (λ n. n * c.view_sides-sides.result.width) tall ∙ ap (λ n. (F out).1 * n) wide in
    let more = rest_next F c.args.outs.now c.loop-out.out-index out inside c.out-item.is in
    let small : c.loop-out.total + c.view_sides-sides.result.height * c.view_sides-sides.result.width ≤ length c.args.self.now.numbers.items = omega (arith, area, more, c.loop-out.invariant.rest, c.requires.room) in
    grind (arith, common_steps, small)

pub loop-out-preserved : goal.loop-out-preserved
loop-out-preserved c =
    let out = c.out-item.result in
    let F : Read → ℕ × ℕ = free_sides c.args.matrices.now (sizes_of c.args.s.now) in
    let inside : c.loop-out.out-index < length c.args.outs.now = omega arith in
    let d = c.index-matrices-out.result in
    let there : out.matrix < length c.args.matrices.now = omega (arith, at_matrix c.args.matrices.now c.args.outs.now c.loop-out.out-index out inside c.out-item.is c.requires.there) in
    let here : ◌≡◌ {A = ℕ × ℕ} (F out) (free_by out.view (sizes_of c.args.s.now) out d) = sides_here c.args.matrices.now (sizes_of c.args.s.now) out d there c.index-matrices-out.is in
    let wide : c.view_sides-sides.result.width ≡ (F out).0 = c.view_sides-sides.ensures.width ∙ ap (λ (p : ℕ × ℕ). p.0) (sym here) in
    let tall : c.view_sides-sides.result.height ≡ (F out).1 = c.view_sides-sides.ensures.height ∙ ap (λ (p : ℕ × ℕ). p.1) (sym here) in
    let area : c.view_sides-sides.result.height * c.view_sides-sides.result.width ≡ (F out).1 * (F out).0 = ap (λ n. n * c.view_sides-sides.result.width) tall ∙ ap (λ n. (F out).1 * n) wide in
    let more = rest_next F c.args.outs.now c.loop-out.out-index out inside c.out-item.is in
    let pair : ◌≡◌ {A = ℕ × ℕ} (c.view_sides-sides.result.width, c.view_sides-sides.result.height) (F out) = λ i. (wide i, tall i) in
    record {
      spots = c.lay_one.ensures.spots ∙ ap (λ (l : List (ℕ × ℕ)). l ++ (c.view_sides-sides.result.width, c.view_sides-sides.result.height) ∷ []) c.loop-out.invariant.spots
          ∙ ap (λ (p : ℕ × ℕ). map F (take c.loop-out.out-index c.args.outs.now) ++ p ∷ []) pair ∙ sym (taken_next F c.args.outs.now c.loop-out.out-index out inside c.out-item.is);
      end = sym c.lay_one.ensures.end;
      rest = omega (arith, area, more, c.loop-out.invariant.rest);
      locals = c.lay_one.ensures.locals ∙ c.loop-out.invariant.locals;
      numbers = c.lay_one.ensures.numbers ∙ c.loop-out.invariant.numbers;
    }
