-- Rules: where nothing is wrong with their names, all of each is as a well-formed program has it.
use Rattle.std.proofs.Common.{◌≡◌, ◌∙◌, refl, sym, ℕ, Bool, true, false, List, [], map, length, subst, arith}
use Rattle.std.specs.List.{AllByRecursion, flat_map}
use Rattle.std.proofs.lemmas.List.{length-map}
use Rattle.pb_syntax.specs.Trees.{RuleTree}
use Rattle.pb_syntax.specs.WithinLimits.{RuleWithin}
use Rattle.pb_syntax.specs.declared.tree.view.UseText.{UseText}
use Rattle.pb_program.specs.declared.view.Read.{Read}
use Rattle.pb_program.specs.Stmts.{stmts}
use Rattle.pb_program.specs.WellFormed.{Around, AreStmts, IsRule, KindFits, around}
use Rattle.pb_names.specs.Turns.{turn_faults}
use Rattle.pb_names.specs.Bodies.{Visible, after, stmt_faults}
use Rattle.pb_names.specs.Views.{Matrices, after_outs, after_read, cond_faults, cond_of, out_at, after_out, outs_faults, outs_of, read_at, reads_faults, reads_of, start}
use Rattle.pb_names.specs.Rules.{body_of, inner, is_cell, is_plan, is_single, kind_by, rule_faults, rule_of}
use Rattle.pb_names.proofs.ListFits.{both, turns_length}
use Rattle.pb_names.proofs.BodiesFit.{Sees, body_count, body_fits}
use Rattle.pb_names.proofs.ViewsFit.{MatrixThere, conds_there, reads_there}
use Rattle.pb_names.proofs.OutsFit.{outs_fit}
use Rattle.pb_names.proofs.PlansFit.{plan_fits}

kind_fits : (planned cell : Bool) (outs : List Read) → KindFits (kind_by false cell) outs → KindFits (kind_by planned cell) outs
kind_fits true cell outs h = tt {0}
kind_fits false cell outs h = h

module _ (sizes transforms : ℕ) (ms : Matrices) (matrices : ℕ) (known : AllByRecursion (λ e. MatrixThere matrices e.1) ms.names) where
  module _ (v : Visible) (locals : v.locals ≡ 0)
      (sees : (a : Around) → a.sizes ≡ sizes → a.transforms ≡ transforms → Sees a v) where
    pub rule_fits : (r : RuleTree) → RuleWithin r → rule_faults ms v r ≡ [] → IsRule sizes ms.inputs matrices transforms (rule_of ms v r)
    rule_fits r w e =
        let outs = outs_of ms v r.outs in
        let reads = reads_of ms (after_outs v r.outs) r.reads in
        let body = body_of (inner v r) r.body in
        let a = around sizes transforms (rule_of ms v r) in
        let clean : (outs_faults ms (is_single r.outs) v r.outs ≡ []) × ((reads_faults ms (after_outs v r.outs) r.reads ≡ [])
        × ((flat_map (cond_faults (inner v r)) r.conds ≡ []) × (turn_faults after stmt_faults (inner v r) r.body ≡ [])))
        = both (λ d. d) (both (λ d. d) (both (λ d. d) (λ d. d))) e in
        let many_outs : length outs ≡ length r.outs = turns_length after_out (out_at ms) (start v) r.outs in
        let many_reads : length reads ≡ length r.reads = turns_length after_read (read_at ms) (start (after_outs v r.outs)) r.reads in
        let many_conds : length (map (cond_of (inner v r)) r.conds) ≡ length r.conds = length-map r.conds (cond_of (inner v r)) in
        let b : Around = record { sizes = sizes; variables = 0; outputs = length outs; reads = length reads; transforms = transforms } in
        let free = λ (k : ℕ). sees (record b { variables = k }) refl refl in
        let o = outs_fit b ms matrices known v (free, locals) r.outs w.outputs.0.0 (omega arith) w.outputs.1 clean.0 in
        let d = reads_there a ms matrices known (after_outs v r.outs) o.sees o.locals r.reads (omega arith) w.reads.1 clean.1.0 in
        let there = body_fits a (inner v r) d.1.sees r.body w.body clean.1.1.1 in
        record {
          some_output = (omega (arith, w.outputs.0), omega (arith, w.outputs.0));
          names = length-map r.outs (λ (u : UseText). u.bound) ∙ sym many_outs;
          few_reads = omega (arith, w.reads.0);
          few_conditions = omega (arith, w.conds.0);
          few_statements = omega (arith, w.few_statements, body_count (inner v r) r.body);
          outs = o.views;
          outputs = o.outputs;
          reads = d.0;
          conds = conds_there a (inner v r) d.1.sees r.conds w.conds.1;
          kind = kind_fits (is_plan v r) (is_cell v r.outs) outs o.kind;
          body = subst (λ l. AreStmts a l (stmts body)) d.1.locals there;
          plan = plan_fits a (inner v r) d.1.sees.names d.1.locals r.body (is_plan v r) (is_cell v r.outs) w.body there;
        }
