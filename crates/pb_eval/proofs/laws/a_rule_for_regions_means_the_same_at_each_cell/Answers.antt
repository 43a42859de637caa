use Rattle.pb_eval.proofs.RegionLemmas.{all_shown, gives_same, outs_are_free, reads_are_free, reads_same, sides_same}
use Rattle.pb_eval.proofs.laws.a_rule_for_regions_means_the_same_at_each_cell.Goals as goal

pub returns : goal.returns
returns c = record {
  shown = λ n inputs count transforms r well wide matrices at c d. all_shown matrices at c d r.reads (reads_are_free matrices at c d n inputs count transforms r well wide);
  written = λ n inputs count transforms r well wide matrices at c d. all_shown matrices at c d r.outs (outs_are_free matrices at c d n inputs count transforms r well wide);
  reads = λ n inputs count transforms r well wide matrices at c d. reads_same matrices at c d n inputs count transforms r well wide;
  read_sides = λ n inputs count transforms r well wide matrices at c d. sides_same matrices at c d r.reads (reads_are_free matrices at c d n inputs count transforms r well wide);
  out_sides = λ n inputs count transforms r well wide matrices at c d. sides_same matrices at c d r.outs (outs_are_free matrices at c d n inputs count transforms r well wide);
  gives = λ n inputs count transforms r well wide matrices at c d. gives_same matrices at c d n inputs count transforms r well wide;
}
