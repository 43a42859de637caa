-- What a run holds when it is made.
use Rattle.std.proofs.Common.{◌≡◌, ◌∙◌, refl, sym, subst, ℕ, ◌≤◌, ◌^◌, List, slice_get, Some}
use Rattle.std.specs.List.{All, AllZip}
use Rattle.pb_linear.specs.Sizes.{sizes_of}
use Rattle.pb_linear.specs.declared.sizes.Sizes.{Sizes}
use Rattle.pb_values.specs.declared.view.View.{View}
use Rattle.pb_program.specs.Configs.{ConfigValue}
use Rattle.pb_program.specs.Transforms.{TransformValue}
use Rattle.pb_program.specs.Trees.{bare_transform}
use Rattle.pb_matrix.specs.Value.{MatrixValue}
use Rattle.pb_calls.specs.Given.{AreGiven}
use Rattle.pb_check.specs.Accepting.{AcceptedValue}
use Rattle.pb_entry.specs.Fitting.{AreBound}
use Rattle.pb_plan.proofs.JobLemmas.{at_map}
use Rattle.pb_taskgraph.specs.Graphs.{GraphValue}
use Rattle.pb_views.specs.Layouts.{AreInARow, HasShortSides, cell_count}
use Rattle.pb_recursion.specs.Depths.{sizes_given}
use Rattle.pb_steps.specs.Handed.{total}
use Rattle.pb_steps.specs.Runs.{UnrolledValue}
use Rattle.pb_run_graph.specs.Linking.{CanBeLinked}
use Rattle.pb_jobs.specs.declared.room.Rooms.{Rooms}
use Rattle.pb_jobs.proofs.ListLemmas.{some_same}
use Rattle.pb_run_work.specs.Given.{given_as}
use Rattle.pb_run_work.specs.Holding.{AreFitted, CanBeCut, CanBeSeen}
use Rattle.pb_run_work.specs.Running.{ArePieces, HasRoomForStep, IsBegun, IsRunning, IsSight, RunValue}
use Rattle.pb_run_work.specs.Seen.{PiecesValue, SightValue}
use Rattle.pb_run_work.specs.Unrolled.{IsUnrolled}
use Rattle.pb_run_work.proofs.HoldLemmas.{all_cut, all_seen}

module _ (a : AcceptedValue) (config : ConfigValue) (grain depth t : ℕ) (inputs : List MatrixValue) (s : Sizes) (x : TransformValue) (there : slice_get a.program.transforms t ≡ Some x) (fit : AreFitted a t inputs s) (u : UnrolledValue) (g : GraphValue) (begun : IsBegun a config grain depth t (given_as inputs) u g) where
  same : fit.transform ≡ x
  same = some_same fit.transform x (sym fit.there ∙ there)

  linked : CanBeLinked a u (total (given_as inputs))
  linked = record {
    config = config;
    grain = grain;
    depth = depth;
    number = t;
    ins = given_as inputs;
    entered = begun.entered;
    steps = begun.steps;
    met = begun.met;
    seated = begun.seated;
    side = begun.within.side;
    cells = begun.within.cells;
    small = begun.small;
    given = refl;
  }

  pub short_is : All (HasShortSides (sizes_of s)) x.matrices
  short_is = subst (λ (y : TransformValue). All (HasShortSides (sizes_of s)) y.matrices) same fit.short

  pub cells_are : cell_count (sizes_of s) x.matrices ≤ 2 ^ 62
  cells_are = subst (λ (y : TransformValue). cell_count (sizes_of s) y.matrices ≤ 2 ^ 62) same fit.cells

  pub seen_are : All (CanBeSeen a) u.instances
  seen_are = all_seen a u (total (given_as inputs)) linked

  pub cut_are : (sights : List SightValue) → AllZip (IsSight a) u.instances sights → All (CanBeCut a u.instances) u.steps
  unfolding linked
  cut_are sights held = all_cut a u (total (given_as inputs)) linked g.tasks begun.tasks sights held

  module _ (views : List View) (row : AreInARow 0 (sizes_of s) x.matrices views) (sights : List SightValue) (seen : AllZip (IsSight a) u.instances sights) (pieces : List PiecesValue) (cut : AllZip (ArePieces a u.instances) u.steps pieces) (rooms : Rooms) (room : All (HasRoomForStep a u.instances rooms) u.steps) where
    abbrev made : RunValue
    made = record {
      accepted = a;
      config = config;
      grain = grain;
      depth = depth;
      number = t;
      transform = x;
      sizes = s;
      inputs = inputs;
      views = views;
      unrolled = u;
      graph = g;
      sights = sights;
      pieces = pieces;
      rooms = rooms;
    }

    pub run_is : IsRunning made
    run_is = record {
      begun = begun;
      there = there;
      given = subst (λ (y : TransformValue). AreGiven (bare_transform y) (sizes_of s) (given_as inputs)) same fit.given;
      sizes = subst (λ (y : TransformValue). sizes_given (bare_transform y) (given_as inputs) ≡ sizes_of s) same fit.sizes;
      short = short_is;
      row = row;
      sights = seen;
      pieces = cut;
      rooms = room;
    }

    pub unrolled_is : IsUnrolled a config t inputs depth grain made
    unrolled_is = record {
      of_accepted = refl;
      of_config = refl;
      of_number = refl;
      of_inputs = refl;
      of_depth = refl;
      of_grain = refl;
      there = at_map bare_transform a.program.transforms t x there;
      bound = subst (λ (y : TransformValue). AreBound (bare_transform y) inputs (sizes_of s)) same fit.bound;
      within = record { counts = begun.counts; tasks = begun.within.tasks; links = begun.within.links };
    }
