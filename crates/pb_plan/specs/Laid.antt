-- An instance of a transform that is laid out: what it makes, where its matrices stand, and what each job makes and reads.
use Rattle.std.specs.Prelude.{◌≡◌, ℕ, ◌≤◌, List, map}
use Rattle.std.specs.List.{All}
use Rattle.pb_linear.specs.Sizes.{sizes_of}
use Rattle.pb_linear.specs.declared.sizes.Sizes.{Sizes}
use Rattle.pb_values.specs.declared.view.View.{View}
use Rattle.pb_program.specs.Configs.{ConfigValue}
use Rattle.pb_program.specs.Trees.{ProgTransform}
use Rattle.pb_check.specs.Orders.{AnalysisValue}
use Rattle.pb_frame.specs.Frames.{FrameValue, IsFrame}
use Rattle.pb_links.specs.Spots.{PlacesValue}
use Rattle.pb_taskgraph.specs.declared.limits.TheConstants.{MOST_CELLS}
use Rattle.pb_plan.specs.Boxes.{places_of}
use Rattle.pb_views.specs.Layouts.{AreInARow, HasShortSides, cell_count}

pub record LaidValue : Type 0 where
  pub frame : FrameValue
  pub views : List View
  pub places : List PlacesValue

-- the frame at these sizes, the matrices from cell 0 on, and the places of each job
pub record IsLaid (config : ConfigValue) (number : ℕ) (s : Sizes) (grain : ℕ) (t : ProgTransform) (a : AnalysisValue) (l : LaidValue) : Type 0 where
  pub sizes : l.frame.sizes ≡ s
  pub frame : IsFrame config number t a grain l.frame
  pub row : AreInARow 0 (sizes_of s) t.matrices l.views
  pub places : l.places ≡ map (places_of t a.nodes (sizes_of s)) l.frame.jobs

-- the matrices are within the limits of a run
pub record HasRoom (sizes : List ℕ) (t : ProgTransform) : Type 0 where
  pub sides : All (HasShortSides sizes) t.matrices
  pub cells : cell_count sizes t.matrices ≤ MOST_CELLS
