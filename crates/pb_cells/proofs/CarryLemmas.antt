-- What other seats know still fits after a step.
use Rattle.std.proofs.Common.{◌≡◌, ◌∙◌, sym, ℕ, ◌≤◌, Option, Some, None, arith}
use Rattle.pb_taskgraph.specs.Plans.{Plan, outcome_at}
use Rattle.pb_cells.specs.declared.view.TaskView.{TaskView}
use Rattle.pb_cells.specs.declared.view.View.{View}
use Rattle.pb_cells.specs.Banks.{Bank}
use Rattle.pb_cells.specs.Stories.{Fits, FitsJob, FitsLeft, FitsOpened, FitsRan, FitsTask, FitsTurns, HasOpened, HoldsTurn, Runs, Story, is_listed}
use Rattle.pb_cells.specs.Words.{word_of}

-- for a seat, two stories say the same of the task that it runs, and a value word that was right is right
pub record SameTask (p : Plan) (b c : Bank) (y z : Story) (id : ℕ) : Type 0 where
  pub runs : (t : ℕ) → Runs y.core.runner y.taker t id → Runs z.core.runner z.taker t id
  pub back : (t : ℕ) → Runs z.core.runner z.taker t id → Runs y.core.runner y.taker t id
  pub wrote : (t : ℕ) → Runs y.core.runner y.taker t id → z.wrote t ≡ y.wrote t
  pub number : (t : ℕ) → Runs y.core.runner y.taker t id → z.core.number t ≡ y.core.number t
  pub kept : (t : ℕ) → Runs y.core.runner y.taker t id → z.kept t ≡ y.kept t
  pub filed : (t : ℕ) → Runs y.core.runner y.taker t id → is_listed z.filed t ≡ is_listed y.filed t
  pub released : (t u : ℕ) → Runs y.core.runner y.taker t id → z.core.released t u ≡ y.core.released t u
  pub right : (d : ℕ) → b.value d ≡ word_of (outcome_at p.solution d) → c.value d ≡ word_of (outcome_at p.solution d)

-- and of what else it knows
pub record SameRest (b c : Bank) (y z : Story) (id : ℕ) : Type 0 where
  pub holds : (t : ℕ) → HoldsTurn y.core.holder y.core.runner t id → HoldsTurn z.core.holder z.core.runner t id
  pub held : (t : ℕ) → HoldsTurn z.core.holder z.core.runner t id → HoldsTurn y.core.holder y.core.runner t id
  pub opened : (t : ℕ) → HasOpened y t id → HasOpened z t id
  pub opens : (t : ℕ) → HasOpened z t id → HasOpened y t id
  pub takes : (t : ℕ) → y.taker t ≡ Some id → z.taker t ≡ Some id
  pub taken : (t : ℕ) → z.taker t ≡ Some id → y.taker t ≡ Some id
  pub ended : (t : ℕ) → y.taker t ≡ Some id → z.core.number t ≡ y.core.number t
  pub more : b.filed ≤ c.filed

module _ (p : Plan) (b c : Bank) (y z : Story) (id : ℕ) where
  pub same-task : (j : TaskView) → SameTask p b c y z id → FitsTask p b y id j → FitsTask p c z id j
  same-task j same fits = record {
    runs = same.runs j.task fits.runs;
    only = λ t runs. fits.only t (same.back t runs);
    wrote = same.wrote j.task fits.runs ∙ fits.wrote;
    stored = λ e. let was = fits.stored e in (was.0, same.right _ was.1);
    number = same.number j.task fits.runs ∙ fits.number;
    kept = same.kept j.task fits.runs ∙ fits.kept;
    filed = same.filed j.task fits.runs ∙ fits.filed;
    released = λ u. same.released j.task u fits.runs ∙ fits.released u;
  }

  pub same-job : (o : Option TaskView) → SameTask p b c y z id → FitsJob p b y id o → FitsJob p c z id o
  same-job None same fits = λ t runs. fits t (same.back t runs)
  same-job (Some j) same fits = same-task j same fits

  module _ (same : SameRest b c y z id) where
    pub same-turns : (turns : _) → FitsTurns y.core.holder y.core.runner id turns → FitsTurns z.core.holder z.core.runner id turns
    same-turns turns fits = record { each = λ t. (λ h. same.holds t ((fits.each t).0 h), λ h. (fits.each t).1 (same.held t h)); once = fits.once }

    pub same-opened : (opened : _) → FitsOpened y id opened → FitsOpened z id opened
    same-opened opened fits = record { each = λ t. (λ h. same.opened t ((fits.each t).0 h), λ h. (fits.each t).1 (same.opens t h)); once = fits.once }

    pub same-ran : (ran : _) → FitsRan y.taker y.core.number id ran → FitsRan z.taker z.core.number id ran
    same-ran ran fits = record {
      each = λ t n. (
        λ h. let was = (fits.each t n).0 h in (same.takes t was.0, same.ended t was.0 ∙ was.1),
        λ h. let was = same.taken t h.0 in (fits.each t n).1 (was, sym (same.ended t was) ∙ h.1),
      );
      once = fits.once;
    }

    pub same-fits : (v : View) → SameTask p b c y z id → Fits p b y id v → Fits p c z id v
    same-fits v task fits = record {
      job = same-job v.job task fits.job;
      turns = same-turns v.turns fits.turns;
      opened = same-opened v.opened fits.opened;
      left = fits.left;
      ran = same-ran v.ran fits.ran;
      seen = let more = same.more in let was = fits.seen in omega arith;
    }

    -- the seat whose own task has gone on
    pub next-fits : (v : View) (j : TaskView) → FitsTask p c z id j → FitsLeft (Some j) v.opened → Fits p b y id v → Fits p c z id (record v { job = Some j })
    next-fits v j job left fits = record {
      job = job;
      turns = same-turns v.turns fits.turns;
      opened = same-opened v.opened fits.opened;
      left = left;
      ran = same-ran v.ran fits.ran;
      seen = let more = same.more in let was = fits.seen in omega arith;
    }
