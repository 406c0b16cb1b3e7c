-- What a labelling at work knows: relations of a job, or of a binder, to rows of labels.
use Rattle.std.specs.Prelude.{◌≡◌, ℕ, ◌*◌, ◌<◌, ◌≤◌, min, Bool, true, ◌⊎◌, List, length, Decides, slice_index_or}
use Rattle.labels.specs.Readings.{Reading}
use Rattle.logic.specs.declared.types.Formula.TheVariants.{True}
use Rattle.logic.specs.declared.types.Reference.{Reference}
use Rattle.logic.specs.States.{state_at}
use Rattle.logic.specs.Logic.{Tree}
use Rattle.logic.specs.Tables.{tree, EachPart}
use Rattle.labelling.specs.Rows.{row}
use Rattle.labelling.specs.Tells.{Tells}
use Rattle.labelling.specs.Bound.{ClosedTold, AllTold, Through, Published}
use Rattle.labelling.specs.Whole.{Labelled}
use Rattle.labelling.specs.declared.job.Job.{Job}
use Rattle.labelling.specs.declared.job.Binder.{Binder}

-- how many cells the formulas take: one for each of them at each state
abbrev pub total : Job → ℕ
total job = length job.table.now * job.n

-- formula f of a job's table, with its parts
abbrev pub tree_at : Job → (f : ℕ) → Tree
tree_at job f = tree job.table.now f

-- the part that a binder's formula binds the variable in
abbrev pub bound_part : Binder → Tree
bound_part b = tree_at b.job.now b.part

module _ {K : Type 0} (reads : K → Reading) (reach : ℕ) where
  -- a row tells of a formula at the job's states, with the variable bound to v
  abbrev pub Told : Job → (v : ℕ) → Tree → List K → Type 0
  Told job v φ xs = Tells reads reach job.n (state_at job.states.now) v φ xs

  -- it does so whatever the variable is bound to
  abbrev pub ToldFree : Job → Tree → List K → Type 0
  ToldFree job φ xs = (v : ℕ) → Told job v φ xs

  -- the rows of the parts of formula f tell of them, with the variable bound to v
  abbrev pub PartsTold : Job → (v f : ℕ) → List K → Type 0
  PartsTold job v f cells = EachPart (λ g. Told job v (tree_at job g) (row job.n g cells)) (slice_index_or job.table.now f True)

  -- of the first m formulas, the rows of those that are not loose tell of them, whatever the variable is bound to
  abbrev pub Known : Job → List K → (m : ℕ) → Type 0
  Known job cells m = ClosedTold reads reach job.n (state_at job.states.now) job.table.now cells m

  -- of the formulas before a binder's, the rows of those that are not loose or are wanted tell of them, with the variable bound to v
  abbrev pub KnownBound : Binder → (v : ℕ) → List K → Type 0
  KnownBound b v cells = AllTold reads reach b.job.now.n (state_at b.job.now.states.now) b.job.now.table.now b.wanted v cells b.f

  -- a label reads as an earlier one or as a binder's part does at state i, with the variable bound to the target of the reference,
  -- if that is of the kind
  abbrev pub Widened : Binder → (kind : ℕ) → Reference → (i : ℕ) → (so_far new : K) → Type 0
  Widened b kind ref i so_far new =
      (e : Bool) (c : ℕ) → 0 < c → c ≤ reach → Decides (reads new e c) ((reads so_far e c ≡ true) ⊎ Through (state_at b.job.now.states.now) (bound_part b) kind ref i e (min c b.job.now.n))

  -- the label memory has the row of each formula as the working memory has it, and unknown labels where the formula is loose
  abbrev pub AllPublished : Job → (work cells : List K) → Type 0
  AllPublished job work cells = Published reads reach job.n job.flags.now work cells (length job.table.now)

  -- both memories hold afterwards what a whole labelling of the job's states leaves
  abbrev pub JobLabelled : Job → (old oldWork new newWork : List K) → Type 0
  JobLabelled job old oldWork new newWork = Labelled reads reach job.table.now job.states.now old oldWork new newWork
