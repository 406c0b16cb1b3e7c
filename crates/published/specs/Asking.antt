-- Labels from verdicts, and from a monitor.
use Rattle.std.specs.Prelude.{ℕ, length, Result}
use Rattle.expectations.specs.declared.types.Label.{Label}
use Rattle.expectations.specs.declared.types.Label.TheVariants.{Unknown, TrueFrom, FalseFrom}
use Rattle.expectations.specs.declared.types.Verdict.{Verdict}
use Rattle.expectations.specs.declared.types.Verdict.TheVariants as is
use Rattle.records.specs.declared.growing.Growing as growing
use Rattle.records.specs.declared.readable.Readable as readable
use Rattle.refusals.specs.declared.Refusal.{Refusal}
use Rattle.answers.specs.declared.types.Call.TheVariants.{LabelAt}
use Rattle.monitor.specs.declared.live.Monitor.{Monitor}
use Rattle.monitor.specs.Live.{states_of, record_labels, unless_refused}

-- the label that point c is the first to read so
abbrev pub dated_at : Verdict → (c : ℕ) → Label
dated_at is.Unknown c = Unknown
dated_at is.True c = TrueFrom c
dated_at is.False c = FalseFrom c

-- the label of formula f at state i of a monitor's record, or the refusal that fits where the last point is asked for it
abbrev pub label_told : {R : Type 0} {G : growing.Ghosts R} {D : readable.Ghosts R} → Monitor R G D → (f i : ℕ) → Result Label Refusal
label_told m f i = unless_refused m (LabelAt f i (length (states_of m))) (record_labels m f i)
