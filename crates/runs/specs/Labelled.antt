-- What `run` leaves of the whole labelling at its end, where there was memory for all answers.
use Rattle.std.specs.Prelude.{◌≡◌, ℕ, ◌<◌, true, List, length, is_ok, Err, Result}
use Rattle.labels.specs.Readings.{Reading}
use Rattle.records.specs.declared.growing.Growing as growing
use Rattle.records.specs.declared.readable.Readable as readable
use Rattle.refusals.specs.declared.Refusal.{Refusal}
use Rattle.refusals.specs.declared.Refusal.TheVariants as refusal
use Rattle.answers.specs.declared.types.Call.{Call}
use Rattle.answers.specs.declared.types.Answer.{Answer}
use Rattle.monitor.specs.Live.{states_of, ground_of}
use Rattle.monitor.specs.Whole.{RecordLabelled, AnsweredIfEnough, Agrees}
use Rattle.runs.specs.Runs.{Enough}
use Rattle.runs.specs.declared.run.Outcome.{Outcome}

module _ {R : Type 0} {G : growing.Ghosts R} {D : readable.Ghosts R} where
  -- the record of the monitor is labelled, or that is declined
  abbrev pub EndsLabelled : {K : Type 0} → (K → Reading) → (reach : ℕ) → List Call → List (Result Answer Refusal) → (old oldWork : List K) → Outcome R G D → (new newWork : List K) → Type 0
  EndsLabelled reads reach calls answers old oldWork o new newWork =
      Enough calls answers → RecordLabelled reads reach o.monitor old oldWork o.labelled new newWork

  -- over a record that started with states, as the record `log` did, it is declined as over a foreign record
  abbrev pub EndsDeclined : R → List Call → List (Result Answer Refusal) → Outcome R G D → Type 0
  EndsDeclined log calls answers o = 0 < length (D.states log) → Enough calls answers → o.labelled ≡ Err refusal.ForeignRecord

  -- it is answered, if kind and memory suffice
  abbrev pub EndsAnswered : {K : Type 0} → (reach : ℕ) → List Call → List (Result Answer Refusal) → (labels work : List K) → Outcome R G D → Type 0
  EndsAnswered reach calls answers labels work o = Enough calls answers → AnsweredIfEnough reach o.monitor labels work o.labelled

  -- and then its labels are those of the monitor's answers
  abbrev pub EndsAgreeing : {K : Type 0} → (K → Reading) → List Call → List (Result Answer Refusal) → Outcome R G D → (labels : List K) → Type 0
  EndsAgreeing reads calls answers o labels =
      Enough calls answers → is_ok o.labelled ≡ true → Agrees reads (ground_of o.monitor) (states_of o.monitor) labels
