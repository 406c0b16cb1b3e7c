use Rattle.std.proofs.Common.{◌≡◌, ℕ, List, drop, Ok, Err, sym, ap, ◌∙◌}
use Rattle.logic.specs.declared.types.State.{State}
use Rattle.faults.specs.declared.line.LineFault.{LineFault}
use Rattle.fields.specs.Kinds.{Refuses}
use Rattle.fields.proofs.Judged as judged
use Rattle.traces.specs.Traces.{trace_kind}
use Rattle.traces.specs.Meanings.{meaning, Passes, StateTaken, OneReading}
use Rattle.traces.proofs.Showing.{one_shown}

pub single : (count : ℕ) → judged.Single (trace_kind count)
single count = one_shown

-- a line that is taken passes
pub passing : (text : List ℕ) (count : ℕ) (x : State) (used : ℕ) → StateTaken text count x used → Passes count x text (drop used text)
passing text count x used t = record { numbers = t.numbers; fits = t.takes.fits; means = t.means }

module _ (count : ℕ) where
  -- a text begins with the line of one state at most
  pub one_state : (x y : State) (text r s : List ℕ) → Passes count x text r → Passes count y text s → (x ≡ y) × (r ≡ s)
  one_state x y text r s a b =
      let d = judged.one_shown (trace_kind count) (single count) text a.numbers b.numbers r s a.fits.shows b.fits.shows in
      (a.means ∙ ap meaning d.0 ∙ sym b.means, d.1)

  pub fit_or_refused : (x : State) (text rest : List ℕ) (e : LineFault) → Passes count x text rest → Refuses (trace_kind count) text 1 e → ⊥
  fit_or_refused x text rest e a r =
      judged.fit_or_refused (trace_kind count) (single count) text a.numbers rest 1 e a.fits.shows a.fits.ranged r

  pub one_refusal : (text : List ℕ) (e f : LineFault) → Refuses (trace_kind count) text 1 e → Refuses (trace_kind count) text 1 f → e ≡ f
  one_refusal text e f x y = judged.one_refusal (trace_kind count) (single count) text 1 e f x y

pub one_reading_lem : OneReading
one_reading_lem text count (Ok a) (Ok b) p q =
    let d = judged.one_taking (trace_kind count) (single count) text p.numbers q.numbers a.used b.used p.takes q.takes in
    ap Ok (judged.same_taken a b (p.means ∙ ap meaning d.0 ∙ sym q.means) d.1)
one_reading_lem text count (Ok a) (Err e) p x = absurd (fit_or_refused count a.value text (drop a.used text) e (passing text count a.value a.used p) x)
one_reading_lem text count (Err e) (Ok b) x q = absurd (fit_or_refused count b.value text (drop b.used text) e (passing text count b.value b.used q) x)
one_reading_lem text count (Err e) (Err f) x y = ap Err (one_refusal count text e f x y)
