use Rattle.std.proofs.Common.{ℕ, List, Result, Ok, Err, rules}
use Rattle.logic.specs.declared.types.State.{State}
use Rattle.faults.specs.declared.line.LineFault.{LineFault}
use Rattle.fields.specs.declared.lines.Taken.{Taken}
use Rattle.fields.specs.Readers.{ReadsMeaning}
use Rattle.fields.proofs.Judged.{read_meant}
use Rattle.traces.specs.Meanings.{meaning, Reads}
use Rattle.traces.specs.Traces.{trace_kind}
use Rattle.traces.proofs.states.read_state.Goals as goal

reads : (text : List ℕ) (count : ℕ) (r : Result (Taken State) LineFault)
    → ReadsMeaning (trace_kind count) meaning text 1 r → Reads text count r
reads text count (Ok a) (v, t, m) = record { numbers = v; takes = t; means = m }
reads text count (Err e) h = h

pub returns : goal.returns
returns c =
    reads c.args.text.now c.args.count c.read_line.result
    (read_meant (trace_kind c.args.count) _ _ meaning c.args.text.now 1 c.read_line.result c.read_line.ensures
    (λ line v x f r. (v, search rules, search rules))
    (λ line f. search rules)
    (λ line v f r. (v, search rules, search rules, search rules)))
