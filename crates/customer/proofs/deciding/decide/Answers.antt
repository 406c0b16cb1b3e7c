use Rattle.std.proofs.Common.{◌≡◌, [], length, sym, ap, ap₂, ◌∙◌, arith, rules, Err}
use Rattle.monitor.specs.Book.{ground_on}
use Rattle.monitor.specs.Live.{states_of, ground_of, Own}
use Rattle.customer.specs.Following.{taken_in}
use Rattle.customer.proofs.Decisions.{none_is, decided, unread, not_empty}
use Rattle.customer.proofs.deciding.decide.Goals as goal

pub returns-in_err-table : goal.returns-in_err-table
returns-in_err-table g c =
    let fails : c.from_residual.result ≡ Err c.in_err-table.field-0.0 = search rules in
    unread c.args.text.now (g.R.Growing.room c.args.log) (length (g.R.Readable.states c.args.log)) c.args.states.now c.args.formula c.args.state
    c.in_err-table.field-0.0 c.from_residual.result c.in_err-table.ensures fails

pub returns-then-count-gt0 : goal.returns-then-count-gt0
returns-then-count-gt0 g c =
    not_empty c.args.text.now c.in_ok-table.table (g.R.Growing.room c.args.log) (length (g.R.Readable.states c.args.log)) c.args.states.now c.args.formula c.args.state
    c.in_ok-table.ensures (omega (arith, c.count.ensures, c.if-count-gt0.true))

pub returns : goal.returns
returns g c =
    let t = c.in_ok-table.table in
    let log = c.args.log in
    let room = g.R.Growing.room log in
    let m = c.new-monitor.result in
    let m1 = c.append_all.new.monitor in
    let n = c.new-monitor.ensures in
    let a = c.append_all.ensures in
    let fresh : length (g.R.Readable.states log) ≡ 0 = omega (arith, c.count.ensures, c.if-count-gt0.false) in
    let empty : states_of m ≡ [] = ap (λ l. g.R.Readable.states l) n.1 ∙ none_is (g.R.Readable.states log) fresh in
    let own : Own m = n.2 ∙ sym (ap length empty) in
    let over : ground_of m ≡ ground_on t room = ap₂ ground_on n.0 (ap (λ l. g.R.Growing.room l) n.1) in
    decided c.args.text.now t room (length (g.R.Readable.states log)) c.args.states.now c.args.formula c.args.state (ground_of m1) (states_of m1) c.label_last.result
    fresh c.in_ok-table.ensures (ap₂ ground_on a.table a.room ∙ over)
    (a.states own ∙ ap₂ (λ H ws. taken_in H ws c.args.states.now) over empty) (c.label_last.ensures (a.own own))
