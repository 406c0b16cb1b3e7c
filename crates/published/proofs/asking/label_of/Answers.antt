use Rattle.std.proofs.Common.{◌≡◌, List, Ok, ap, ◌∙◌, arith, rules}
use Rattle.logic.specs.declared.types.State.{State}
use Rattle.expectations.specs.declared.types.Label.{Label}
use Rattle.expectations.specs.declared.types.Verdict.TheVariants as is
use Rattle.answers.specs.Answers.{Ground}
use Rattle.monitor.specs.Book.{ground_in, formulas_in}
use Rattle.monitor.specs.declared.live.Monitor.{Monitor}
use Rattle.published.proofs.Labels.{at_last, at_first}
use Rattle.published.proofs.asking.label_of.Given as given
use Rattle.published.proofs.asking.label_of.Goals as goal

abbrev M : given.Over → Type 0
M g = Monitor g.row.R.Denot g.R.Growing g.R.Readable

abbrev on : (g : given.Over) → M g → Ground
on g m = ground_in m.book (g.R.Growing.room m.log)

abbrev over : (g : given.Over) → M g → List State
over g m = g.R.Readable.states m.log

pub returns-then-ne : goal.returns-then-ne
returns-then-ne g c =
    let m = c.args.monitor.now in
    let known : c.in_ok-verdict.verdict ≡ is.Unknown → ⊥ = λ e. grind (rules, e) in
    ap (λ (l : Label). Ok l) c.dated.ensures
    ∙ at_first m.book.count (on g m) (formulas_in m.book) (over g m) c.args.formula c.args.state c.loop-point.point c.in_ok-verdict.verdict
    m.book.short c.loop-point.invariant.0 (omega (arith, c.count-last.ensures, c.loop-point-test.true)) c.in_ok-verdict.ensures.is known c.loop-point.invariant.1

pub returns : goal.returns
returns g c =
    let m = c.args.monitor.now in
    ap (λ (l : Label). Ok l) c.dated-2.ensures
    ∙ at_last m.book.count (on g m) (formulas_in m.book) (over g m) c.args.formula c.args.state c.count-last.result c.loop-point.point c.in_ok-label.field-0
    m.book.short c.count-last.ensures c.loop-point-test.false c.in_ok-label.ensures.is c.loop-point.invariant.1
