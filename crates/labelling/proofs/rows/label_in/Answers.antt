use Rattle.std.proofs.Common.{◌≡◌, ℕ, ◌-◌, ◌≤◌, List, length, get_or, Option, None, Some, IfSome, MatchOption, rules, sym, ap, ◌∙◌, arith}
use Rattle.labels.specs.Readings.{Reading, Same, opened}
use Rattle.labelling.specs.Rows.{at}
use Rattle.labelling.proofs.Cells.{cell_read}
use Rattle.labelling.proofs.rows.label_in.Goals as goal

read_in : {K : Type 0} (reads : K → Reading) (reach : ℕ) (row : List K) (state : Option ℕ) (unknown x : K) → Same reach (reads unknown) opened → IfSome state (λ i. (1 ≤ i) × (i ≤ length row))
    → MatchOption state (x ≡ unknown) (λ i. x ≡ get_or row (i - 1) x) → MatchOption state (Same reach (reads x) opened) (λ i. Same reach (reads x) (at reads row i))
read_in reads reach row None unknown x none within is = λ e k lo hi. ap (λ z. reads z e k) is ∙ none e k lo hi
read_in reads reach row (Some i) unknown x none within is = λ e k lo hi. sym (cell_read reads row (i - 1) x (omega (arith, within.0, within.1)) is e k)

pub returns : goal.returns
returns g c = read_in g.K.LabelKind.reads g.K.LabelKind.reach c.args.row.now c.args.state c.unknown.result c.map_or.result c.unknown.ensures c.requires (search rules)
