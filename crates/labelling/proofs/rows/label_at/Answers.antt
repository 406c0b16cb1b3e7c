use Rattle.std.proofs.Common.{◌≡◌, ℕ, ◌<◌, ◌≤◌, Bor, List, length, Option, None, Some, MatchOption, rules, sym, ap, ◌∙◌}
use Rattle.std.specs.List.{HoldsAt}
use Rattle.labels.specs.Readings.{Reading, Same, opened}
use Rattle.labelling.specs.Rows.{cell}
use Rattle.labelling.proofs.Cells.{cell_read, cell_past}
use Rattle.labelling.proofs.rows.label_at.Goals as goal

read_by : {K : Type 0} (reads : K → Reading) (reach : ℕ) (row : List K) (p : ℕ) (there : Option (Bor K)) (unknown x : K) → Same reach (reads unknown) opened
    → MatchOption there (length row ≤ p) (λ y. (p < length row) × HoldsAt (λ z. y.now ≡ z) row p) → MatchOption there (x ≡ unknown) (λ y. x ≡ y.now) → Same reach (reads x) (cell reads row p)
read_by reads reach row p None unknown x none past is e k lo hi = ap (λ z. reads z e k) is ∙ none e k lo hi ∙ sym (cell_past reads row p e k past)
read_by reads reach row p (Some y) unknown x none here is e k lo hi = sym (cell_read reads row p x here.0 (is ∙ here.1 x) e k)

pub returns : goal.returns
returns g c =
    read_by g.K.LabelKind.reads g.K.LabelKind.reach c.args.row.now c.args.p c.get.result c.unknown.result c.unwrap_or.result c.unknown.ensures c.get.ensures.lookup.3 (search rules)
