use Rattle.std.proofs.Common.{◌≡◌, ◌*◌, ◌<◌, ◌≤◌, ◌++◌, length, drop, sym, ap, ◌∙◌, subst, arith, length-take-le}
use Rattle.std.proofs.Math.Seq.{drop-append_seam}
use Rattle.std.proofs.lemmas.List.{get_or_append_left}
use Rattle.logic.specs.States.{state_at}
use Rattle.logic.specs.Lawful.{LawfulTo}
use Rattle.labelling.specs.Whole.{LabelOf, place}
use Rattle.labelling.proofs.Nodes.{row_below}
use Rattle.labelling.proofs.job.Job.label_all.Goals as goal

pub returns : goal.returns
returns g c =
    let reads = g.K.LabelKind.reads in
    let reach = g.K.LabelKind.reach in
    let job = c.args.self.now in
    let xs = job.states.now in
    let table = job.table.now in
    let n = job.n in
    let is = job.count in
    let total = length table * n in
    let same : total ≡ length table * length xs = ap (λ k. length table * k) is in
    let old = c.args.labels.now in
    let oldWork = c.args.work.now in
    let new = c.label_rows.new.cells in
    let newWork = c.label_rows.new.work in
    let out = new ++ drop total old in
    let outWork = newWork ++ drop total oldWork in
    let long : length new ≡ total = c.label_rows.auto.cells ∙ length-take-le total old c.requires.roomy.0 in
    let long-work : length newWork ≡ total = c.label_rows.auto.work ∙ length-take-le total oldWork c.requires.roomy.1 in
    record {
      short = subst (λ k. (k ≤ 256) × (k ≤ reach)) is c.requires.short;
      roomy = subst (λ k. (k ≤ length old) × (k ≤ length oldWork)) same c.requires.roomy;
      lawful = subst (λ k. LawfulTo k (state_at xs)) is job.lawful;
      labels = λ f i less one le d.
          let m = length xs in
          let fits : place m f i < length new = omega (arith, long, same, row_below f (length table) m less, le) in
          subst (LabelOf reads reach table xs f i) (sym (get_or_append_left new (drop total old) d (place m f i) fits)) (c.label_rows.ensures.labels f i less one le d);
      later = subst (λ k. drop k out ≡ drop k old) same (ap (λ k. drop k out) (sym long) ∙ drop-append_seam new (drop total old));
      cleared = λ k d less e j lo hi.
          ap (λ x. reads x e j) (get_or_append_left newWork (drop total oldWork) d k (omega (arith, less, same, long-work)))
          ∙ c.label_rows.ensures.cleared k d (omega (arith, less, same, c.label_rows.auto.work, long-work)) e j lo hi;
      later_work = subst (λ k. drop k outWork ≡ drop k oldWork) same (ap (λ k. drop k outWork) (sym long-work) ∙ drop-append_seam newWork (drop total oldWork));
    }
