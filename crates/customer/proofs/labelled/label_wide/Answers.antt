use Rattle.std.proofs.Common.{◌≡◌, ℕ, true, false, is_ok, List, Ok, Err, Result}
use Rattle.logic.specs.declared.types.State.{State}
use Rattle.refusals.specs.declared.Refusal.{Refusal}
use Rattle.table.specs.declared.finished.Table.{Table}
use Rattle.customer.specs.declared.wide.Wide.{Wide}
use Rattle.customer.specs.Labelled.{WideAnswered, EachMeans}
use Rattle.customer.proofs.labelled.label_wide.Goals as goal

not_both : false ≡ true → ⊥
not_both e = cc

each : (t : Table) (xs : List State) (old oldWork : List Wide) (r : Result ℕ Refusal) (new newWork : List Wide) →
    WideAnswered t xs old oldWork r new newWork → is_ok r ≡ true → EachMeans t xs new
each t xs old oldWork (Ok n) new newWork h e = λ f i x v lt closed one le. (h.1.labels f i lt one le x).0 closed v
each t xs old oldWork (Err why) new newWork h e = absurd (not_both e)

pub returns-clause-means : goal.returns-clause-means
returns-clause-means g c ok =
    each c.args.table.now (g.R.Readable.states c.args.log.now) c.args.labels.now c.args.work.now c.label_whole.result c.label_whole.new.labels
    c.label_whole.new.work c.label_whole.ensures ok
