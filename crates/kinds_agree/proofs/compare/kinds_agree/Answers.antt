use Rattle.std.proofs.Common.{ap, ◌∙◌, arith}
use Rattle.std.proofs.lemmas.List.{get_or-replicate}
use Rattle.labels.specs.Dated.{dated}
use Rattle.strips.specs.Masks.{strip}
use Rattle.kinds_agree.proofs.Agreeing.{cells_same}
use Rattle.kinds_agree.proofs.compare.kinds_agree.Goals as goal

pub returns-then-in_strips-clause-told : goal.returns-then-in_strips-clause-told
returns-then-in_strips-clause-told c = λ agreed.
    let both = c.if-in_strips.true in
    record {
      dates = c.is_labelled-in_dates.new.labels;
      strips = c.is_labelled-in_strips.new.labels;
      in_dates = (c.is_labelled-in_dates.ensures.told both.0).labels;
      in_strips = (c.is_labelled-in_strips.ensures.told both.1).labels;
      same = c.same_labels.ensures.told (omega arith) (omega arith) agreed;
    }

pub returns-then-in_strips-clause-exact : goal.returns-then-in_strips-clause-exact
returns-then-in_strips-clause-exact c =
    let both = c.if-in_strips.true in
    let in_dates = c.is_labelled-in_dates.ensures.told both.0 in
    let in_strips = c.is_labelled-in_strips.ensures.told both.1 in (
      (λ agreed. (in_strips.short, in_strips.roomy, in_strips.lawful)),
      (λ able.
          c.same_labels.ensures.found (omega arith) (omega arith) (
            grind arith,
            cells_same _ _ 256 64 (omega arith) (omega arith) _ _ _ _ _ _ _ _ _ _ in_dates in_strips
                (λ k d less e p lo hi. ap (λ x. dated x.value e p) (get_or-replicate 96 k c.unknown-dated.result d less) ∙ c.unknown-dated.ensures e p lo hi)
                (λ k d less e p lo hi. ap (λ x. strip x.weak x.strong e p) (get_or-replicate 96 k c.unknown-strips.result d less) ∙ c.unknown-strips.ensures e p lo hi)
                _ (grind arith) (grind arith),
          )),
    )
