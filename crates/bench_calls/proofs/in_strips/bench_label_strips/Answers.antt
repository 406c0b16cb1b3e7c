use Rattle.std.proofs.Common.{refl, inl, subst}
use Rattle.bench_calls.specs.Labelled.{Unlabelled}
use Rattle.bench_calls.proofs.Masks.{masks_told}
use Rattle.bench_calls.proofs.in_strips.bench_label_strips.Goals as goal

pub returns-in-Ok : goal.returns-in-Ok
returns-in-Ok c =
    masks_told c.args.text.now _ c.args.weak.now c.args.strong.now _ _ c.min-room.result c.in-Ok.counts c.done.result c.in-Ok.ensures c.min-room.ensures c.put_masks.ensures.weak c.put_masks.ensures.strong c.done.ensures

pub returns-in-Err : goal.returns-in-Err
returns-in-Err c = inl (subst (λ n. Unlabelled 64 n c.args.text.now c.in-Err.refused) c.min-room.ensures c.in-Err.ensures, refl, refl)
