use Rattle.std.proofs.Common.{◌<◌, ◌∙◌, length, ap, arith}
use Rattle.std.proofs.lemmas.Iterator.Consumers.{YieldsList-at}
use Rattle.std.proofs.lemmas.List.Elements.{All-push}
use Rattle.std.specs.Array.Iter.{array_into_iter_items}
use Rattle.logic.proofs.Listings.{parts_yielded, part_given, parts_given}
use Rattle.logic.proofs.Rows.{each_map}
use Rattle.labelling.specs.Bound.{Wanted}
use Rattle.labelling.proofs.Cones.{grown_more, wanted_grown}
use Rattle.labelling.proofs.wants.want_parts.Goals as goal

pub want-requires : goal.want-requires
want-requires c =
    let f = c.flatten-part-items.ensures in
    part_given (λ g. (g < length c.args.flags.now) × (g < length c.loop-part.wanted)) c.args.formula
    (YieldsList-at c.into_iter-part-iterator.ensures.into_iter_gives
    (parts_yielded c.args.formula _ (λ o j h. h.0) c.parts.result c.parts.ensures (ap array_into_iter_items f.source ∙ c.into_iter.ensures.into_iter_gives.0) f.front f.back f.done))
    c.loop-part.yielded _ c.loop-part.yielded_by _ _ c.next.ensures.steps c.in-Some.part c.in-Some.is
    (each_map c.args.formula (λ g. g < c.args.f) (λ g. (g < length c.args.flags.now) × (g < length c.loop-part.wanted)) (λ g w. (omega arith, omega arith)) c.requires.0.1)

pub loop-part-preserved : goal.loop-part-preserved
loop-part-preserved c =
    let f = c.flatten-part-items.ensures in
    let yields = YieldsList-at c.into_iter-part-iterator.ensures.into_iter_gives
    (parts_yielded c.args.formula _ (λ o j h. h.0) c.parts.result c.parts.ensures (ap array_into_iter_items f.source ∙ c.into_iter.ensures.into_iter_gives.0) f.front f.back f.done) in
    let below : c.in-Some.part < c.args.f = part_given (λ g. g < c.args.f) c.args.formula yields c.loop-part.yielded _ c.loop-part.yielded_by _ _ c.next.ensures.steps c.in-Some.part c.in-Some.is c.requires.0.1 in (
      grown_more c.args.f c.in-Some.part c.args.flags.now c.args.wanted.now c.loop-part.wanted c.want.new.wanted below c.loop-part.invariant.0 c.want.ensures.grown,
      All-push (Wanted c.args.flags.now c.want.new.wanted) c.loop-part.yielded c.in-Some.part
          (λ k d less. wanted_grown c.args.flags.now _ c.loop-part.wanted c.want.new.wanted _ c.want.ensures.grown (c.loop-part.invariant.1 k d less)) c.want.ensures.ready,
    )

pub returns-clause-ready : goal.returns-clause-ready
returns-clause-ready c =
    let f = c.flatten-part-items.ensures in
    let yields = YieldsList-at c.into_iter-part-iterator.ensures.into_iter_gives
    (parts_yielded c.args.formula _ (λ o j h. h.0) c.parts.result c.parts.ensures (ap array_into_iter_items f.source ∙ c.into_iter.ensures.into_iter_gives.0) f.front f.back f.done) in
    parts_given (Wanted c.args.flags.now c.loop-part.wanted) c.args.formula yields c.loop-part.yielded _ c.loop-part.yielded_by _ _ c.next.ensures.steps c.in-None.is c.loop-part.invariant.1
