use Rattle.std.proofs.Common.{◌≡◌, suc, get_or, ap, ◌+◌, min, true, ◌⊎◌, Decides, ◌∙◌, subst, arith}
use Rattle.std.proofs.lemmas.Bool.{cond-true, cond-false, lt-ltb, le-ltb}
use Rattle.logic.specs.declared.types.State.{State}
use Rattle.logic.specs.States.{blank, state_at}
use Rattle.logic.specs.Logic.{Reads, some'}
use Rattle.logic.specs.Tables.{tree}
use Rattle.labelling.specs.Bound.{Through}
use Rattle.labelling.proofs.Decisions.{decided_more}
use Rattle.labelling.proofs.Tellings.{tells_decided}
use Rattle.labelling.proofs.Bounds.{some_decides}
use Rattle.labelling.proofs.job.Binder.label_some.Goals as goal

pub loop-p-preserved : goal.loop-p-preserved
loop-p-preserved g c =
    let reads = g.K.LabelKind.reads in
    let b = c.args.self.now in
    let job = b.job.now in
    let n = job.n in
    let s = state_at job.states.now in
    let φ = tree job.table.now b.part in
    let p = c.loop-p.p in
    let kind = c.args.kind in
    let next : suc p ≡ p + 1 = omega arith in
    let is : get_or job.states.now p blank ≡ s (p + 1) = ap s next in
    let none = c.false_from-none.result in
    let one = c.label_through-one.result in
    let two = c.label_through.result in (
      c.label_through.ensures.known,
      decided_more reads g.K.LabelKind.reach (λ i e k. Reads e s (min k n) 0 i (some' kind φ)) c.loop-p.own p two (omega arith)
          (λ e k lo hi.
          let is_none = c.false_from-none.ensures e k lo hi in
          some_decides s φ kind (p + 1) c.requires.kind e (min k n) (reads none e k) (reads one e k) (reads two e k)
          (λ w. is_none ∙ cond-true _ _ _ (lt-ltb k (p + 1) (omega arith)))
          (λ w. is_none ∙ cond-false _ _ _ (le-ltb k (p + 1) (omega arith)))
          (subst (λ (q : State). Decides (reads one e k) ((reads none e k ≡ true) ⊎ Through s φ kind q.first (p + 1) e (min k n))) is (c.label_through-one.ensures.told e k lo hi))
          (subst (λ (q : State). Decides (reads two e k) ((reads one e k ≡ true) ⊎ Through s φ kind q.second (p + 1) e (min k n))) is (c.label_through.ensures.told e k lo hi)))
          c.loop-p.invariant.1,
    )

pub returns : goal.returns
returns g c =
    let b = c.args.self.now in
    let job = b.job.now in
    let s = state_at job.states.now in
    record {
      known = c.loop-p.invariant.0;
      told = λ v.
          tells_decided g.K.LabelKind.reads g.K.LabelKind.reach job.n s v c.loop-p.own (omega arith) (some' c.args.kind (tree job.table.now b.part))
          (λ i e k pos le. c.loop-p.invariant.1 i e k pos (omega arith));
    }
