use Rattle.std.proofs.Common.{◌≡◌, ◌<◌, ◌≤◌, true, length, sym, subst, ⊎_elim, arith}
use Rattle.std.proofs.lemmas.Bool.{both_ways, cases_eq}
use Rattle.table.specs.Tables.{formulas_of}
use Rattle.kinds_agree.specs.Logs.{numbered}
use Rattle.kinds_agree.specs.Sames.{Labellable, KindsAgreed}
use Rattle.kinds_agree.proofs.Lawful.{numbered_labellable, numbered_long}
use Rattle.kinds_agree.proofs.count_agreeing.Goals.{then-kinds_agree, else-kinds_agree}
use Rattle.kinds_agree.proofs.count_agreeing.Goals as goal

pub loop-k-preserved : goal.loop-k-preserved
loop-k-preserved c =
    let so_far = c.loop-k.invariant in
    let t = c.args.table.now in
    let table = formulas_of t.draft in
    let agrees : length table ≤ 32 → c.kinds_agree.result ≡ true = λ few. c.kinds_agree.ensures.exact.1 (subst (Labellable 64 96 96 t) (sym c.numbered_log.ensures) (numbered_labellable t c.loop-k.k few)) in
    let fits : c.kinds_agree.result ≡ true → 32 < length table → ⊥ = λ so. numbered_long t c.loop-k.k (subst (Labellable 64 96 96 t) c.numbered_log.ensures (c.kinds_agree.ensures.exact.0 so)) in
    elim c.if-kinds_agree.branch [
      | then-kinds_agree w ↦ (
        omega (arith, w.agreed-is, so_far.0),
        (λ same j less.
            ⊎_elim
            (λ (here : j ≡ c.loop-k.k). subst (λ i. KindsAgreed t (numbered i)) (sym here) (subst (KindsAgreed t) c.numbered_log.ensures (c.kinds_agree.ensures.told w.if-kinds_agree.true)))
            (λ other. so_far.1 (omega (arith, w.agreed-is, same)) j (omega (arith, less, other)))
            (cases_eq j c.loop-k.k)),
        (λ few. omega (arith, w.agreed-is, so_far.2 few)),
        (λ many. absurd (fits w.if-kinds_agree.true many)),
      )
      | else-kinds_agree w ↦ (
        omega (arith, w.agreed-is, so_far.0),
        (λ same. absurd (omega (arith, w.agreed-is, so_far.0, same))),
        (λ few. absurd (both_ways c.kinds_agree.result w.if-kinds_agree.false (agrees few))),
        (λ many. omega (arith, w.agreed-is, so_far.3 many)),
      )
    ]
