use Rattle.std.proofs.Common.{◌≡◌, ◌+◌, ◌<◌, ◌≤◌, length, drop, sym, ap, ◌∙◌, subst, arith, length-append, length-take, length-take-le, List, ℕ, Bool, true, false, get_or, take}
use Rattle.std.proofs.lemmas.List.{get_or-take}
use Rattle.logic.specs.States.{state_at}
use Rattle.logic.specs.Tables.{tree}
use Rattle.labelling.specs.Rows.{row}
use Rattle.labelling.specs.Tells.{Tells}
use Rattle.labelling.proofs.Nodes.{row_below}
use Rattle.labelling.proofs.Places.{row_front, row_own, other_row}
use Rattle.labelling.proofs.Bounds.{ToldTo, told_start, told_skip, told_turn, parts_told, unbound}
use Rattle.labelling.proofs.job.Binder.label_bound.Goals as goal
use Rattle.labelling.proofs.job.Binder.label_bound.Goals.{then-wanted, else-wanted}

below : (f k : ℕ) (wanted : List Bool) → k < length (take f wanted) → k < f
below f k wanted h = omega (arith, h, length-take f wanted)

-- whether a formula below f is wanted, read among the first f
among : (f k : ℕ) (wanted : List Bool) (b : Bool) → k < length (take f wanted) → get_or (take f wanted) k false ≡ b → get_or wanted k false ≡ b
among f k wanted b h is = sym (get_or-take f wanted k false (below f k wanted h)) ∙ is

pub loop-g-init : goal.loop-g-init
loop-g-init g c = let b = c.args.self.now in told_start _ _ _ _ _ b.wanted c.args.v b.f c.args.before.now c.requires.known

pub label_row-requires-clause-fit : goal.label_row-requires-clause-fit
label_row-requires-clause-fit g c =
    let b = c.args.self.now in
    let job = b.job.now in
    let k = c.loop-g.g in
    let less : k < b.f = below b.f k b.wanted c.loop-g-test.true in
    let within : k < length job.table.now = omega (arith, b.within, less) in
    (within, unbound g.K.LabelKind.reads g.K.LabelKind.reach job.n (state_at job.states.now) job.table.now k job.orderly within (b.cone k less (among b.f k b.wanted true c.loop-g-test.true c.if-wanted.true)).0)

pub label_row-requires-clause-parts : goal.label_row-requires-clause-parts
label_row-requires-clause-parts g c =
    let b = c.args.self.now in
    let job = b.job.now in
    let k = c.loop-g.g in
    let less : k < b.f = below b.f k b.wanted c.loop-g-test.true in
    let within : k < length job.table.now = omega (arith, b.within, less) in
    let low = c.split_at_mut-low.result.0.now in
    let rest = c.split_at_mut-low.result.1.now in
    parts_told g.K.LabelKind.reads g.K.LabelKind.reach job.n (state_at job.states.now) job.table.now b.wanted c.args.v b.f c.loop-g.before low k job.orderly within less
    (λ j less. ap (row job.n j) c.split_at_mut-low.ensures.value ∙ row_front job.n j low rest (omega (arith, c.split_at_mut-low.ensures.front_len, row_below j k job.n less)))
    (b.cone k less (among b.f k b.wanted true c.loop-g-test.true c.if-wanted.true)).1 c.loop-g.invariant

pub loop-g-preserved : goal.loop-g-preserved
loop-g-preserved g c =
    let b = c.args.self.now in
    let job = b.job.now in
    let reads = g.K.LabelKind.reads in
    let reach = g.K.LabelKind.reach in
    let s = state_at job.states.now in
    let k = c.loop-g.g in
    let less : k < b.f = below b.f k b.wanted c.loop-g-test.true in
    elim c.if-wanted.branch [
      | then-wanted w ↦
          let low = w.split_at_mut-low.result.0.now in
          let rest = w.split_at_mut-low.result.1.now in
          let own = w.label_row.new.own in
          let at = w.split_at_mut-low.ensures.front_len in
          let room : job.n ≤ length rest = omega (arith, ap length w.split_at_mut-low.ensures.value, length-append low rest, at, row_below k b.f job.n less, c.requires.room, c.loop-g.auto.before) in
          let long : length own ≡ job.n = w.label_row.auto.own ∙ length-take-le job.n rest room in
          told_turn reads reach job.n s job.table.now b.wanted c.args.v b.f c.loop-g.before c.if-wanted.before k
          (λ j less ne. ap (row job.n j) w.before-is ∙ other_row job.n k low own rest at long j ne ∙ sym (ap (row job.n j) w.split_at_mut-low.ensures.value))
          (subst (Tells reads reach job.n s c.args.v (tree job.table.now k)) (sym (ap (row job.n k) w.before-is ∙ row_own job.n k low own rest at long (drop job.n rest))) w.label_row.ensures.told)
          c.loop-g.invariant
      | else-wanted w ↦
          subst (λ zs. ToldTo reads reach job.n s job.table.now b.wanted c.args.v zs b.f (k + 1)) (sym w.before-is)
          (told_skip reads reach job.n s job.table.now b.wanted c.args.v b.f c.loop-g.before k (among b.f k b.wanted false c.loop-g-test.true w.if-wanted.false) c.loop-g.invariant)
    ]
