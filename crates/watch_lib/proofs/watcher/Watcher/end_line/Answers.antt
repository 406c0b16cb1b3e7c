use Rattle.std.proofs.Common.{◌≡◌, ◌+◌, ◌*◌, ◌<◌, length, drop, sym, subst, ap₂, arith, rules}
use Rattle.expectations.specs.declared.types.Tally.{Tally}
use Rattle.expectations.specs.Expectations.{no_tally}
use Rattle.monitor.specs.Live.{record_labels, table_rules, states_of}
use Rattle.watch_lib.specs.declared.lines.Line.TheVariants.{End}
use Rattle.watch_lib.specs.Sums.{plus, summed, Few}
use Rattle.watch_lib.proofs.Adding.{few_more, few_sum, none_plus, sum_more, sum_all}
use Rattle.watch_lib.proofs.watcher.Watcher.end_line.Goals as goal

pub plus-tally-requires : goal.plus-tally-requires
plus-tally-requires g c =
    record { few = few_more (256 * c.loop-k.k) 65536 c.loop-k.tally (omega (arith, c.loop-k-test.true, c.args.self.now.few)) c.loop-k.invariant.1; fewer = c.tally_of.ensures.few }

pub loop-k-init : goal.loop-k-init
loop-k-init g c =
    let m = c.args.self.now.monitor in
    let all : Tally = summed (record_labels m) (length (states_of m)) (table_rules m) in
    let zero : c.default-tally.result ≡ no_tally = search rules in
    rw zero (none_plus all, record { raised = omega arith; pending = omega arith; fulfilled = omega arith; violated = omega arith })

pub loop-k-preserved : goal.loop-k-preserved
loop-k-preserved g c =
    let m = c.args.self.now.monitor in
    let n = length (states_of m) in
    let labels = record_labels m in
    let rules = table_rules m in
    let is = c.plus-tally.ensures in
    let k = c.loop-k.k in
    let within : k < length rules = omega (arith, c.loop-k-test.true, c.args.self.now.ruled) in
    let more : 256 * k + 256 ≡ 256 * (k + 1) = omega arith in (
      subst (λ (t : Tally). plus t (summed labels n (drop (k + 1) rules)) ≡ summed labels n rules) (sym is)
          (sum_more labels n rules k c.loop-k.tally c.tally_of.result within c.tally_of.ensures.counts c.loop-k.invariant.0),
      subst (λ (t : Tally). Few (256 * (k + 1)) t) (sym is) (subst (λ n. Few n (plus c.loop-k.tally c.tally_of.result)) more (few_sum (256 * k) c.loop-k.tally c.tally_of.result c.loop-k.invariant.1 c.tally_of.ensures.few)),
    )

pub returns : goal.returns
returns g c =
    let m = c.args.self.now.monitor in
    ap₂ End c.count.ensures (sum_all (record_labels m) (length (states_of m)) (table_rules m) c.loop-k.k c.loop-k.tally (omega (arith, c.loop-k-test.false, c.args.self.now.ruled)) c.loop-k.invariant.0)
