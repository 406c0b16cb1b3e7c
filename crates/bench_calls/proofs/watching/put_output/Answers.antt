use Rattle.std.proofs.Common.{◌≡◌, ℕ, ◌<◌, ◌≤◌, List, length, Some, None, Option, MatchOption, ◌∙◌}
use Rattle.std.specs.Option.{unwrap_or}
use Rattle.bench_calls.specs.Memory.{over}
use Rattle.bench_calls.specs.Watching.{Left, written, no_room}
use Rattle.bench_calls.proofs.watching.put_output.Goals as goal

-- bytes that are put, or not
left : (bytes old new : List ℕ) (put : Option ℕ) (n : ℕ)
    → MatchOption put ((length old < length bytes) × (new ≡ old)) (λ m. (length bytes ≤ length old) × (m ≡ length bytes) × (new ≡ over bytes old))
    → n ≡ unwrap_or put 18446744073709551615 → Left bytes old n new
left bytes old new None n p is = no_room p.0 is p.1
left bytes old new (Some m) n p is = written p.0 (is ∙ p.1) p.2

pub returns : goal.returns
returns c = left c.args.bytes.now c.args.output.now c.put.new.memory c.put.result c.unwrap_or.result c.put.ensures c.unwrap_or.ensures
