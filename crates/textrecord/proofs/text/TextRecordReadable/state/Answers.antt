use Rattle.std.proofs.Common.{◌≡◌, ℕ, zero, suc, ◌-◌, ◌≤◌, List, Option, Some, None, MatchOption, SomeIff, slice_get, ap, ◌∙◌, arith, rules}
use Rattle.std.specs.Option.{unwrap_or}
use Rattle.std.proofs.lemmas.Option.{unwrap_or-slice_get}
use Rattle.logic.specs.declared.types.State.{State}
use Rattle.logic.specs.States.{blank, state_at}
use Rattle.textrecord.specs.Listed.{states_of}
use Rattle.textrecord.proofs.text.TextRecordReadable.state.Goals as goal

stated : (xs : List State) (i : ℕ) (o : Option ℕ) (q : Option State) → (P : ℕ → Type 0) → ((k : ℕ) → P k → q ≡ slice_get xs k) → SomeIff o (1 ≤ i) (i - 1) → MatchOption o (q ≡ None) P → unwrap_or q blank ≡ state_at xs i
stated xs zero None q P f h e = ap (λ z. unwrap_or z blank) e
stated xs (suc i) None q P f h e = absurd (h (omega arith))
stated xs i (Some k) q P f h e =
    let n : suc k ≡ i = grind (arith, h.0, h.1) in
    ap (λ z. unwrap_or z blank) (f k e) ∙ unwrap_or-slice_get xs k blank ∙ ap (state_at xs) n

pub returns : goal.returns
returns c =
    c.unwrap_or.ensures ∙ stated (states_of c.args.self.now.text.now) c.args.i c.checked_sub.result c.and_then.result _ (λ k p. search rules) c.checked_sub.ensures c.and_then.ensures
