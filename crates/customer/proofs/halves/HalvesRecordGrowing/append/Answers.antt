use Rattle.std.proofs.Common.{◌≡◌, ℕ, ◌+◌, ◌-◌, ◌<◌, ◌≤◌, List, [], ◌∷◌, ◌++◌, length, take, set, sym, ap, ◌∙◌, arith, length-append}
use Rattle.std.proofs.lemmas.List.{take_more_set, set-append_left, set-append_right, length-take-le}
use Rattle.logic.specs.declared.types.State.{State}
use Rattle.customer.proofs.halves.HalvesRecordGrowing.append.Goals as goal
use Rattle.customer.proofs.halves.HalvesRecordGrowing.append.Goals.{then-self-lt-HALF, else-self-lt-HALF}

module _ (a b : List State) (n : ℕ) (x : State) (front : length a ≡ 8) (back : length b ≡ 8) (room : n < 16) where
  long : n < length (a ++ b)
  long = omega (arith, length-append a b)

  held : length (take n (a ++ b)) < 16
  held = let h : n ≤ length (a ++ b) = omega (arith, long) in omega (arith, length-take-le n (a ++ b) h)

  in_front : n < 8 → take (n + 1) (set a n x ++ b) ≡ take n (a ++ b) ++ x ∷ []
  in_front h = let k : n < length a = omega arith in ap (take (n + 1)) (sym (set-append_left a b n x k)) ∙ take_more_set (a ++ b) n x long

  in_back : 8 ≤ n → take (n + 1) (a ++ set b (n - 8) x) ≡ take n (a ++ b) ++ x ∷ []
  in_back h = ap (take (n + 1)) (sym (set-append_right a b 8 n x front h)) ∙ take_more_set (a ++ b) n x long

pub returns-clause-appended : goal.returns-clause-appended
returns-clause-appended c =
    let s = c.args.self.now in
    let room : s.count < 16 = omega arith in (
      held s.front s.back s.count c.args.state s.first s.second room,
      elim c.if-self-lt-HALF.branch [
        | then-self-lt-HALF w ↦ rw w.self-is (in_front s.front s.back s.count c.args.state s.first s.second room (omega arith))
        | else-self-lt-HALF w ↦ rw w.self-is (in_back s.front s.back s.count c.args.state s.first s.second room (omega arith))
      ],
    )
