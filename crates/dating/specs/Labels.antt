-- The label of a formula at a state, as a dated number, by a rule for each operator.
use Rattle.std.specs.Prelude.{ℕ, zero, suc, ◌-◌, ◌/◌, ◌%◌, ◌^◌, Bool, cond, ◌&&◌, ◌||◌, ℤ, pos, neg_ℤ, ◌==◌, nat_lt}
use Rattle.std.specs.Int.{int_max, int_min}
use Rattle.logic.specs.declared.types.Reference.{Reference}
use Rattle.logic.specs.declared.types.State.{State}
use Rattle.logic.specs.States.{Trace}
use Rattle.logic.specs.Logic.{Tree, true', signal, nominal, not', and', or', next, previous, until, since, at', variable, reference, bind, some'}
use Rattle.dating.specs.Dated.{true_from, false_from, seen}

-- ── What a state shows, as a test ──
abbrev pub shows : State → ℕ → Bool
shows q b = q.signals / 2 ^ b % 2 == 1

abbrev pub carries : State → ℕ → Bool
carries q a = nat_lt 0 a && q.nominal == a

abbrev pub is_kind : ℕ → Reference → Bool
is_kind a l = nat_lt 0 a && l.kind == a

abbrev pub refers : State → (a t : ℕ) → Bool
refers q a t = is_kind a q.first && q.first.target == t || is_kind a q.second && q.second.target == t

-- decided at state i, as soon as the state is there
abbrev pub at_once : ℕ → Bool → ℤ
at_once i b = cond b (true_from i) (false_from i)

-- `until` over the m states from i on, where A and B are the labels of its parts; past the last state it is unknown
unfoldable pub until_from : (A B : ℕ → ℤ) → (m i : ℕ) → ℤ
until_from A B zero i = pos 0
until_from A B (suc m) i = int_max (B i) (int_min (A i) (until_from A B m (suc i)))

-- `since` up to state i
unfoldable pub since_to : (A B : ℕ → ℤ) → ℕ → ℤ
since_to A B zero = pos 0
since_to A B (suc zero) = B 1
since_to A B (suc (suc j)) = int_max (B (suc (suc j))) (int_min (A (suc (suc j))) (seen (suc (suc j)) (since_to A B (suc j))))

-- B at the state that carries nominal a, among the first m; unknown if there is none
unfoldable pub at_nominal : Trace → (a : ℕ) → (B : ℕ → ℤ) → (m : ℕ) → ℤ
at_nominal s a B zero = pos 0
at_nominal s a B (suc m) = cond (carries (s (suc m)) a) (B (suc m)) (at_nominal s a B m)

-- The label of a formula at state i of n, with the variable bound to state v. In `some`, `falseFrom i` is the least label
-- that state i has, so that a reference of another kind does not count.
unfoldable pub label : Trace → (n v i : ℕ) → Tree → ℤ
label s n v i true' = true_from i
label s n v i (signal b) = at_once i (shows (s i) b)
label s n v i (nominal a) = at_once i (carries (s i) a)
label s n v i (not' f) = neg_ℤ (label s n v i f)
label s n v i (and' f g) = int_min (label s n v i f) (label s n v i g)
label s n v i (or' f g) = int_max (label s n v i f) (label s n v i g)
label s n v i (next f) = cond (nat_lt i n) (label s n v (suc i) f) (pos 0)
label s n v i (previous f) = cond (nat_lt 1 i) (seen i (label s n v (i - 1) f)) (false_from i)
label s n v i (until f g) = until_from (λ j. label s n v j f) (λ j. label s n v j g) (suc n - i) i
label s n v i (since f g) = since_to (λ j. label s n v j f) (λ j. label s n v j g) i
label s n v i (at' a f) = at_nominal s a (λ t. seen i (label s n v t f)) n
label s n v i variable = at_once i (i == v)
label s n v i (reference a) = at_once i (refers (s i) a v)
label s n v i (bind f) = label s n i i f
label s n v i (some' a f) =
    int_max (cond (is_kind a (s i).first) (label s n (s i).first.target i f) (false_from i))
    (cond (is_kind a (s i).second) (label s n (s i).second.target i f) (false_from i))
