-- Lists of changes, replayed.
use Rattle.std.proofs.Common.{◌≡◌, ℕ, zero, suc, ◌+◌, ◌-◌, ◌<◌, ◌≤◌, List, [], ◌∷◌, ◌++◌, length, get_or, take, set, sym, refl, ap, ◌∙◌, arith}
use Rattle.std.proofs.lemmas.List.{get_or_past, get_or-take, length-take-le, take_more_set}
use lib.Bits.{bit_xor, xor_assoc, xor_self}
use Rattle.logic.specs.States.{blank, state_at}
use Rattle.logic.specs.declared.types.State.{State}
use Rattle.records.specs.declared.change.Change.{Change}
use Rattle.records.specs.Changed.{signals_shown_after, changed, replayed}

pub replayed_length : (before : ℕ) (cs : List Change) → length (replayed before cs) ≡ length cs
replayed_length before [] = refl
replayed_length before (c ∷ cs) = ap suc (replayed_length (bit_xor before c.differing) cs)

pub replayed_count : (before n : ℕ) (cs : List Change) → n ≤ length cs → length (replayed before (take n cs)) ≡ n
replayed_count before n cs h = replayed_length before (take n cs) ∙ length-take-le n cs h

pub replayed_push : (before : ℕ) (cs : List Change) (c : Change)
    → replayed before (cs ++ c ∷ []) ≡ replayed before cs ++ changed (signals_shown_after before cs) c ∷ []
replayed_push before [] c = refl
replayed_push before (b ∷ cs) c = ap (λ xs. changed before b ∷ xs) (replayed_push (bit_xor before b.differing) cs c)

-- what differs from the signals a, turned in a, gives b
pub xor_back : (a b : ℕ) → bit_xor a (bit_xor a b) ≡ b
xor_back a b = sym (xor_assoc a a b) ∙ ap (λ z. bit_xor z b) (xor_self a)

-- a state in the list carries what its change carries, with the signals after that change
pub replayed_at : (before : ℕ) (cs : List Change) (p : ℕ) (d : Change) → p < length cs
    → get_or (replayed before cs) p blank
    ≡ record { signals = signals_shown_after before (take (suc p) cs); nominal = (get_or cs p d).nominal; first = (get_or cs p d).first; second = (get_or cs p d).second }
replayed_at before [] p d h = absurd (omega arith)
replayed_at before (c ∷ cs) zero d h = refl
replayed_at before (c ∷ cs) (suc p) d h = replayed_at (bit_xor before c.differing) cs p d (omega arith)

-- a state past the end
pub made_past : (cs : List Change) (i : ℕ) → length cs < i → blank ≡ state_at (replayed 0 cs) i
made_past cs zero h = refl
made_past cs (suc p) h = sym (get_or_past (replayed 0 cs) p blank (rw (replayed_length 0 cs) (omega arith)))

-- state i is what the last of the first i changes makes, with the signals after them
pub made_last : (cs made : List Change) (i s : ℕ) (d : Change) → 1 ≤ length made → made ≡ take i cs → i ≤ length cs → s ≡ signals_shown_after 0 made
    → ◌≡◌ {A = State}
    record { signals = s; nominal = (get_or made (length made - 1) d).nominal; first = (get_or made (length made - 1) d).first; second = (get_or made (length made - 1) d).second }
    (state_at (replayed 0 cs) i)
made_last cs made zero s d h e k is = absurd (omega (arith, ap length e))
made_last cs made (suc p) s d h e k is =
    let long : length made ≡ suc p = ap length e ∙ length-take-le (suc p) cs k in
    let place : length made - 1 ≡ p = omega arith in
    let last : get_or made (length made - 1) d ≡ get_or cs p d =
    ap (λ n. get_or made n d) place ∙ ap (λ xs. get_or xs p d) e ∙ get_or-take (suc p) cs p d (omega arith) in
    rw (last, is, e) (sym (replayed_at 0 cs p d (omega arith)))

-- the change from the last signals to those of x makes x
pub made_back : (cs : List Change) (x : State) (s : ℕ) → s ≡ signals_shown_after 0 cs
    → replayed 0 (cs ++ record { differing = bit_xor s x.signals; nominal = x.nominal; first = x.first; second = x.second } ∷ []) ≡ replayed 0 cs ++ x ∷ []
made_back cs x s is =
    rw is (
    replayed_push 0 cs _
    ∙ ap (λ (s : ℕ). replayed 0 cs ++ record { signals = s; nominal = x.nominal; first = x.first; second = x.second } ∷ []) (xor_back (signals_shown_after 0 cs) x.signals)
    )

-- a change that is written after the first n
pub replayed_write : (cs : List Change) (n : ℕ) (c : Change) (x : State) → n < length cs → replayed 0 (take n cs ++ c ∷ []) ≡ replayed 0 (take n cs) ++ x ∷ []
    → replayed 0 (take (n + 1) (set cs n c)) ≡ replayed 0 (take n cs) ++ x ∷ []
replayed_write cs n c x h is = ap (replayed 0) (take_more_set cs n c h) ∙ is
