-- States that are appended to a record one by one. Assumes nothing.
use Rattle.std.proofs.Common.{◌≡◌, ℕ, ◌≤◌, List, [], ◌∷◌, ◌++◌, length, Ok, Err, Result, append_assoc, length-append, sym, ap, ◌∙◌, arith}
use Rattle.records.specs.Growth.{Appended}

pub gathered : {X U E : Type 0} (xs ys left later all : List X) (x : X) (room : ℕ) (r : Result U E) → length all ≤ room
    → xs ++ left ≡ all → left ≡ x ∷ later → Appended xs room x r ys → ys ++ later ≡ all
gathered xs ys left later all x room (Ok u) few is next a =
    ap (λ z. z ++ later) a.1 ∙ append_assoc xs (x ∷ []) later ∙ ap (λ z. xs ++ z) (sym next) ∙ is
gathered xs ys left later all x room (Err e) few is next a =
    absurd (omega (arith, ap length is, ap length next, length-append xs left, a.0))
