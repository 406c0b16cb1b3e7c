-- When a label is asked for: the refusal is the same at every point that may be asked for. Assumes nothing.
use Rattle.std.proofs.Common.{◌≡◌, ℕ, ◌<◌, ◌≤◌, cond, eqb, leb, List, length, Some, None, Err, Option, sym, ap, ◌∙◌, arith}
use Rattle.std.proofs.lemmas.Bool.{eqb-true}
use Rattle.logic.specs.declared.types.State.{State}
use Rattle.refusals.specs.declared.Refusal.{Refusal}
use Rattle.refusals.specs.declared.Refusal.TheVariants as refusal
use Rattle.answers.specs.declared.types.Call.TheVariants.{LabelAt}
use Rattle.answers.specs.Answers.{Ground, outside, or_else, refusal_of, refused_by, outcome}
use Rattle.answers.proofs.Refusing.{no_reason, within, inside, outcome_err}
use Rattle.monitor.proofs.Appending.{none_only}

-- at a point before the last, as at the last
pub same_refusal : (own : ℕ) (G : Ground) (xs : List State) (f i c : ℕ) → i ≤ c → c < length xs
    → refused_by own G xs (LabelAt f i c) ≡ refused_by own G xs (LabelAt f i (length xs))
same_refusal own G xs f i c low high =
    let n = length xs in
    let e : outside c i n ≡ outside n i n = inside c i n low (omega (arith, high)) ∙ sym (inside n i n (omega (arith, low, high)) (omega arith)) in
    ap (λ b. cond (eqb own n) (or_else (leb G.formulas f) refusal.NoSuchName (or_else (G.loose f) refusal.LooseFormula (or_else (outside i 1 n) refusal.NoSuchState (or_else b refusal.NoSuchPoint None)))) (Some refusal.ForeignRecord)) e

-- whatever else would be answered, a refusal is the same
pub same_err : {A B : Type 0} (o : Option Refusal) (v : A) (w : B) (why : Refusal) → Err why ≡ outcome o v → Err why ≡ outcome o w
same_err o v w why e = sym (ap (λ (r : Option Refusal). outcome r w) (outcome_err o v why e))

-- a label that is given is that of a state of the monitor's own record
pub given : (own : ℕ) (G : Ground) (xs : List State) (f i c : ℕ) → refused_by own G xs (LabelAt f i c) ≡ None → (own ≡ length xs) × (1 ≤ i) × (i ≤ length xs)
given own G xs f i c e =
    let o = none_only (eqb own (length xs)) (refusal_of G xs (LabelAt f i c)) e in
    let named = no_reason (leb G.formulas f) refusal.NoSuchName _ o.1 in
    let closed = no_reason (G.loose f) refusal.LooseFormula _ named.1 in
    let state = no_reason (outside i 1 (length xs)) refusal.NoSuchState _ closed.1 in
    let range = within i 1 (length xs) state.0 in
    (eqb-true own (length xs) o.0, range.0, range.1)
