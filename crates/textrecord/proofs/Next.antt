use Rattle.std.proofs.Common.{◌≡◌, ℕ, zero, suc, ◌+◌, ◌-◌, ◌≤◌, true, false, List, [], ◌∷◌, length, drop, ap, ◌∙◌, ⊎_elim, arith, refl, subst, Result, Ok, Err, Some, None, Option, option_map}
use Rattle.std.specs.Result.{result_ok}
use Rattle.std.proofs.lemmas.Bool.{cases_Bool, cond-true, cond-false}
use Rattle.logic.specs.declared.types.State.{State}
use Rattle.faults.specs.declared.line.LineFault.{LineFault}
use Rattle.fields.specs.declared.lines.Taken.{Taken}
use Rattle.fields.specs.Kinds.{Refuses}
use Rattle.traces.specs.Traces.{trace_kind}
use Rattle.traces.specs.Meanings.{StateTaken, Reads}
use Rattle.traces.proofs.Unique.{passing, fit_or_refused}
use Rattle.textrecord.specs.Listed.{before, state_in, passes, states_from}
use Rattle.textrecord.proofs.Passing.{Seen, seen, tested}

-- a line that is taken shows the first of the states
pub first_left : (count : ℕ) (text : List ℕ) (q : State) (used : ℕ) → StateTaken text count q used
    → states_from (256 - count) count text ≡ q ∷ states_from (256 - (count + 1)) (count + 1) (drop used text)
unfolding states_from
first_left count text q used t =
    let s : Seen count q text (drop used text) = seen count q text (drop used text) (passing text count q used t) in
    let e : 256 - count ≡ suc (256 - (count + 1)) = omega (arith, t.takes.fits.ranged.next, t.takes.fits.ranged.state) in
    ap (λ z. states_from z count text) e ∙ cond-true (passes count text) _ _ s.test
    ∙ ap (λ z. z ∷ states_from (256 - (count + 1)) (count + 1) (drop (length (before 10 text) + 1) text)) s.state
    ∙ ap (λ z. q ∷ states_from (256 - (count + 1)) (count + 1) z) s.after

none_from : (room count : ℕ) (text : List ℕ) → (passes count text ≡ true → ⊥) → states_from room count text ≡ []
unfolding states_from
none_from zero count text n = refl
none_from (suc room) count text n =
    ⊎_elim (λ (e : passes count text ≡ true). absurd (n e)) (λ (e : passes count text ≡ false). cond-false (passes count text) _ _ e) (cases_Bool (passes count text))

-- after a line that is refused there is none
pub none_left : (count : ℕ) (text : List ℕ) (e : LineFault) → Refuses (trace_kind count) text 1 e → states_from (256 - count) count text ≡ []
none_left count text e r =
    none_from (256 - count) count text (λ h. fit_or_refused count (state_in (before 10 text)) text _ e (tested count text h) r)

-- the same of what a text is read as
pub taken_next : (count : ℕ) (text : List ℕ) (r : Result (Taken State) LineFault) (a : Taken State) → Reads text count r → Some a ≡ result_ok r → StateTaken text count a.value a.used
taken_next count text (Ok b) a h e = let g : b ≡ a = cc in subst (λ z. StateTaken text count z.value z.used) g h
taken_next count text (Err f) a h e = let n : ⊥ = cc in absurd n

pub none_next : (count : ℕ) (text : List ℕ) (r : Result (Taken State) LineFault) → Reads text count r → None ≡ result_ok r → states_from (256 - count) count text ≡ []
none_next count text (Ok b) h e = let n : ⊥ = cc in absurd n
none_next count text (Err f) h e = none_left count text f h

pub few : (room count : ℕ) (text : List ℕ) → length (states_from room count text) ≤ room
unfolding states_from
few zero count text = omega arith
few (suc room) count text =
    ⊎_elim
    (λ (e : passes count text ≡ true). omega (arith, few room (count + 1) (drop (length (before 10 text) + 1) text), ap length (cond-true (passes count text) (state_in (before 10 text) ∷ states_from room (count + 1) (drop (length (before 10 text) + 1) text)) [] e)))
    (λ (e : passes count text ≡ false). omega (arith, ap length (cond-false (passes count text) (state_in (before 10 text) ∷ states_from room (count + 1) (drop (length (before 10 text) + 1) text)) [] e)))
    (cases_Bool (passes count text))

pub same_option : {A : Type 0} (o : Option A) → option_map (λ x. x) o ≡ o
same_option (Some x) = refl
same_option None = refl
