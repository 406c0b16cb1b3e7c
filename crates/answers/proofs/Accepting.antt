-- The states that a monitor accepts: lawful, and at most 256.
use Rattle.std.proofs.Common.{◌≡◌, ◌≤◌, List, [], ◌∷◌, ◌++◌, length, Some, None, Option, refl, arith}
use Rattle.std.proofs.lemmas.List.{length_push}
use Rattle.logic.specs.declared.types.State.{State}
use Rattle.logic.specs.Lawful.{LawfulRecord}
use Rattle.refusals.specs.declared.Refusal.{Refusal}
use Rattle.answers.specs.declared.types.Call.{Call}
use Rattle.answers.specs.declared.types.Call.TheVariants.{Append, LabelAt, StandingAt, TallyOf, NoticeOf}
use Rattle.answers.specs.Answers.{Ground, refusal_of, grown_by, after, accepted}
use Rattle.answers.proofs.Tested.{takes_fit, takes_lawful}

-- what holds of the states, and holds after an append that is taken, holds after one that may be refused
pub grown_keeps : (P : List State → Type 0) (why : Option Refusal) (xs : List State) (x : State) → P xs → (why ≡ None → P (xs ++ x ∷ [])) → P (grown_by why xs x)
grown_keeps P (Some r) xs x old new = old
grown_keeps P None xs x old new = new refl

pub lawful_after : (G : Ground) (xs : List State) (call : Call) → LawfulRecord xs → LawfulRecord (after G xs call)
lawful_after G xs (Append x) law = grown_keeps LawfulRecord (refusal_of G xs (Append x)) xs x law (takes_lawful G xs x law)
lawful_after G xs (LabelAt f i c) law = law
lawful_after G xs (StandingAt r i c) law = law
lawful_after G xs (TallyOf r) law = law
lawful_after G xs (NoticeOf c k) law = law

pub accepted_lawful : (G : Ground) (xs : List State) (cs : List Call) → LawfulRecord xs → LawfulRecord (accepted G xs cs)
accepted_lawful G xs [] law = law
accepted_lawful G xs (c ∷ cs) law = accepted_lawful G (after G xs c) cs (lawful_after G xs c law)

pub small_after : (G : Ground) (xs : List State) (call : Call) → length xs ≤ 256 → length (after G xs call) ≤ 256
small_after G xs (Append x) small =
    grown_keeps (λ ys. length ys ≤ 256) (refusal_of G xs (Append x)) xs x small (λ e. omega (arith, length_push xs x, (takes_fit G xs x e).0.0))
small_after G xs (LabelAt f i c) small = small
small_after G xs (StandingAt r i c) small = small
small_after G xs (TallyOf r) small = small
small_after G xs (NoticeOf c k) small = small

pub accepted_small : (G : Ground) (xs : List State) (cs : List Call) → length xs ≤ 256 → length (accepted G xs cs) ≤ 256
accepted_small G xs [] small = small
accepted_small G xs (c ∷ cs) small = accepted_small G (after G xs c) cs (small_after G xs c small)

pub roomy_after : (G : Ground) (xs : List State) (call : Call) → length xs ≤ G.capacity → length (after G xs call) ≤ G.capacity
roomy_after G xs (Append x) fits =
    grown_keeps (λ ys. length ys ≤ G.capacity) (refusal_of G xs (Append x)) xs x fits (λ e. omega (arith, length_push xs x, (takes_fit G xs x e).1))
roomy_after G xs (LabelAt f i c) fits = fits
roomy_after G xs (StandingAt r i c) fits = fits
roomy_after G xs (TallyOf r) fits = fits
roomy_after G xs (NoticeOf c k) fits = fits

pub accepted_roomy : (G : Ground) (xs : List State) (cs : List Call) → length xs ≤ G.capacity → length (accepted G xs cs) ≤ G.capacity
accepted_roomy G xs [] fits = fits
accepted_roomy G xs (c ∷ cs) fits = accepted_roomy G (after G xs c) cs (roomy_after G xs c fits)

pub nothing_lawful : LawfulRecord []
nothing_lawful i one le = absurd (omega arith)

pub accepted_push : (G : Ground) (xs : List State) (cs : List Call) (c : Call) → accepted G xs (cs ++ c ∷ []) ≡ after G (accepted G xs cs) c
accepted_push G xs [] c = refl
accepted_push G xs (d ∷ cs) c = accepted_push G (after G xs d) cs c
