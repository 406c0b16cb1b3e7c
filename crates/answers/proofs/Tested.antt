-- The tests of a state that is to follow a record mean what they are named for, so an append is taken exactly if its state may
-- follow and the record has room.
use Rattle.std.proofs.Common.{◌≡◌, ℕ, suc, ◌+◌, ◌<◌, Bool, true, false, eqb, leb, List, [], ◌∷◌, ◌++◌, length, None, Decides, sym, refl, subst, add-one}
use Rattle.std.proofs.lemmas.Bool.Decides.{Decides-below_or, Decides-and, Decides-ltb, Decides-eqb, not_from_Decides}
use Rattle.std.proofs.lemmas.Bool.{leb-false, lt-leb}
use Rattle.logic.specs.declared.types.State.{State}
use Rattle.logic.specs.States.{state_at}
use Rattle.logic.specs.Lawful.{NominalTaken, ReferenceUnfit, LawfulRecord}
use Rattle.logic.specs.Tests.{either_unfit}
use Rattle.logic.proofs.Tested.{either_unfit_decides}
use Rattle.refusals.specs.declared.Refusal.TheVariants as refusal
use Rattle.lawful.specs.Unlawful.{joined, MayFollow}
use Rattle.lawful.proofs.Joins.{taken_joined, unfit_joined, lawful_more}
use Rattle.answers.specs.Tests.{carried_to, taken}
use Rattle.answers.specs.Answers.{Ground}
use Rattle.answers.specs.Law.{Takes}
use Rattle.answers.proofs.Refusing.{no_reason, without_reason}

carried_decides : (xs : List State) (a m : ℕ) → Decides (carried_to xs a m) ((p : ℕ) × (p < m) × ((state_at xs (p + 1)).nominal ≡ a))
unfolding carried_to
carried_decides xs a m =
    Decides-below_or (λ k. eqb (state_at xs (suc k)).nominal a) (λ k. (state_at xs (k + 1)).nominal ≡ a) (carried_to xs a)
    (λ k. subst (λ i. Decides (eqb (state_at xs (suc k)).nominal a) ((state_at xs i).nominal ≡ a)) (sym (add-one k)) (Decides-eqb (state_at xs (suc k)).nominal a))
    refl (λ _. refl) m

pub taken_decides : (xs : List State) (x : State) → Decides (taken xs x) (NominalTaken (joined xs x) (length xs + 1))
taken_decides xs x = taken_joined xs x (taken xs x) (Decides-and _ _ (Decides-ltb 0 x.nominal) (carried_decides xs x.nominal (length xs)))

pub reference_decides : (xs : List State) (x : State) → Decides (either_unfit x (length xs + 1)) (ReferenceUnfit (joined xs x) (length xs + 1))
reference_decides xs x = unfit_joined xs x (length xs + 1) refl (either_unfit x (length xs + 1)) (either_unfit_decides x (length xs + 1))

-- a test of what is not so fails
fails : {P : Type 0} (b : Bool) → Decides b P → (P → ⊥) → b ≡ false
fails true d not_so = absurd (not_so (d.0 refl))
fails false d not_so = refl

pub takes_fit : (G : Ground) (xs : List State) (x : State) → Takes G xs x → MayFollow xs x × (length xs < G.capacity)
takes_fit G xs x e =
    let few = no_reason (leb 256 (length xs)) refusal.TooManyStates _ e in
    let room = no_reason (leb G.capacity (length xs)) refusal.RecordFull _ few.1 in
    let free = no_reason (taken xs x) (refusal.NominalTaken (length xs + 1)) _ room.1 in
    let led = no_reason (either_unfit x (length xs + 1)) (refusal.ReferenceUnfit (length xs + 1)) _ free.1 in (
      (leb-false 256 (length xs) few.0, (not_from_Decides (taken xs x) (taken_decides xs x) free.0, not_from_Decides (either_unfit x (length xs + 1)) (reference_decides xs x) led.0)),
      leb-false G.capacity (length xs) room.0,
    )

pub fit_takes : (G : Ground) (xs : List State) (x : State) → MayFollow xs x → length xs < G.capacity → Takes G xs x
fit_takes G xs x may room =
    without_reason (leb 256 (length xs)) refusal.TooManyStates _ (lt-leb 256 (length xs) may.0)
    (without_reason (leb G.capacity (length xs)) refusal.RecordFull _ (lt-leb G.capacity (length xs) room)
    (without_reason (taken xs x) (refusal.NominalTaken (length xs + 1)) _ (fails (taken xs x) (taken_decides xs x) may.1.0)
    (without_reason (either_unfit x (length xs + 1)) (refusal.ReferenceUnfit (length xs + 1)) None (fails (either_unfit x (length xs + 1)) (reference_decides xs x) may.1.1) refl)))

pub takes_lawful : (G : Ground) (xs : List State) (x : State) → LawfulRecord xs → Takes G xs x → LawfulRecord (xs ++ x ∷ [])
takes_lawful G xs x law e = lawful_more xs x law (takes_fit G xs x e).0.1
