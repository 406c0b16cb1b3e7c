-- What `decide` answers, by what its last label is told as.
use Rattle.std.proofs.Common.{◌≡◌, ℕ, ◌<◌, List, [], ◌∷◌, length, Ok, Err, Result, refl, sym, ap, ◌∙◌, subst}
use Rattle.logic.specs.declared.types.State.{State}
use Rattle.refusals.specs.declared.Refusal.{Refusal}
use Rattle.refusals.specs.declared.Refusal.TheVariants as refusal
use Rattle.faults.specs.declared.read.ReadFault.{ReadFault}
use Rattle.rulestexts.specs.Texts.{Refused}
use Rattle.table.specs.declared.finished.Table.{Table}
use Rattle.expectations.specs.declared.types.Verdict.{Verdict}
use Rattle.answers.specs.Answers.{Ground}
use Rattle.answers.specs.Refused.{LabelRefused}
use Rattle.monitor.specs.Book.{ground_on}
use Rattle.customer.specs.Following.{taken_in}
use Rattle.customer.specs.Deciding.{Tabled, LastReads, Declined, Whether}
use Rattle.customer.specs.declared.deciding.Undecided.{Undecided}
use Rattle.customer.specs.declared.deciding.Undecided.TheVariants as undecided

pub none_is : {A : Type 0} (xs : List A) → length xs ≡ 0 → xs ≡ []
none_is [] e = refl
none_is (x ∷ xs) e = cc

module _ (t : Table) (room before : ℕ) (xs : List State) (f i : ℕ) (fresh : before ≡ 0) where
  abbrev G : Ground
  G = ground_on t room

  abbrev ys : List State
  ys = taken_in G [] xs

  declined : (why : Refusal) → LabelRefused G (length ys) f i (length ys) why → Declined t room before xs f i why
  declined refusal.ForeignRecord h = absurd h
  declined refusal.TooManyStates h = (fresh, h)
  declined refusal.RecordFull h = (fresh, h)
  declined refusal.MemoryTooShort h = (fresh, h)
  declined (refusal.NominalTaken n) h = (fresh, h)
  declined (refusal.ReferenceUnfit n) h = (fresh, h)
  declined refusal.NoSuchName h = (fresh, h)
  declined refusal.LooseFormula h = (fresh, h)
  declined refusal.NoSuchState h = (fresh, h)
  declined refusal.NoSuchPoint h = (fresh, h)

  by_last : (text : List ℕ) → Tabled text t → (r : Result Verdict Undecided) → LastReads G ys f i r → Whether text room before xs f i r
  by_last text reads (Ok v) h = record { table = t; reads = reads; told = h }
  by_last text reads (Err (undecided.Text e)) h = absurd h
  by_last text reads (Err (undecided.Refused why)) h = (t, reads, declined why h)

pub decided : (text : List ℕ) (t : Table) (room before : ℕ) (xs : List State) (f i : ℕ) (K : Ground) (ws : List State) (r : Result Verdict Undecided) →
    before ≡ 0 → Tabled text t → K ≡ ground_on t room → ws ≡ taken_in (ground_on t room) [] xs → LastReads K ws f i r → Whether text room before xs f i r
decided text t room before xs f i K ws r fresh reads stands states h =
    by_last t room before xs f i fresh text reads r
    (subst (λ H. LastReads H (taken_in (ground_on t room) [] xs) f i r) stands (subst (λ zs. LastReads K zs f i r) states h))

pub unread : (text : List ℕ) (room before : ℕ) (xs : List State) (f i : ℕ) (why : Undecided) (r : Result Verdict Undecided) →
    (e : ReadFault) × (why ≡ undecided.Text e) × Refused text e → r ≡ Err why → Whether text room before xs f i r
unread text room before xs f i why r (e, is, bad) fails = subst (Whether text room before xs f i) (sym (fails ∙ ap Err is)) bad

pub not_empty : (text : List ℕ) (t : Table) (room before : ℕ) (xs : List State) (f i : ℕ) → Tabled text t → 0 < before →
    Whether text room before xs f i (Err (undecided.Refused refusal.ForeignRecord))
not_empty text t room before xs f i reads h = (t, reads, h)
