-- The label that the points of a monitor's record tell. Assumes nothing.
use Rattle.std.proofs.Common.{◌≡◌, ℕ, ◌<◌, ◌≤◌, ◌⊎◌, List, length, None, Ok, Err, Option, Result, sym, ap, ◌∙◌, subst, inl, inr, arith}
use Rattle.logic.specs.declared.types.Formula.{Formula}
use Rattle.logic.specs.declared.types.State.{State}
use Rattle.expectations.specs.declared.types.Label.{Label}
use Rattle.expectations.specs.declared.types.Verdict.{Verdict}
use Rattle.expectations.specs.declared.types.Verdict.TheVariants as is
use Rattle.expectations.specs.Expectations.{verdict}
use Rattle.refusals.specs.declared.Refusal.{Refusal}
use Rattle.growth.specs.Growth.{labels_of}
use Rattle.growth.specs.Laws.{NotAfter}
use Rattle.growth.proofs.Growing.{labels_in_order_lem}
use Rattle.answers.specs.declared.types.Call.TheVariants.{LabelAt}
use Rattle.answers.specs.Answers.{Ground, refused_by, outcome}
use Rattle.published.specs.Asking.{dated_at}
use Rattle.published.proofs.Dating.{OpenTo, dated_right}
use Rattle.answers.proofs.Refusing.{outcome_ok}
use Rattle.published.proofs.Refusing.{same_refusal, same_err, given}

module _ (own : ℕ) (G : Ground) (table : List Formula) (xs : List State) (f i : ℕ) where
  -- what is answered of the label
  abbrev pub Told : Result Label Refusal → Type 0
  Told r = r ≡ outcome (refused_by own G xs (LabelAt f i (length xs))) (labels_of table xs f i)

  -- what is answered of its verdict at c
  abbrev pub Read : (c : ℕ) → Result Verdict Refusal → Type 0
  Read c r = r ≡ outcome (refused_by own G xs (LabelAt f i c)) (verdict (labels_of table xs f i) c)

  right_at : (p : ℕ) (v : Verdict) → own ≤ 256 → refused_by own G xs (LabelAt f i (length xs)) ≡ None → v ≡ verdict (labels_of table xs f i) p
      → OpenTo (labels_of table xs f i) i p → ((v ≡ is.Unknown → ⊥) ⊎ (p ≡ length xs)) → Told (Ok (dated_at v p))
  right_at p v small none e before decided =
      let l : Label = labels_of table xs f i in
      let k = given own G xs f i (length xs) none in
      let order = labels_in_order_lem table xs (omega (arith, small, k.0)) in
      let not_after : ((v ≡ is.Unknown → ⊥) ⊎ NotAfter p l) =
      elim decided [ inl h ↦ inl h | inr h ↦ inr (subst (λ n. NotAfter n l) (sym h) (order.1 f i k.1 k.2)) ] in
      ap (λ (x : Label). Ok x) (dated_right l v i p e (order.0 f i k.1 k.2) before not_after) ∙ sym (ap (λ (why : Option Refusal). outcome why l) none)

  pub at_last : (last p : ℕ) (v : Verdict) → own ≤ 256 → last ≡ length xs → last ≤ p → Read last (Ok v) → OpenTo (labels_of table xs f i) i p → Told (Ok (dated_at v last))
  at_last last p v small e high read before =
      let q = outcome_ok (refused_by own G xs (LabelAt f i last)) (verdict (labels_of table xs f i) last) v read in
      let none = subst (λ n. refused_by own G xs (LabelAt f i n) ≡ None) e q.0 in
      right_at last v small none q.1 (λ c less low. before c (omega (arith, less, high)) low) (inr e)

  pub at_first : (p : ℕ) (v : Verdict) → own ≤ 256 → i ≤ p → p < length xs → Read p (Ok v) → (v ≡ is.Unknown → ⊥) → OpenTo (labels_of table xs f i) i p → Told (Ok (dated_at v p))
  at_first p v small low high read known before =
      let q = outcome_ok (refused_by own G xs (LabelAt f i p)) (verdict (labels_of table xs f i) p) v read in
      right_at p v small (sym (same_refusal own G xs f i p low high) ∙ q.0) q.1 before (inl known)

  pub refused_last : (last : ℕ) (why : Refusal) → last ≡ length xs → Read last (Err why) → Told (Err why)
  refused_last last why e read =
      same_err (refused_by own G xs (LabelAt f i (length xs))) (verdict (labels_of table xs f i) (length xs)) (labels_of table xs f i) why (subst (λ n. Read n (Err why)) e read)

  pub refused_first : (p : ℕ) (why : Refusal) → i ≤ p → p < length xs → Read p (Err why) → Told (Err why)
  refused_first p why low high read =
      same_err (refused_by own G xs (LabelAt f i (length xs))) (verdict (labels_of table xs f i) p) (labels_of table xs f i) why
      (read ∙ ap (λ (o : Option Refusal). outcome o (verdict (labels_of table xs f i) p)) (same_refusal own G xs f i p low high))
