-- The notices of a point stand in order.
use Rattle.std.proofs.Common.{◌≡◌, ℕ, zero, suc, Bool, true, false, ◌&&◌, eqb, List, [], ◌∷◌, ◌++◌, sym, refl, ◌∙◌, inl, inr, arith}
use Rattle.std.specs.List.{AllByRecursion as All}
use Rattle.std.proofs.ByRecursion.{All-weaker}
use Rattle.std.proofs.lemmas.Bool.{and_parts, false≢true}
use Rattle.logic.specs.declared.types.Rule.{Rule}
use Rattle.expectations.specs.declared.types.Label.{Label}
use Rattle.expectations.specs.declared.types.Label.TheVariants.{Unknown, TrueFrom, FalseFrom}
use Rattle.expectations.specs.declared.types.Event.{Event}
use Rattle.expectations.specs.declared.types.Event.TheVariants.{Raising, Fulfilling, Violating}
use Rattle.expectations.specs.Expectations.{Labels, true_from, false_from, raises, only_if, notice, of_state, from_state, from_rule, notices}
use Rattle.expectations.specs.Laws.{Before, NoticesInOrder}
use Rattle.expectations.proofs.Places.{Sorted, sorted-++, sorted_nth}
use Rattle.expectations.proofs.Told.{OfState, FromState, FromRule, of_state_all, from_state_all, from_rule_all}

fulfilling_is_not : ◌≡◌ {A = Event} Fulfilling Raising → ⊥
fulfilling_is_not e = let z : ◌≡◌ {A = ℕ} 0 1 = cc in omega arith

violating_is_not : ◌≡◌ {A = Event} Violating Raising → ⊥
violating_is_not e = let z : ◌≡◌ {A = ℕ} 0 1 = cc in omega arith

-- p, q, v: raised, fulfilled, violated
three : (k s : ℕ) (p q v : Bool) → (q ≡ true → v ≡ true → ⊥) →
    Sorted Before (only_if p (notice k s Raising) ++ (only_if q (notice k s Fulfilling) ++ only_if v (notice k s Violating)))
three k s p true true n = absurd (n refl refl)
three k s true true false n = ((inr (refl, inr (refl, refl, fulfilling_is_not)), tt), (tt, tt))
three k s true false true n = ((inr (refl, inr (refl, refl, violating_is_not)), tt), (tt, tt))
three k s true false false n = (tt, tt)
three k s false true false n = (tt, tt)
three k s false false true n = (tt, tt)
three k s false false false n = tt

not_both : (z : Label) (c : ℕ) → true_from z c ≡ true → false_from z c ≡ true → ⊥
not_both Unknown c h k = false≢true h
not_both (TrueFrom d) c h k = false≢true k
not_both (FalseFrom d) c h k = false≢true h

module _ (labels : Labels) (c : ℕ) where
  of_state_sorted : (k : ℕ) (r : Rule) (s : ℕ) → Sorted Before (of_state labels c k r s)
  of_state_sorted k r s =
      three k s (raises labels r s && eqb s c) (raises labels r s && true_from (labels r.content s) c) (raises labels r s && false_from (labels r.content s) c)
      (λ h l. not_both (labels r.content s) c (and_parts (raises labels r s) _ h).1 (and_parts (raises labels r s) _ l).1)

  from_state_sorted : (k : ℕ) (r : Rule) (m s : ℕ) → Sorted Before (from_state labels c k r m s)
  from_state_sorted k r zero s = tt
  from_state_sorted k r (suc m) s =
      let later = from_state labels c k r m (suc s) in
      sorted-++ Before (of_state labels c k r s) later (of_state_sorted k r s) (from_state_sorted k r m (suc s))
      (All-weaker (OfState labels c k r s) (λ x. All (Before x) later)
      (λ x h. All-weaker (FromState labels c k r m (suc s)) (Before x) (λ y g. inr (h.0 ∙ sym g.0, inl (omega arith))) later (from_state_all labels c k r m (suc s)))
      (of_state labels c k r s) (of_state_all labels c k r s))

  from_rule_sorted : (k : ℕ) (rs : List Rule) → Sorted Before (from_rule labels c k rs)
  from_rule_sorted k [] = tt
  from_rule_sorted k (r ∷ rs) =
      let later = from_rule labels c (suc k) rs in
      sorted-++ Before (from_state labels c k r c 1) later (from_state_sorted k r c 1) (from_rule_sorted (suc k) rs)
      (All-weaker (FromState labels c k r c 1) (λ x. All (Before x) later)
      (λ x h. All-weaker (FromRule labels c (suc k) rs) (Before x) (λ y g. inl (omega arith)) later (from_rule_all labels c (suc k) rs))
      (from_state labels c k r c 1) (from_state_all labels c k r c 1))

pub notices_in_order : NoticesInOrder
notices_in_order labels rules c j k x y l e f = sorted_nth Before (notices labels rules c) j k x y (from_rule_sorted labels c 0 rules) l e f
