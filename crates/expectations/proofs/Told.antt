-- The notices of a point tell what happens there, and all of it.
use Rattle.std.proofs.Common.{◌≡◌, ℕ, zero, suc, ◌+◌, ◌<◌, ◌≤◌, Bool, true, false, ◌&&◌, eqb, List, [], ◌∷◌, length, get_or, Some, refl, subst, ⊎_elim, arith}
use Rattle.std.specs.List.{AllByRecursion as All, slice_get}
use Rattle.std.proofs.ByRecursion.{All-append, All-weaker}
use Rattle.std.proofs.lemmas.Bool.{false≢true, eq-eqb, eqb-true, and_parts, and_from, cases_eq}
use Rattle.logic.specs.declared.types.Rule.{Rule}
use Rattle.logic.specs.Tables.{no_rule}
use Rattle.expectations.specs.declared.types.Label.{Label}
use Rattle.expectations.specs.declared.types.Event.{Event}
use Rattle.expectations.specs.declared.types.Event.TheVariants.{Raising, Fulfilling, Violating}
use Rattle.expectations.specs.declared.types.Notice.{Notice}
use Rattle.expectations.specs.Expectations.{Labels, true_from, raises, only_if, notice, of_state, from_state, from_rule, notices}
use Rattle.expectations.specs.Laws.{NotBefore, InOrder, Raises, DatedAt, Happens}
use Rattle.expectations.proofs.Labels.{true_is, false_is, is_true, is_false}
use Rattle.expectations.proofs.Places.{all_nth, Stands, stands_left, stands_right}

only_all : (P : Notice → Type 0) (b : Bool) (x : Notice) → (b ≡ true → P x) → All P (only_if b x)
only_all P true x h = (h refl, tt)
only_all P false x h = tt

only_stands : (b : Bool) (x : Notice) → b ≡ true → Stands (only_if b x) x
only_stands true x h = (0, refl)
only_stands false x h = absurd (false≢true h)

module _ (labels : Labels) (c : ℕ) where
  -- rule r raises an expectation at s, and event e of it is dated c
  abbrev pub Tells : Rule → (s : ℕ) → Event → Type 0
  Tells r s e = Raises labels r s × DatedAt e (labels r.content s) s c

  -- ── Each notice tells what happens ──
  abbrev pub OfState : (k : ℕ) → Rule → (s : ℕ) → Notice → Type 0
  OfState k r s x = (x.rule ≡ k) × (x.from ≡ s) × Tells r x.from x.event

  abbrev pub FromState : (k : ℕ) → Rule → (m s : ℕ) → Notice → Type 0
  FromState k r m s x = (x.rule ≡ k) × (s ≤ x.from) × (x.from < s + m) × Tells r x.from x.event

  abbrev pub FromRule : (k : ℕ) → List Rule → Notice → Type 0
  FromRule k rs x = (j : ℕ) × (x.rule ≡ k + j) × (j < length rs) × (1 ≤ x.from) × (x.from ≤ c) × Tells (get_or rs j no_rule) x.from x.event

  pub of_state_all : (k : ℕ) (r : Rule) (s : ℕ) → All (OfState k r s) (of_state labels c k r s)
  of_state_all k r s =
      let up = λ (b : Bool) (h : (raises labels r s && b) ≡ true). and_parts (raises labels r s) b h in
      let P = OfState k r s in
      All-append P (only_if _ (notice k s Raising)) _
      (only_all P _ (notice k s Raising) (λ h. let p = up _ h in (refl, refl, (true_is _ _ p.0, eqb-true s c p.1))))
      (All-append P (only_if _ (notice k s Fulfilling)) _
      (only_all P _ (notice k s Fulfilling) (λ h. let p = up _ h in (refl, refl, (true_is _ _ p.0, true_is _ _ p.1))))
      (only_all P _ (notice k s Violating) (λ h. let p = up _ h in (refl, refl, (true_is _ _ p.0, false_is _ _ p.1)))))

  pub from_state_all : (k : ℕ) (r : Rule) (m s : ℕ) → All (FromState k r m s) (from_state labels c k r m s)
  from_state_all k r zero s = tt
  from_state_all k r (suc m) s =
      All-append (FromState k r (suc m) s) (of_state labels c k r s) (from_state labels c k r m (suc s))
      (All-weaker (OfState k r s) (FromState k r (suc m) s) (λ x h. (h.0, omega arith, omega arith, h.2)) (of_state labels c k r s) (of_state_all k r s))
      (All-weaker (FromState k r m (suc s)) (FromState k r (suc m) s) (λ x h. (h.0, omega arith, omega arith, h.3)) (from_state labels c k r m (suc s)) (from_state_all k r m (suc s)))

  pub from_rule_all : (k : ℕ) (rs : List Rule) → All (FromRule k rs) (from_rule labels c k rs)
  from_rule_all k [] = tt
  from_rule_all k (r ∷ rs) =
      All-append (FromRule k (r ∷ rs)) (from_state labels c k r c 1) (from_rule labels c (suc k) rs)
      (All-weaker (FromState k r c 1) (FromRule k (r ∷ rs)) (λ x h. (0, omega arith, omega arith, h.1, omega arith, h.3)) (from_state labels c k r c 1) (from_state_all k r c 1))
      (All-weaker (FromRule (suc k) rs) (FromRule k (r ∷ rs)) (λ x h. (suc h.0, omega arith, omega arith, h.3, h.4, h.5)) (from_rule labels c (suc k) rs) (from_rule_all (suc k) rs))

  pub told_happens : (n : ℕ) (rules : List Rule) (x : Notice) (k : ℕ) → c ≤ n → slice_get (notices labels rules c) k ≡ Some x → Happens n labels rules x c
  told_happens n rules x k l e =
      let h = all_nth (FromRule 0 rules) (notices labels rules c) k x (from_rule_all 0 rules) e in
      let j : h.0 ≡ x.rule = omega arith in
      let t = subst (λ z. Tells (get_or rules z no_rule) x.from x.event) j h.5 in
      (omega arith, h.3, omega arith, t.0, t.1)

  -- ── What happens is told ──
  of_state_stands : (k : ℕ) (r : Rule) (s : ℕ) (e : Event) → Tells r s e → Stands (of_state labels c k r s) (notice k s e)
  of_state_stands k r s Raising h =
      stands_left (only_if _ (notice k s Raising)) _ (notice k s Raising) (only_stands _ (notice k s Raising) (and_from _ _ (is_true _ _ h.0) (eq-eqb s c h.1)))
  of_state_stands k r s Fulfilling h =
      let x = notice k s Fulfilling in
      stands_right (only_if (raises labels r s && eqb s c) (notice k s Raising)) _ x
      (stands_left (only_if _ x) _ x (only_stands _ x (and_from _ _ (is_true _ _ h.0) (is_true _ _ h.1))))
  of_state_stands k r s Violating h =
      let x = notice k s Violating in
      stands_right (only_if (raises labels r s && eqb s c) (notice k s Raising)) _ x
      (stands_right (only_if (raises labels r s && true_from (labels r.content s) c) (notice k s Fulfilling)) _ x
      (only_stands _ x (and_from _ _ (is_true _ _ h.0) (is_false _ _ h.1))))

  from_state_stands : (k : ℕ) (r : Rule) (m s t : ℕ) (x : Notice) → s ≤ t → t < s + m → Stands (of_state labels c k r t) x → Stands (from_state labels c k r m s) x
  from_state_stands k r zero s t x a b h = absurd (omega arith)
  from_state_stands k r (suc m) s t x a b h =
      ⊎_elim
      (λ (e : t ≡ s). stands_left (of_state labels c k r s) (from_state labels c k r m (suc s)) x (subst (λ z. Stands (of_state labels c k r z) x) e h))
      (λ (d : t ≡ s → ⊥). stands_right (of_state labels c k r s) (from_state labels c k r m (suc s)) x (from_state_stands k r m (suc s) t x (omega arith) (omega arith) h))
      (cases_eq t s)

  from_rule_stands : (k j q : ℕ) (rs : List Rule) (x : Notice) → q ≡ k + j → j < length rs → Stands (from_state labels c q (get_or rs j no_rule) c 1) x → Stands (from_rule labels c k rs) x
  from_rule_stands k j q [] x e l h = absurd (omega arith)
  from_rule_stands k zero q (r ∷ rs) x e l h =
      let p : q ≡ k = omega arith in
      stands_left (from_state labels c k r c 1) (from_rule labels c (suc k) rs) x (subst (λ z. Stands (from_state labels c z r c 1) x) p h)
  from_rule_stands k (suc j) q (r ∷ rs) x e l h =
      stands_right (from_state labels c k r c 1) (from_rule labels c (suc k) rs) x (from_rule_stands (suc k) j q rs x (omega arith) (omega arith) h)

  -- no event is dated before its state
  by_then : (s : ℕ) (z : Label) (e : Event) → NotBefore s z → DatedAt e z s c → s ≤ c
  by_then s z Raising o d = omega arith
  by_then s z Fulfilling o d = rw d at o
  by_then s z Violating o d = rw d at o

  pub happens_told : (n : ℕ) (rules : List Rule) (x : Notice) → InOrder n labels → Happens n labels rules x c → Stands (notices labels rules c) x
  happens_told n rules x o h =
      let r = get_or rules x.rule no_rule in
      let b : x.from ≤ c = by_then x.from (labels r.content x.from) x.event (o r.content x.from h.1 h.2) h.4 in
      from_rule_stands 0 x.rule x.rule rules x (omega arith) h.0
      (from_state_stands x.rule r c 1 x.from x h.1 (omega arith) (of_state_stands x.rule r x.from x.event (h.3, h.4)))
