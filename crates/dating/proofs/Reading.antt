-- A label gives both readings at every truncation point.
use Rattle.std.proofs.Common.{◌≡◌, ℕ, zero, suc, ◌+◌, ◌-◌, ◌<◌, ◌≤◌, min, Bool, true, false, cond, not, ◌&&◌, eqb, ltb, ◌⊎◌, ◌↔◌, ℤ, pos, Decides, sym, refl, ap, ◌∙◌, subst, inl, inr, arith}
use mathlib.Core.Logic.Iff
use Rattle.std.specs.Int.{int_min}
use Rattle.std.proofs.lemmas.Int.{ints}
use Rattle.std.proofs.lemmas.Bool.{cases_lt, cases_eq, cases_Bool, both_ways, ltb-true, ltb-false, lt-ltb, eqb-true, eq-eqb, and_parts, and_from, or_cases, or_left, or_right, false≢true}
use Rattle.logic.specs.declared.types.State.{State}
use Rattle.logic.specs.States.{Trace}
use Rattle.logic.specs.Logic.{Tree, true', signal, nominal, not', and', or', next, previous, until, since, at', variable, reference, bind, some', Shows, Carries, Refers, Kept, Reads, weak, strong, Nameless, AtNominal}
use Rattle.logic.proofs.Keeps.{past}
use Rattle.logic.proofs.Uniques.{UniqueTo, unique}
use Rattle.labels.specs.Dated.{dated}
use Rattle.dating.specs.Dated.{true_from, false_from, seen}
use Rattle.dating.specs.Labels.{shows, carries, is_kind, refers, until_from, since_to, at_nominal, label}
use Rattle.dating.specs.Laws.{HasDate, LabelsRead}
use Rattle.dating.proofs.Says.{Says, dated_says, says_min, says_max, says_neg, says_true, says_unknown, says_seen, says_when, says_test, kept_iff, kept, kept_or, sum_iff, settled_before, settled_not, settled_and, settled_or}
use Rattle.dating.proofs.Steps.{weak_past, kept_state, settled, until_step, since_step, since_first}
use Rattle.dating.proofs.Ranged.{labels_have_dates_lem}

-- ── The tests of a state ──
shows_is : (q : State) (b : ℕ) → (shows q b ≡ true) ↔ Shows q b
shows_is q b = (eqb-true _ 1, eq-eqb _ 1)

test_is : (x a : ℕ) → ((ltb 0 a && eqb x a) ≡ true) ↔ ((0 < a) × (x ≡ a))
test_is x a = (
  λ h. let p = and_parts (ltb 0 a) (eqb x a) h in (ltb-true 0 a p.0, eqb-true x a p.1),
  λ h. and_from (ltb 0 a) (eqb x a) (lt-ltb 0 a h.0) (eq-eqb x a h.1),
)

refers_is : (q : State) (a t : ℕ) → (refers q a t ≡ true) ↔ Refers q a t
refers_is q a t = (
  λ h. elim (or_cases (is_kind a q.first && eqb q.first.target t) (is_kind a q.second && eqb q.second.target t) h) [
    | inl k ↦ let p = and_parts (is_kind a q.first) (eqb q.first.target t) k in let m = (test_is q.first.kind a).0 p.0 in (m.0, inl (m.1, eqb-true q.first.target t p.1))
    | inr k ↦ let p = and_parts (is_kind a q.second) (eqb q.second.target t) k in let m = (test_is q.second.kind a).0 p.0 in (m.0, inr (m.1, eqb-true q.second.target t p.1))
  ],
  λ h. elim h.1 [
    | inl k ↦ or_left (is_kind a q.first && eqb q.first.target t) (is_kind a q.second && eqb q.second.target t) (and_from (is_kind a q.first) (eqb q.first.target t) ((test_is q.first.kind a).1 (h.0, k.0)) (eq-eqb q.first.target t k.1))
    | inr k ↦ or_right (is_kind a q.first && eqb q.first.target t) (is_kind a q.second && eqb q.second.target t) (and_from (is_kind a q.second) (eqb q.second.target t) ((test_is q.second.kind a).1 (h.0, k.0)) (eq-eqb q.second.target t k.1))
  ],
)

some_is : (q : State) (a : ℕ) (X : ℕ → Type 0) → ((((0 < a) × (q.first.kind ≡ a)) × X q.first.target) ⊎ (((0 < a) × (q.second.kind ≡ a)) × X q.second.target)) ↔ ((t : ℕ) × Refers q a t × X t)
some_is q a X = (
  λ h. elim h [ inl k ↦ (q.first.target, (k.0.0, inl (k.0.1, refl)), k.1) | inr k ↦ (q.second.target, (k.0.0, inr (k.0.1, refl)), k.1) ],
  λ h. elim h.1.1 [
    | inl k ↦ inl ((h.1.0, k.0), subst X (sym k.1) h.2)
    | inr k ↦ inr ((h.1.0, k.0), subst X (sym k.1) h.2)
  ],
)

-- where the nominal stands among the first m states
at_nominal_cases : (s : Trace) (a : ℕ) (B : ℕ → ℤ) (m : ℕ) → ((t : ℕ) × (1 ≤ t) × (t ≤ m) × Carries (s t) a × (at_nominal s a B m ≡ B t)) ⊎ (Nameless s m a × (at_nominal s a B m ≡ pos 0))
unfolding at_nominal
at_nominal_cases s a B zero = inr (λ t p q y. omega arith, refl)
at_nominal_cases s a B (suc m) =
    let ih = at_nominal_cases s a B m in
    elim (cases_Bool (carries (s (suc m)) a)) [
      | inl e ↦ inl (suc m, omega arith, omega arith, (test_is (s (suc m)).nominal a).0 e, ap (λ b. cond b (B (suc m)) (at_nominal s a B m)) e)
      | inr e ↦
          let same : at_nominal s a B (suc m) ≡ at_nominal s a B m = ap (λ b. cond b (B (suc m)) (at_nominal s a B m)) e in
          elim ih [
            | inl x ↦ inl (x.0, x.1, omega (arith, x.2), x.3, same ∙ x.4)
            | inr x ↦
                inr (
                  λ t p q y. elim (cases_eq t (suc m)) [
                    | inl d ↦ both_ways (carries (s (suc m)) a) e ((test_is (s (suc m)).nominal a).1 (subst (λ (k : ℕ). Carries (s k) a) d y))
                    | inr d ↦ x.0 t p (omega arith) y
                  ],
                  same ∙ x.1,
                )
          ]
    ]

module _ (s : Trace) (n c : ℕ) (small : n ≤ 256) (one : UniqueTo n s) (le : c ≤ n) where
  -- past the truncation point 0 is right
  unknown_past : (v i : ℕ) (f : Tree) (r : Bool) → c < i → Says r c (pos 0) ↔ Reads r s c v i f
  unknown_past v i f r far =
      let z = says_unknown r c (omega arith) in
      let y = past r s c v i f far in
      (λ h. y.0 (z.1 h), λ h. z.0 (y.1 h))

  abbrev Right : (v : ℕ) → Tree → (ℕ → ℤ) → Type 0
  Right v f A = (j : ℕ) → 1 ≤ j → j ≤ n → (r : Bool) → Says r c (A j) ↔ Reads r s c v j f

  until_right : (v : ℕ) (f g : Tree) (A B : ℕ → ℤ) → Right v f A → Right v g B →
      (m i : ℕ) → 1 ≤ i → i + m ≡ suc n → (r : Bool) → Says r c (until_from A B m i) ↔ Reads r s c v i (until f g)
  unfolding until_from
  until_right v f g A B p q zero i a e r = unknown_past v i (until f g) r (omega arith)
  until_right v f g A B p q (suc m) i a e r =
      Iff.trans (says_max r c (B i) (int_min (A i) (until_from A B m (suc i))))
      (Iff.trans
      (sum_iff (q i a (omega arith) r)
      (Iff.trans (says_min r c (A i) (until_from A B m (suc i)))
      (Iff.and (p i a (omega arith) r) (until_right v f g A B p q m (suc i) (omega arith) (omega arith) r))))
      (Iff.symm (until_step s c v f g r i)))

  since_right : (v : ℕ) (f g : Tree) (A B : ℕ → ℤ) → Right v f A → Right v g B →
      (i : ℕ) → 1 ≤ i → i ≤ n → (r : Bool) → Says r c (since_to A B i) ↔ Reads r s c v i (since f g)
  unfolding since_to
  since_right v f g A B p q zero a b r = absurd (omega arith)
  since_right v f g A B p q (suc zero) a b r = Iff.trans (q 1 a b r) (Iff.symm (since_first s c v f g r))
  since_right v f g A B p q (suc (suc j)) a b r =
      let i : ℕ = suc (suc j) in
      let own : ℤ = since_to A B (suc j) in
      Iff.trans (says_max r c (B i) (int_min (A i) (seen i own)))
      (Iff.trans
      (sum_iff (q i a b r)
      (Iff.trans (says_min r c (A i) (seen i own))
      (Iff.and (p i a b r)
      (Iff.trans (says_seen r c i own (omega arith) (omega arith))
      (kept_iff r c i (since_right v f g A B p q (suc j) (omega arith) (omega arith) r))))))
      (Iff.symm (since_step s c v f g r (suc j))))

  -- `at` a nominal that stands on state t
  named : (v a : ℕ) (f : Tree) (t : ℕ) → 1 ≤ t → t ≤ n → Carries (s t) a → (r : Bool) → Reads r s c v t f ↔ AtNominal r s c a (λ k. Reads r s c v k f)
  named v a f t p q y true = (
    λ h. elim (cases_lt c t) [
      | inl far ↦ inl (λ k m w z. let e : k ≡ t = one k t a m (omega arith) p q z y in omega arith)
      | inr near ↦ inr (t, p, near, y, h)
    ],
    λ h. elim h [
      | inl none ↦ elim (cases_lt c t) [ inl far ↦ weak_past s c v t f far | inr near ↦ absurd (none t p near y) ]
      | inr x ↦ subst (λ (k : ℕ). Reads weak s c v k f) (one x.0 t a x.1 (omega (arith, x.2)) p q x.3 y) x.4
    ],
  )
  named v a f t p q y false = (
    λ h. (t, p, kept_state s c v t f h, y, h),
    λ x. subst (λ (k : ℕ). Reads strong s c v k f) (one x.0 t a x.1 (omega (arith, x.2)) p q x.3 y) x.4,
  )

  -- and one that stands on none
  nameless : (a : ℕ) (X : ℕ → Type 0) → Nameless s n a → (r : Bool) → Decides r (AtNominal r s c a X)
  nameless a X none true = (λ _. inl (λ t p q y. none t p (omega arith) y), λ _. refl)
  nameless a X none false = (λ h. absurd (false≢true h), λ x. absurd (none x.0 x.1 (omega (arith, x.2)) x.3))

  nameless_kept : (a i : ℕ) (X : ℕ → Type 0) → Nameless s n a → (r : Bool) → Decides r (Kept r c i (AtNominal r s c a X))
  nameless_kept a i X none true = (λ _ w. (nameless a X none true).0 refl, λ _. refl)
  nameless_kept a i X none false = (λ h. absurd (false≢true h), λ h. (nameless a X none false).1 h.1)

  nominal_right : (v a : ℕ) (f : Tree) (B : ℕ → ℤ) → Right v f B → (i : ℕ) → i ≤ n → (r : Bool) →
      Says r c (at_nominal s a (λ t. seen i (B t)) n) ↔ Kept r c i (AtNominal r s c a (λ t. Reads r s c v t f))
  nominal_right v a f B p i b r =
      elim (at_nominal_cases s a (λ t. seen i (B t)) n) [
        | inl x ↦
            subst (λ (z : ℤ). Says r c z ↔ Kept r c i (AtNominal r s c a (λ t. Reads r s c v t f))) (sym x.4)
            (Iff.trans (says_seen r c i (B x.0) (omega arith) (omega arith))
            (kept_iff r c i (Iff.trans (p x.0 x.1 x.2 r) (named v a f x.0 x.1 x.2 x.3 r))))
        | inr x ↦
            let z = says_unknown r c (omega arith) in
            let y = nameless_kept a i (λ t. Reads r s c v t f) x.0 r in
            subst (λ (z : ℤ). Says r c z ↔ Kept r c i (AtNominal r s c a (λ t. Reads r s c v t f))) (sym x.1)
            (λ h. y.0 (z.1 h), λ h. z.0 (y.1 h))
      ]

  next_right : (v : ℕ) (f : Tree) (A : ℕ → ℤ) → Right v f A → (i : ℕ) → i ≤ n → (b : Bool) → ltb i n ≡ b → (r : Bool) → Says r c (cond b (A (suc i)) (pos 0)) ↔ Reads r s c v (suc i) f
  next_right v f A p i a true e r = let m = ltb-true i n e in p (suc i) (omega arith) m r
  next_right v f A p i a false e r = let m = ltb-false i n e in unknown_past v (suc i) f r (omega arith)

  reading : (v i : ℕ) (f : Tree) → 1 ≤ i → i ≤ n → (r : Bool) → Says r c (label s n v i f) ↔ Reads r s c v i f
  unfolding label
  reading v i true' a b r = says_true r c i (omega arith) (omega arith)
  reading v i (signal k) a b r = says_test r c i (shows (s i) k) (Shows (s i) k) (omega arith) (omega arith) (shows_is (s i) k)
  reading v i (nominal k) a b r = says_test r c i (carries (s i) k) (Carries (s i) k) (omega arith) (omega arith) (test_is (s i).nominal k)
  reading v i (not' f) a b r =
      Iff.trans (says_neg r c (label s n v i f))
      (Iff.trans (Iff.not (reading v i f a b (not r))) (kept r c i (Reads (not r) s c v i f → ⊥) (settled_not r c i (Reads (not r) s c v i f) (settled (not r) s c v i f))))
  reading v i (and' f g) a b r =
      Iff.trans (says_min r c (label s n v i f) (label s n v i g))
      (Iff.trans (Iff.and (reading v i f a b r) (reading v i g a b r)) (kept r c i (Reads r s c v i f × Reads r s c v i g) (settled_and r c i (Reads r s c v i f) (Reads r s c v i g) (settled r s c v i f) (settled r s c v i g))))
  reading v i (or' f g) a b r =
      Iff.trans (says_max r c (label s n v i f) (label s n v i g))
      (Iff.trans (sum_iff (reading v i f a b r) (reading v i g a b r)) (kept r c i (Reads r s c v i f ⊎ Reads r s c v i g) (settled_or r c i (Reads r s c v i f) (Reads r s c v i g) (settled r s c v i f) (settled r s c v i g))))
  reading v i (next f) a b r =
      Iff.trans (next_right v f (λ j. label s n v j f) (λ j x y. reading v j f x y) i b (ltb i n) refl r)
      (kept r c i (Reads r s c v (suc i) f) (settled_before r c i (Reads r s c v (suc i) f) (settled r s c v (suc i) f)))
  reading v i (previous f) a b r =
      says_when r c i (ltb 1 i) (seen i (label s n v (i - 1) f)) (1 < i) (Reads r s c v (i - 1) f) (omega arith) (omega arith) (ltb-true 1 i, lt-ltb 1 i)
      (λ h. Iff.trans (says_seen r c i (label s n v (i - 1) f) (omega arith) (omega arith)) (kept_iff r c i (reading v (i - 1) f (omega arith) (omega arith) r)))
  reading v i (until f g) a b r =
      until_right v f g (λ j. label s n v j f) (λ j. label s n v j g) (λ j x y. reading v j f x y) (λ j x y. reading v j g x y) (suc n - i) i a (omega arith) r
  reading v i (since f g) a b r =
      since_right v f g (λ j. label s n v j f) (λ j. label s n v j g) (λ j x y. reading v j f x y) (λ j x y. reading v j g x y) i a b r
  reading v i (at' k f) a b r = nominal_right v k f (λ t. label s n v t f) (λ j x y. reading v j f x y) i b r
  reading v i variable a b r = says_test r c i (eqb i v) (i ≡ v) (omega arith) (omega arith) (eqb-true i v, eq-eqb i v)
  reading v i (reference k) a b r = says_test r c i (refers (s i) k v) (Refers (s i) k v) (omega arith) (omega arith) (refers_is (s i) k v)
  reading v i (bind f) a b r = Iff.trans (reading i i f a b r) (kept r c i (Reads r s c i i f) (settled r s c i i f))
  reading v i (some' k f) a b r =
      Iff.trans (says_max r c (cond (is_kind k (s i).first) (label s n (s i).first.target i f) (false_from i)) (cond (is_kind k (s i).second) (label s n (s i).second.target i f) (false_from i)))
      (Iff.trans
      (sum_iff
      (says_when r c i (is_kind k (s i).first) (label s n (s i).first.target i f) ((0 < k) × ((s i).first.kind ≡ k)) (Reads r s c (s i).first.target i f) (omega arith) (omega arith) (test_is (s i).first.kind k)
      (λ h. Iff.trans (reading (s i).first.target i f a b r) (kept r c i (Reads r s c (s i).first.target i f) (settled r s c (s i).first.target i f))))
      (says_when r c i (is_kind k (s i).second) (label s n (s i).second.target i f) ((0 < k) × ((s i).second.kind ≡ k)) (Reads r s c (s i).second.target i f) (omega arith) (omega arith) (test_is (s i).second.kind k)
      (λ h. Iff.trans (reading (s i).second.target i f a b r) (kept r c i (Reads r s c (s i).second.target i f) (settled r s c (s i).second.target i f)))))
      (Iff.trans (kept_or r c i (((0 < k) × ((s i).first.kind ≡ k)) × Reads r s c (s i).first.target i f) (((0 < k) × ((s i).second.kind ≡ k)) × Reads r s c (s i).second.target i f))
      (kept_iff r c i (some_is (s i) k (λ t. Reads r s c t i f)))))

-- after the last date that it may have, a number says what it says there
pub says_after : (n i : ℕ) (z : ℤ) → n ≤ 256 → HasDate n i z → (r : Bool) (c : ℕ) → n ≤ c → c ≤ 256 → Says r c z ↔ Says r n z
unfolding true_from false_from
says_after n i z small (inl e) true c far top = (λ y. omega (arith, ints), λ y. omega (arith, ints))
says_after n i z small (inl e) false c far top = (λ y. omega (arith, ints), λ y. omega (arith, ints))
says_after n i z small (inr (d, p, q, inl e)) true c far top = (λ y. omega (arith, ints), λ y. omega (arith, ints))
says_after n i z small (inr (d, p, q, inl e)) false c far top = (λ y. omega (arith, ints), λ y. omega (arith, ints))
says_after n i z small (inr (d, p, q, inr e)) true c far top = (λ y. omega (arith, ints), λ y. omega (arith, ints))
says_after n i z small (inr (d, p, q, inr e)) false c far top = (λ y. omega (arith, ints), λ y. omega (arith, ints))

-- the theorem, from nominals of their own alone
pub label_reads : (s : Trace) (n v i : ℕ) (f : Tree) → n ≤ 256 → UniqueTo n s → 1 ≤ i → i ≤ n →
    (r : Bool) (c : ℕ) → c ≤ 256 → Decides (dated (label s n v i f) r c) (Reads r s (min c n) v i f)
label_reads s n v i f small one a b r c top =
    elim (cases_lt n c) [
      | inl far ↦
          let e : min c n ≡ n = omega arith in
          subst (λ (k : ℕ). Decides (dated (label s n v i f) r c) (Reads r s k v i f)) (sym e)
          (Iff.trans (dated_says r c (label s n v i f))
          (Iff.trans (says_after n i (label s n v i f) small (labels_have_dates_lem s n v i f small a b) r c (omega (arith, far)) top) (reading s n n small one (omega arith) v i f a b r)))
      | inr near ↦
          let e : min c n ≡ c = omega arith in
          subst (λ (k : ℕ). Decides (dated (label s n v i f) r c) (Reads r s k v i f)) (sym e)
          (Iff.trans (dated_says r c (label s n v i f)) (reading s n c small one near v i f a b r))
    ]

pub labels_read_lem : LabelsRead
labels_read_lem s n v i f small law a b r c low top = label_reads s n v i f small (unique n s law) a b r c top
