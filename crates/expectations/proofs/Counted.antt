-- Tallies count what was told.
use Rattle.std.proofs.Common.{◌≡◌, ℕ, zero, suc, ◌+◌, ◌<◌, ◌≤◌, Bool, true, false, ◌&&◌, cond, leb, eqb, List, [], ◌∷◌, ◌++◌, length, get_or, sym, refl, ap, ap₂, ◌∙◌, subst, arith}
use Rattle.std.specs.List.{count_by}
use Rattle.std.proofs.lemmas.List.Sums.{sum_by-append}
use Rattle.std.proofs.lemmas.Bool.{eq-eqb, le-leb}
use Rattle.std.proofs.Math.Bool.{and-true}
use Rattle.std.proofs.lemmas.Bool.Decides.{nat_tests}
use Rattle.logic.specs.declared.types.Rule.{Rule}
use Rattle.logic.specs.Tables.{no_rule}
use Rattle.expectations.specs.declared.types.Label.{Label}
use Rattle.expectations.specs.declared.types.Label.TheVariants.{Unknown, TrueFrom, FalseFrom}
use Rattle.expectations.specs.declared.types.Standing.TheVariants.{NotRaised}
use Rattle.expectations.specs.declared.types.Event.{Event}
use Rattle.expectations.specs.declared.types.Event.TheVariants.{Raising, Fulfilling, Violating}
use Rattle.expectations.specs.declared.types.Notice.{Notice}
use Rattle.expectations.specs.Expectations.{Labels, true_from, false_from, raises, judged, standing, count, is_raised, is_fulfilled, is_violated, notice, only_if, of_state, from_state, from_rule, notices}
use Rattle.expectations.specs.Laws.{NotBefore, InOrder}
use Rattle.expectations.specs.Told.{told_to, same_event, tells_of, times_told}
use Rattle.expectations.specs.Counted.{TalliesTold}
use Rattle.expectations.proofs.Counts.{count_same, raised_is}

-- ── Notices of one state ──
counted : (p : Notice → Bool) (xs ys : List Notice) → count_by p (xs ++ ys) ≡ count_by p xs + count_by p ys
counted p xs ys = sum_by-append (λ x. cond (p x) 1 0) xs ys

one_or_none : (q : Bool) → 0 + cond q 1 0 ≡ cond (q && true) 1 0
one_or_none true = refl
one_or_none false = refl

none : (q : Bool) → ◌≡◌ {A = ℕ} 0 (cond (q && false) 1 0)
none true = refl
none false = refl

only_counted : (p : Notice → Bool) (b : Bool) (x : Notice) → count_by p (only_if b x) ≡ cond (p x && b) 1 0
only_counted p true x = one_or_none (p x)
only_counted p false x = none (p x)

three_counted : (p : Notice → Bool) (a b d : Bool) (x y z : Notice) →
    count_by p (only_if a x ++ (only_if b y ++ only_if d z)) ≡ cond (p x && a) 1 0 + (cond (p y && b) 1 0 + cond (p z && d) 1 0)
three_counted p a b d x y z =
    counted p (only_if a x) (only_if b y ++ only_if d z)
    ∙ ap₂ (λ (m n : ℕ). m + n) (only_counted p a x)
    (counted p (only_if b y) (only_if d z) ∙ ap₂ (λ (m n : ℕ). m + n) (only_counted p b y) (only_counted p d z))

-- the event of an expectation of state s is dated c, where b says if it is raised and z is the label of its content
abbrev dated : Event → (b : Bool) → (z : Label) → (s c : ℕ) → Bool
dated Raising b z s c = b && eqb s c
dated Fulfilling b z s c = b && true_from z c
dated Violating b z s c = b && false_from z c

-- it is dated c or earlier
abbrev come : Event → (b : Bool) → (z : Label) → (s c : ℕ) → Bool
come Raising b z s c = b && leb s c
come Fulfilling b z s c = is_fulfilled (cond b (judged z c) NotRaised)
come Violating b z s c = is_violated (cond b (judged z c) NotRaised)

same_number : (k : ℕ) → eqb k k ≡ true
same_number k = eq-eqb k k refl

module _ (e : Event) (k s : ℕ) (b : Bool) (z : Label) (c : ℕ) where
  -- the notices of point c on the expectation that rule j has of state s
  abbrev all_three : (j : ℕ) → List Notice
  all_three j =
      only_if (dated Raising b z s c) (notice j s Raising) ++
      (only_if (dated Fulfilling b z s c) (notice j s Fulfilling) ++ only_if (dated Violating b z s c) (notice j s Violating))

  three_of : (j : ℕ) → count_by (tells_of k e) (all_three j) ≡
      cond (tells_of k e (notice j s Raising) && dated Raising b z s c) 1 0 +
      (cond (tells_of k e (notice j s Fulfilling) && dated Fulfilling b z s c) 1 0 + cond (tells_of k e (notice j s Violating) && dated Violating b z s c) 1 0)
  three_of j =
      three_counted (tells_of k e) (dated Raising b z s c) (dated Fulfilling b z s c) (dated Violating b z s c)
      (notice j s Raising) (notice j s Fulfilling) (notice j s Violating)

one_kind : (e : Event) (b : Bool) (z : Label) (s c : ℕ) →
    cond (same_event e Raising && dated Raising b z s c) 1 0 +
    (cond (same_event e Fulfilling && dated Fulfilling b z s c) 1 0 + cond (same_event e Violating && dated Violating b z s c) 1 0) ≡ cond (dated e b z s c) 1 0
one_kind Raising b z s c = omega arith
one_kind Fulfilling b z s c = omega arith
one_kind Violating b z s c = omega arith

of_same : (e : Event) (k s : ℕ) (b : Bool) (z : Label) (c : ℕ) → count_by (tells_of k e) (all_three e k s b z c k) ≡ cond (dated e b z s c) 1 0
of_same e k s b z c = three_of e k s b z c k ∙ rw (same_number k) (one_kind e b z s c)

of_other : (e : Event) (j k s : ℕ) (b : Bool) (z : Label) (c : ℕ) → eqb j k ≡ false → count_by (tells_of k e) (all_three e k s b z c j) ≡ 0
of_other e j k s b z c apart = three_of e k s b z c j ∙ rw apart refl

-- ── The states up to a point ──
hits : (ℕ → Bool) → (m s : ℕ) → ℕ
hits p zero s = 0
hits p (suc m) s = cond (p s) 1 0 + hits p m (suc s)

hits_count : (p : ℕ → Bool) (m n : ℕ) → hits p m (suc n) + count p n ≡ count p (n + m)
unfolding hits
hits_count p zero n = let e : n ≡ n + zero = omega arith in omega (arith, ap (count p) e)
hits_count p (suc m) n = let e : suc n + m ≡ n + suc m = omega arith in omega (arith, hits_count p m (suc n), ap (count p) e)

-- ── From one point to the next ──
come_more : (e : Event) (b : Bool) (z : Label) (s n : ℕ) →
    cond (come e b z s (suc n)) 1 0 ≡ cond (come e b z s n) 1 0 + cond (dated e b z s (suc n)) 1 0
come_more Raising false z s n = refl
come_more Raising true z s n = grind (arith, nat_tests)
come_more Fulfilling false z s n = refl
come_more Fulfilling true Unknown s n = refl
come_more Fulfilling true (TrueFrom d) s n = grind (arith, nat_tests)
come_more Fulfilling true (FalseFrom d) s n = grind (arith, nat_tests)
come_more Violating false z s n = refl
come_more Violating true Unknown s n = refl
come_more Violating true (TrueFrom d) s n = grind (arith, nat_tests)
come_more Violating true (FalseFrom d) s n = grind (arith, nat_tests)

-- nothing has come of a state by an earlier point
none_yet : (e : Event) (b : Bool) (z : Label) (n : ℕ) → NotBefore (suc n) z → ◌≡◌ {A = ℕ} (cond (come e b z (suc n) n) 1 0) 0
none_yet Raising false z n o = refl
none_yet Raising true z n o = grind (arith, nat_tests)
none_yet Fulfilling false z n o = refl
none_yet Fulfilling true Unknown n o = refl
none_yet Fulfilling true (TrueFrom d) n o = grind (arith, nat_tests)
none_yet Fulfilling true (FalseFrom d) n o = grind (arith, nat_tests)
none_yet Violating false z n o = refl
none_yet Violating true Unknown n o = refl
none_yet Violating true (TrueFrom d) n o = grind (arith, nat_tests)
none_yet Violating true (FalseFrom d) n o = grind (arith, nat_tests)

raised_by : (b : Bool) (z : Label) (s n : ℕ) → s ≤ n → is_raised (cond b (judged z n) NotRaised) ≡ (b && leb s n)
raised_by b z s n h = let e = le-leb s n h in raised_is b z n ∙ rw e (sym (and-true b))

module _ (L : Labels) (e : Event) (k : ℕ) where
  abbrev hit : Rule → (c s : ℕ) → Bool
  hit r c s = dated e (raises L r s) (L r.content s) s c

  abbrev hit_by : Rule → (c s : ℕ) → Bool
  hit_by r c s = come e (raises L r s) (L r.content s) s c

  -- ── The rules of a point ──
  in_states : (c : ℕ) (r : Rule) (m s : ℕ) → count_by (tells_of k e) (from_state L c k r m s) ≡ hits (hit r c) m s
  unfolding hits
  in_states c r zero s = refl
  in_states c r (suc m) s =
      counted (tells_of k e) (of_state L c k r s) (from_state L c k r m (suc s))
      ∙ ap₂ (λ (a b : ℕ). a + b) (of_same e k s (raises L r s) (L r.content s) c) (in_states c r m (suc s))

  in_other_states : (c j : ℕ) (r : Rule) (m s : ℕ) → eqb j k ≡ false → count_by (tells_of k e) (from_state L c j r m s) ≡ 0
  in_other_states c j r zero s apart = refl
  in_other_states c j r (suc m) s apart =
      counted (tells_of k e) (of_state L c j r s) (from_state L c j r m (suc s))
      ∙ ap₂ (λ (a b : ℕ). a + b) (of_other e j k s (raises L r s) (L r.content s) c apart) (in_other_states c j r m (suc s) apart)

  in_later_rules : (c j : ℕ) (rs : List Rule) → k < j → count_by (tells_of k e) (from_rule L c j rs) ≡ 0
  in_later_rules c j [] lt = refl
  in_later_rules c j (r ∷ rs) lt =
      let apart : eqb j k ≡ false = grind (arith, nat_tests) in
      counted (tells_of k e) (from_state L c j r c 1) (from_rule L c (suc j) rs)
      ∙ ap₂ (λ (a b : ℕ). a + b) (in_other_states c j r c 1 apart) (in_later_rules c (suc j) rs (omega arith))

  in_rules : (c j p : ℕ) (rs : List Rule) → k ≡ j + p → p < length rs → count_by (tells_of k e) (from_rule L c j rs) ≡ hits (hit (get_or rs p no_rule) c) c 1
  in_rules c j p [] at lt = absurd (omega arith)
  in_rules c j zero (r ∷ rs) at lt =
      let here : k ≡ j = omega arith in
      counted (tells_of k e) (from_state L c j r c 1) (from_rule L c (suc j) rs)
      ∙ ap₂ (λ (a b : ℕ). a + b)
      (subst (λ i. count_by (tells_of k e) (from_state L c i r c 1) ≡ hits (hit r c) c 1) here (in_states c r c 1))
      (in_later_rules c (suc j) rs (omega arith))
      ∙ omega arith
  in_rules c j (suc p) (r ∷ rs) at lt =
      let apart : eqb j k ≡ false = grind (arith, nat_tests) in
      counted (tells_of k e) (from_state L c j r c 1) (from_rule L c (suc j) rs)
      ∙ ap₂ (λ (a b : ℕ). a + b) (in_other_states c j r c 1 apart) (in_rules c (suc j) p rs (omega arith) (omega arith))
      ∙ omega arith

  at_point : (c : ℕ) (rs : List Rule) → k < length rs → count_by (tells_of k e) (notices L rs c) ≡ count (hit (get_or rs k no_rule) c) c
  at_point c rs lt =
      let z : 0 + c ≡ c = omega arith in
      in_rules c 0 k rs (omega arith) lt ∙ omega (arith, hits_count (hit (get_or rs k no_rule) c) c 0, ap (count (hit (get_or rs k no_rule) c)) z)

  -- ── All points ──
  more_below : (r : Rule) (n m : ℕ) → count (hit_by r (suc n)) m ≡ count (hit_by r n) m + count (hit r (suc n)) m
  more_below r n zero = refl
  more_below r n (suc m) = omega (arith, more_below r n m, come_more e (raises L r (suc m)) (L r.content (suc m)) (suc m) n)

  times_come : (N : ℕ) (rs : List Rule) (n : ℕ) → InOrder N L → n ≤ N → k < length rs → times_told L rs n k e ≡ count (hit_by (get_or rs k no_rule) n) n
  times_come N rs zero o le lt = refl
  times_come N rs (suc n) o le lt =
      let r = get_or rs k no_rule in
      omega (
        arith,
        counted (tells_of k e) (told_to L rs n) (notices L rs (suc n)),
        times_come N rs n o (omega arith) lt,
        at_point (suc n) rs lt,
        more_below r n n,
        come_more e (raises L r (suc n)) (L r.content (suc n)) (suc n) n,
        none_yet e (raises L r (suc n)) (L r.content (suc n)) n (o r.content (suc n) (omega arith) le),
      )

pub tallies_told_lem : TalliesTold
tallies_told_lem N labels rules o n k le lt =
    let r = get_or rules k no_rule in (
      count_same (λ s. is_raised (standing labels r s n)) (hit_by labels Raising k r n) n
          (λ s a b. raised_by (raises labels r s) (labels r.content s) s n b)
          ∙ sym (times_come labels Raising k N rules n o le lt),
      sym (times_come labels Fulfilling k N rules n o le lt),
      sym (times_come labels Violating k N rules n o le lt),
    )
