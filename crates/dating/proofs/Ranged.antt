-- A label's date lies between its state and the last one.
use Rattle.std.proofs.Common.{◌≡◌, ℕ, zero, suc, ◌+◌, ◌-◌, ◌≤◌, Bool, true, false, cond, eqb, ltb, ℤ, pos, negsuc, neg_ℤ, ◌≤ℤ◌, ◌<ℤ◌, refl, inl, inr, arith}
use lib.Signed.{lt_z}
use Rattle.std.specs.Int.{int_max, int_min}
use Rattle.std.proofs.lemmas.Int.{ints, clamps}
use Rattle.std.proofs.lemmas.Bool.{ltb-true}
use Rattle.logic.specs.States.{Trace}
use Rattle.logic.specs.Logic.{Tree, true', signal, nominal, not', and', or', next, previous, until, since, at', variable, reference, bind, some'}
use Rattle.dating.specs.Dated.{true_from, false_from, seen}
use Rattle.dating.specs.Labels.{at_once, shows, carries, is_kind, refers, until_from, since_to, at_nominal, label}
use Rattle.dating.specs.Laws.{HasDate, LabelsHaveDates}

-- z is at most as decided as state i allows, and at least as decided as n allows
abbrev pub Ranged : (n i : ℕ) → ℤ → Type 0
Ranged n i z = (false_from i ≤ℤ z) × (z ≤ℤ true_from i) × (pos 0 <ℤ z → true_from n ≤ℤ z) × (z <ℤ pos 0 → z ≤ℤ false_from n)

module _ (n i : ℕ) (small : n ≤ 256) (b : i ≤ n) where
  ranged_true : Ranged n i (true_from i)
  unfolding true_from false_from
  ranged_true = omega (arith, ints)

  ranged_false : Ranged n i (false_from i)
  unfolding true_from false_from
  ranged_false = omega (arith, ints)

  ranged_unknown : Ranged n i (pos 0)
  unfolding true_from false_from
  ranged_unknown = omega (arith, ints)

  ranged_neg : (x : ℤ) → Ranged n i x → Ranged n i (neg_ℤ x)
  unfolding true_from false_from
  ranged_neg x h = omega (arith, ints)

  ranged_seen : (j : ℕ) (x : ℤ) → Ranged n j x → Ranged n i (seen i x)
  unfolding true_from false_from seen
  ranged_seen j x h = omega (arith, ints, clamps)

  ranged_cond : (t : Bool) (x y : ℤ) → Ranged n i x → Ranged n i y → Ranged n i (cond t x y)
  ranged_cond true x y h k = h
  ranged_cond false x y h k = k

  -- the smaller and the greater of two are one of them
  ranged_min : (x y : ℤ) → Ranged n i x → Ranged n i y → Ranged n i (int_min x y)
  ranged_min x y h k = ranged_cond (lt_z y x) y x k h

  ranged_max : (x y : ℤ) → Ranged n i x → Ranged n i y → Ranged n i (int_max x y)
  ranged_max x y h k = ranged_cond (lt_z y x) x y h k

ranged_before : (n i : ℕ) (x : ℤ) → Ranged n (suc i) x → Ranged n i x
unfolding true_from false_from
ranged_before n i x h = omega (arith, ints)

module _ (s : Trace) (n : ℕ) (small : n ≤ 256) where
  abbrev Each : (ℕ → ℤ) → Type 0
  Each A = (j : ℕ) → 1 ≤ j → j ≤ n → Ranged n j (A j)

  ranged_until : (A B : ℕ → ℤ) → Each A → Each B → (m i : ℕ) → 1 ≤ i → i ≤ n → i + m ≡ n → Ranged n i (until_from A B (suc m) i)
  unfolding until_from
  ranged_until A B p q zero i a b e =
      ranged_max n i small b (B i) (int_min (A i) (pos 0)) (q i a b) (ranged_min n i small b (A i) (pos 0) (p i a b) (ranged_unknown n i small b))
  ranged_until A B p q (suc m) i a b e =
      let own : ℤ = until_from A B (suc m) (suc i) in
      ranged_max n i small b (B i) (int_min (A i) own) (q i a b)
      (ranged_min n i small b (A i) own (p i a b) (ranged_before n i own (ranged_until A B p q m (suc i) (omega arith) (omega arith) (omega arith))))

  ranged_since : (A B : ℕ → ℤ) → Each A → Each B → (i : ℕ) → 1 ≤ i → i ≤ n → Ranged n i (since_to A B i)
  unfolding since_to
  ranged_since A B p q zero a b = absurd (omega arith)
  ranged_since A B p q (suc zero) a b = q 1 a b
  ranged_since A B p q (suc (suc j)) a b =
      let i : ℕ = suc (suc j) in
      let own : ℤ = since_to A B (suc j) in
      ranged_max n i small b (B i) (int_min (A i) (seen i own)) (q i a b)
      (ranged_min n i small b (A i) (seen i own) (p i a b) (ranged_seen n i small b (suc j) own (ranged_since A B p q (suc j) (omega arith) (omega arith))))

  ranged_nominal : (a : ℕ) (B : ℕ → ℤ) (i : ℕ) → i ≤ n → ((t : ℕ) → 1 ≤ t → t ≤ n → Ranged n i (B t)) → (m : ℕ) → m ≤ n → Ranged n i (at_nominal s a B m)
  unfolding at_nominal
  ranged_nominal a B i b p zero le = ranged_unknown n i small b
  ranged_nominal a B i b p (suc m) le =
      ranged_cond n i small b (carries (s (suc m)) a) (B (suc m)) (at_nominal s a B m) (p (suc m) (omega arith) le) (ranged_nominal a B i b p m (omega arith))

  ranged_next : (A : ℕ → ℤ) → Each A → (i : ℕ) → i ≤ n → (t : Bool) → ltb i n ≡ t → Ranged n i (cond t (A (suc i)) (pos 0))
  ranged_next A p i b true e = ranged_before n i (A (suc i)) (p (suc i) (omega arith) (ltb-true i n e))
  ranged_next A p i b false e = ranged_unknown n i small b

  ranged_once : (i : ℕ) → i ≤ n → (t : Bool) → Ranged n i (at_once i t)
  ranged_once i b t = ranged_cond n i small b t (true_from i) (false_from i) (ranged_true n i small b) (ranged_false n i small b)

  ranged_previous : (A : ℕ → ℤ) → Each A → (i : ℕ) → i ≤ n → (t : Bool) → ltb 1 i ≡ t → Ranged n i (cond t (seen i (A (i - 1))) (false_from i))
  ranged_previous A p i b true e = let m = ltb-true 1 i e in ranged_seen n i small b (i - 1) (A (i - 1)) (p (i - 1) (omega arith) (omega arith))
  ranged_previous A p i b false e = ranged_false n i small b

  pub ranged : (v i : ℕ) (f : Tree) → 1 ≤ i → i ≤ n → Ranged n i (label s n v i f)
  unfolding label
  ranged v i true' a b = ranged_true n i small b
  ranged v i (signal k) a b = ranged_once i b (shows (s i) k)
  ranged v i (nominal k) a b = ranged_once i b (carries (s i) k)
  ranged v i (not' f) a b = ranged_neg n i small b (label s n v i f) (ranged v i f a b)
  ranged v i (and' f g) a b = ranged_min n i small b (label s n v i f) (label s n v i g) (ranged v i f a b) (ranged v i g a b)
  ranged v i (or' f g) a b = ranged_max n i small b (label s n v i f) (label s n v i g) (ranged v i f a b) (ranged v i g a b)
  ranged v i (next f) a b = ranged_next (λ j. label s n v j f) (λ j x y. ranged v j f x y) i b (ltb i n) refl
  ranged v i (previous f) a b = ranged_previous (λ j. label s n v j f) (λ j x y. ranged v j f x y) i b (ltb 1 i) refl
  ranged v i (until f g) a b =
      let e : suc n - i ≡ suc (n - i) = omega arith in
      rw e (ranged_until (λ j. label s n v j f) (λ j. label s n v j g) (λ j x y. ranged v j f x y) (λ j x y. ranged v j g x y) (n - i) i a b (omega arith))
  ranged v i (since f g) a b = ranged_since (λ j. label s n v j f) (λ j. label s n v j g) (λ j x y. ranged v j f x y) (λ j x y. ranged v j g x y) i a b
  ranged v i (at' k f) a b =
      ranged_nominal k (λ t. seen i (label s n v t f)) i b (λ t x y. ranged_seen n i small b t (label s n v t f) (ranged v t f x y)) n (omega arith)
  ranged v i variable a b = ranged_once i b (eqb i v)
  ranged v i (reference k) a b = ranged_once i b (refers (s i) k v)
  ranged v i (bind f) a b = ranged i i f a b
  ranged v i (some' k f) a b =
      ranged_max n i small b (cond (is_kind k (s i).first) (label s n (s i).first.target i f) (false_from i)) (cond (is_kind k (s i).second) (label s n (s i).second.target i f) (false_from i))
      (ranged_cond n i small b (is_kind k (s i).first) (label s n (s i).first.target i f) (false_from i) (ranged (s i).first.target i f a b) (ranged_false n i small b))
      (ranged_cond n i small b (is_kind k (s i).second) (label s n (s i).second.target i f) (false_from i) (ranged (s i).second.target i f a b) (ranged_false n i small b))

has_date : (n i : ℕ) (z : ℤ) → n ≤ 256 → i ≤ n → Ranged n i z → HasDate n i z
unfolding true_from false_from
has_date n i (pos zero) small b h = inl refl
has_date n i (pos (suc m)) small b h =
    let k : true_from n ≤ℤ pos (suc m) = h.2 (omega (arith, ints)) in
    let u = h.1 in
    inr (256 - m, omega (arith, ints), omega (arith, ints), inl (omega (arith, ints)))
has_date n i (negsuc m) small b h =
    let k : negsuc m ≤ℤ false_from n = h.3 (omega (arith, ints)) in
    let u = h.0 in
    inr (256 - m, omega (arith, ints), omega (arith, ints), inr (omega (arith, ints)))

pub labels_have_dates_lem : LabelsHaveDates
labels_have_dates_lem s n v i f small a b = has_date n i (label s n v i f) small b (ranged s n small v i f a b)
