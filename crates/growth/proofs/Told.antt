-- What a dated number tells as a label.
use Rattle.std.proofs.Common.{◌≡◌, ℕ, zero, suc, ◌-◌, ◌<◌, ◌≤◌, Bool, true, false, cond, leb, ◌⊎◌, ◌↔◌, ℤ, pos, negsuc, ◌-ℤ◌, ◌≤ℤ◌, Decides, sym, refl, ap, ◌∙◌, subst, inl, inr, ⊎_elim, arith}
use mathlib.Core.Logic.Iff
use Rattle.std.proofs.lemmas.Int.{ints}
use Rattle.std.proofs.lemmas.Bool.{cases_lt, le-leb, lt-leb, cond-true, cond-false, false≢true}
use Rattle.std.proofs.lemmas.Bool.Decides.{same_from_decides}
use Rattle.labels.specs.Readings.{Same}
use Rattle.labels.specs.Dated.{dated}
use Rattle.labels.proofs.Dates.{number_by_meaning}
use Rattle.dating.specs.Dated.{true_from, false_from}
use Rattle.dating.specs.Laws.{HasDate}
use Rattle.dating.proofs.Says.{Says, dated_says, says_unknown}
use Rattle.dating.proofs.Reading.{says_after}
use Rattle.expectations.specs.declared.types.Label.TheVariants.{TrueFrom, FalseFrom}
use Rattle.expectations.specs.declared.types.Verdict.{Verdict}
use Rattle.expectations.specs.declared.types.Verdict.TheVariants as is
use Rattle.expectations.specs.Expectations.{verdict}
use Rattle.growth.specs.Growth.{label_of_number}
use Rattle.growth.specs.Laws.{Right, read_as}

pub number_true : (d : ℕ) → d ≤ 256 → label_of_number (true_from d) ≡ TrueFrom d
unfolding true_from
number_true d h =
    let e : pos 257 -ℤ pos d ≡ pos (suc (256 - d)) = omega (arith, ints) in
    let k : 256 - (256 - d) ≡ d = omega arith in
    ap label_of_number e ∙ ap TrueFrom k

pub number_false : (d : ℕ) → d ≤ 256 → label_of_number (false_from d) ≡ FalseFrom d
unfolding false_from
number_false d h =
    let e : pos d -ℤ pos 257 ≡ negsuc (256 - d) = omega (arith, ints) in
    let k : 256 - (256 - d) ≡ d = omega arith in
    ap label_of_number e ∙ ap FalseFrom k

-- a number with a date is in the range of dated labels
pub within_range : (n i : ℕ) (z : ℤ) → n ≤ 256 → 1 ≤ i → HasDate n i z → (negsuc 255 ≤ℤ z) × (z ≤ℤ pos 256)
unfolding true_from false_from
within_range n i z small a (inl e) = (omega (arith, ints), omega (arith, ints))
within_range n i z small a (inr (d, p, q, inl e)) = (omega (arith, ints), omega (arith, ints))
within_range n i z small a (inr (d, p, q, inr e)) = (omega (arith, ints), omega (arith, ints))

-- ── Verdicts ──
holds : {X : Type 0} → X → Decides true X
holds x = (λ _. x, λ _. refl)

fails : {X : Type 0} → (X → ⊥) → Decides false X
fails n = (λ e. absurd (false≢true e), λ x. absurd (n x))

module _ (c : ℕ) (top : c ≤ 256) where
  abbrev ReadsAs : Bool → Verdict → ℤ → Type 0
  ReadsAs r answer z = Decides (read_as answer r) (Says r c z)

  -- an answer that stands from point d on
  answered : (r : Bool) (d : ℕ) (answer : Verdict) (z : ℤ) → (c < d → ReadsAs r is.Unknown z) → (d ≤ c → ReadsAs r answer z) →
      ReadsAs r (cond (leb d c) answer is.Unknown) z
  answered r d answer z before from =
      elim (cases_lt c d) [
        | inl far ↦ subst (λ (w : Verdict). ReadsAs r w z) (sym (cond-false _ _ _ (lt-leb d c far))) (before far)
        | inr near ↦ subst (λ (w : Verdict). ReadsAs r w z) (sym (cond-true _ _ _ (le-leb d c near))) (from near)
      ]

  number_says : (r : Bool) (z : ℤ) → negsuc 255 ≤ℤ z → z ≤ℤ pos 256 → ReadsAs r (verdict (label_of_number z) c) z
  unfolding true_from false_from
  number_says r (pos zero) lo hi = says_unknown r c top
  number_says true (pos (suc k)) lo hi = answered true (256 - k) is.True (pos (suc k)) (λ far. holds (omega (arith, ints))) (λ near. holds (omega (arith, ints)))
  number_says false (pos (suc k)) lo hi = answered false (256 - k) is.True (pos (suc k)) (λ far. fails (λ y. omega (arith, ints))) (λ near. holds (omega (arith, ints)))
  number_says true (negsuc k) lo hi = answered true (256 - k) is.False (negsuc k) (λ far. holds (omega (arith, ints))) (λ near. fails (λ y. omega (arith, ints)))
  number_says false (negsuc k) lo hi = answered false (256 - k) is.False (negsuc k) (λ far. fails (λ y. omega (arith, ints))) (λ near. fails (λ y. omega (arith, ints)))

  -- the verdict of a number's label reads as the number does
  pub number_reads : (r : Bool) (z : ℤ) → negsuc 255 ≤ℤ z → z ≤ℤ pos 256 → dated z r c ≡ read_as (verdict (label_of_number z) c) r
  number_reads r z lo hi = same_from_decides (dated z r c) (read_as (verdict (label_of_number z) c) r) (dated_says r c z) (number_says r z lo hi)

-- a verdict is fixed by its readings
by_true : (answer : Verdict) → read_as answer false ≡ true → answer ≡ is.True
by_true is.True s = refl
by_true is.False s = absurd (false≢true s)
by_true is.Unknown s = absurd (false≢true s)

by_false : (answer : Verdict) → (read_as answer true ≡ true → ⊥) → answer ≡ is.False
by_false is.True w = absurd (w refl)
by_false is.False w = refl
by_false is.Unknown w = absurd (w refl)

by_unknown : (answer : Verdict) → read_as answer true ≡ true → (read_as answer false ≡ true → ⊥) → answer ≡ is.Unknown
by_unknown is.True w s = absurd (s refl)
by_unknown is.False w s = absurd (false≢true w)
by_unknown is.Unknown w s = refl

-- so it is right of a formula with the same readings
pub right_by : (answer : Verdict) (Weak Strong : Type 0) → Decides (read_as answer true) Weak → Decides (read_as answer false) Strong → Right answer Weak Strong
right_by answer Weak Strong w s = record {
  when_true = (λ e. s.0 (ap (λ (k : Verdict). read_as k false) e), λ h. by_true answer (s.1 h));
  when_false = (
    λ e h. false≢true (sym (ap (λ (k : Verdict). read_as k true) e) ∙ w.1 h),
    λ n. by_false answer (λ k. n (w.0 k)),
  );
  when_unknown = (
    λ e. (w.0 (ap (λ (k : Verdict). read_as k true) e), λ h. false≢true (sym (ap (λ (k : Verdict). read_as k false) e) ∙ s.1 h)),
    λ h. by_unknown answer (w.1 h.0) (λ k. h.1 (s.0 k)),
  );
}

-- ── Numbers that are dated up to point n ──

-- after n they read what they read there
reads_after : (n i : ℕ) (z : ℤ) → n ≤ 256 → HasDate n i z → (r : Bool) (c : ℕ) → n ≤ c → c ≤ 256 → dated z r c ≡ dated z r n
reads_after n i z small h r c far top =
    same_from_decides (dated z r c) (dated z r n) (Iff.trans (dated_says r c z) (says_after n i z small h r c far top)) (dated_says r n z)

-- so they are fixed by their readings up to n
pub same_number : (n i : ℕ) (x y : ℤ) → n ≤ 256 → 1 ≤ i → i ≤ n → HasDate n i x → HasDate n i y → Same n (dated x) (dated y) → x ≡ y
same_number n i x y small a b h k same =
    let p = within_range n i x small a h in
    let q = within_range n i y small a k in
    number_by_meaning x y p.0 p.1 q.0 q.1 (λ r c lo hi.
    ⊎_elim
    (λ (far : n < c). reads_after n i x small h r c (omega arith) hi ∙ (same r n (omega arith) (omega arith) ∙ sym (reads_after n i y small k r c (omega arith) hi)))
    (λ near. same r c lo near)
    (cases_lt n c))

-- a number that is dated after point c says no more there than an unknown one
says_before : (d : ℕ) (z : ℤ) → d ≤ 256 → (z ≡ true_from d) ⊎ (z ≡ false_from d) → (r : Bool) (c : ℕ) → c < d → Says r c z ↔ Says r c (pos 0)
unfolding true_from false_from
says_before d z top (inl e) true c far = (λ y. omega (arith, ints), λ y. omega (arith, ints))
says_before d z top (inl e) false c far = (λ y. omega (arith, ints), λ y. omega (arith, ints))
says_before d z top (inr e) true c far = (λ y. omega (arith, ints), λ y. omega (arith, ints))
says_before d z top (inr e) false c far = (λ y. omega (arith, ints), λ y. omega (arith, ints))

pub unknown_before : (n d : ℕ) (z : ℤ) → d ≤ 256 → n < d → (z ≡ true_from d) ⊎ (z ≡ false_from d) → Same n (dated z) (dated (pos 0))
unknown_before n d z top far h r c lo hi =
    same_from_decides (dated z r c) (dated (pos 0) r c) (Iff.trans (dated_says r c z) (says_before d z top h r c (omega arith))) (dated_says r c (pos 0))
