-- The laws of the labels.
use Rattle.std.proofs.Common.{◌≡◌, ℕ, suc, ◌<◌, ◌≤◌, min, Bool, false, ◌⊎◌, List, [], ◌∷◌, ◌++◌, length, ℤ, pos, Decides, sym, refl, ap, ◌∙◌, subst, inl, inr, ⊎_elim, arith, length-append}
use mathlib.Core.Logic.{⊎_map}
use Rattle.std.proofs.lemmas.Bool.{cases_lt, le-leb, cond-true}
use Rattle.std.proofs.lemmas.Bool.Decides.{Decides-at, Decides-like, same_from_decides}
use Rattle.labels.specs.Readings.{Reading, Same}
use Rattle.labels.specs.Dated.{dated}
use Rattle.labels.proofs.Dates.{number_by_meaning}
use Rattle.logic.specs.declared.types.Formula.{Formula}
use Rattle.logic.specs.declared.types.State.{State}
use Rattle.logic.specs.States.{Trace, Agree, state_at}
use Rattle.logic.specs.Lawful.{LawfulTo, LawfulRecord}
use Rattle.logic.specs.Logic.{Tree, Reads, weak, strong}
use Rattle.logic.specs.Tables.{tree, loose}
use Rattle.logic.proofs.Looses.{binding_free}
use Rattle.logic.proofs.Verdicts.{verdicts_are_sound_lem}
use Rattle.dating.specs.Labels.{label}
use Rattle.dating.specs.Laws.{HasDate}
use Rattle.dating.proofs.Ranged.{labels_have_dates_lem}
use Rattle.dating.proofs.Reading.{labels_read_lem}
use Rattle.expectations.specs.declared.types.Label.{Label}
use Rattle.expectations.specs.declared.types.Label.TheVariants.{Unknown, TrueFrom, FalseFrom}
use Rattle.expectations.specs.Expectations.{verdict}
use Rattle.expectations.specs.Laws.{NotBefore, Grown}
use Rattle.growth.specs.Growth.{label_of_number, labels_of}
use Rattle.growth.specs.Laws.{LabelsMean, LabelsAreSound, LabelsGrow, LabelsInOrder, CellsAreLabels, KindsAgree, NotAfter, Right, read_as}
use Rattle.growth.proofs.Told.{number_true, number_false, within_range, number_reads, right_by, unknown_before, same_number}
use Rattle.growth.proofs.Agreeing.{agree_back, lawful_alike, reads_alike, agree_grown}

-- ── What the labels mean ──
module _ (table : List Formula) (xs : List State) (f i : ℕ) (small : length xs ≤ 256) (a : 1 ≤ i) (b : i ≤ length xs) where
  abbrev number : ℤ
  number = label (state_at xs) (length xs) 0 i (tree table f)

  has_date : HasDate (length xs) i number
  has_date = labels_have_dates_lem (state_at xs) (length xs) 0 i (tree table f) small a b

  module _ (law : LawfulRecord xs) (r : Bool) (c : ℕ) (lo : 1 ≤ c) (hi : c ≤ 256) where
    number_right : Decides (dated number r c) (Reads r (state_at xs) (min c (length xs)) 0 i (tree table f))
    number_right = labels_read_lem (state_at xs) (length xs) 0 i (tree table f) small law a b r c lo hi

    verdict_reads : dated number r c ≡ read_as (verdict (labels_of table xs f i) c) r
    unfolding labels_of
    verdict_reads = let p = within_range (length xs) i number small a has_date in number_reads c hi r number p.0 p.1

    verdict_right : Decides (read_as (verdict (labels_of table xs f i) c) r) (Reads r (state_at xs) (min c (length xs)) 0 i (tree table f))
    verdict_right = Decides-at _ (dated number r c) (sym verdict_reads) number_right

pub labels_mean_lem : LabelsMean
labels_mean_lem table xs f i small law a b c lo hi =
    right_by (verdict (labels_of table xs f i) c) _ _
    (verdict_right table xs f i small a b law weak c lo hi)
    (verdict_right table xs f i small a b law strong c lo hi)

pub kinds_agree_lem : {K : Type 0} (reads : K → Reading) (reach : ℕ) → KindsAgree reads reach
kinds_agree_lem reads reach table xs f i small law a b x means c lo hi top r =
    same_from_decides (reads x r c) (read_as (verdict (labels_of table xs f i) c) r) (means r c lo hi) (verdict_right table xs f i small a b law r c lo top)

pub cells_are_labels_lem : CellsAreLabels
unfolding labels_of
cells_are_labels_lem table xs f i small law a b x means =
    let z = number table xs f i small a b in
    let p = within_range (length xs) i z small a (has_date table xs f i small a b) in
    ap label_of_number (number_by_meaning x.value z x.low x.high p.0 p.1 (λ r c lo hi.
    same_from_decides (dated x.value r c) (dated z r c) (means r c lo hi) (number_right table xs f i small a b law r c lo hi)))

-- ── Dates ──
dated_within : (n i : ℕ) (z : ℤ) → n ≤ 256 → HasDate n i z → NotBefore i (label_of_number z) × NotAfter n (label_of_number z)
dated_within n i z small (inl e) = subst (λ (w : Label). NotBefore i w × NotAfter n w) (sym (ap label_of_number e)) (tt, tt)
dated_within n i z small (inr (d, p, q, inl e)) =
    subst (λ (w : Label). NotBefore i w × NotAfter n w) (sym (ap label_of_number e ∙ number_true d (omega arith))) (p, q)
dated_within n i z small (inr (d, p, q, inr e)) =
    subst (λ (w : Label). NotBefore i w × NotAfter n w) (sym (ap label_of_number e ∙ number_false d (omega arith))) (p, q)

pub labels_in_order_lem : LabelsInOrder
unfolding labels_of
labels_in_order_lem table xs small = (
  λ f i a b. (dated_within (length xs) i (number table xs f i small a b) small (has_date table xs f i small a b)).0,
  λ f i a b. (dated_within (length xs) i (number table xs f i small a b) small (has_date table xs f i small a b)).1,
)

-- ── Endless traces ──

-- a formula that is not loose reads the same under every binding
rebound : (table : List Formula) (f : ℕ) (r : Bool) (s : Trace) (c i v w : ℕ) → (loose table f ≡ false) ⊎ (v ≡ w) → Reads r s c v i (tree table f) → Reads r s c w i (tree table f)
unfolding loose
rebound table f r s c i v w (inl closed) h = binding_free s c v w i r (tree table f) closed h
rebound table f r s c i v w (inr e) h = subst (λ (k : ℕ). Reads r s c k i (tree table f)) e h

module _ (table : List Formula) (xs : List State) (f i d : ℕ) (small : length xs ≤ 256) (law : LawfulRecord xs) (a : 1 ≤ i) (b : i ≤ length xs) where
  last : Right (verdict (labels_of table xs f i) (length xs))
      (Reads weak (state_at xs) (length xs) 0 i (tree table f))
      (Reads strong (state_at xs) (length xs) 0 i (tree table f))
  last =
      let e : min (length xs) (length xs) ≡ length xs = omega arith in
      subst (λ (n : ℕ). Right (verdict (labels_of table xs f i) (length xs)) (Reads weak (state_at xs) n 0 i (tree table f)) (Reads strong (state_at xs) n 0 i (tree table f))) e
      (labels_mean_lem table xs f i small law a b (length xs) (omega arith) small)

  not_after : NotAfter (length xs) (labels_of table xs f i)
  not_after = (labels_in_order_lem table xs small).1 f i a b

  strong_last : labels_of table xs f i ≡ TrueFrom d → Reads strong (state_at xs) (length xs) 0 i (tree table f)
  strong_last e =
      let le : d ≤ length xs = subst (NotAfter (length xs)) e not_after in
      last.when_true.0 (ap (λ (w : Label). verdict w (length xs)) e ∙ cond-true _ _ _ (le-leb d (length xs) le))

  weak_last : labels_of table xs f i ≡ FalseFrom d → Reads weak (state_at xs) (length xs) 0 i (tree table f) → ⊥
  weak_last e =
      let le : d ≤ length xs = subst (NotAfter (length xs)) e not_after in
      last.when_false.0 (ap (λ (w : Label). verdict w (length xs)) e ∙ cond-true _ _ _ (le-leb d (length xs) le))

pub labels_are_sound_lem : LabelsAreSound
labels_are_sound_lem table xs f i small a b u begins law v free d =
    let own = lawful_alike (length xs) (state_at xs) u begins (λ j p _. law j p) in
    let right = verdicts_are_sound_lem (state_at xs) u (length xs) v i (tree table f) a begins law in (
      λ e. right.0 (rebound table f strong (state_at xs) (length xs) i 0 v (⊎_map (λ k. k) sym free) (strong_last table xs f i d small own a b e)),
      λ e. right.1 (λ h. weak_last table xs f i d small own a b e (rebound table f weak (state_at xs) (length xs) i v 0 free h)),
    )

-- ── One more state ──
grown_same : (n : ℕ) (l : Label) → Grown n l l
grown_same n Unknown = inl refl
grown_same n (TrueFrom d) = refl
grown_same n (FalseFrom d) = refl

-- z is the number over n states, and z' with one state more
module _ (n i : ℕ) (z z' : ℤ) (small : suc n ≤ 256) (a : 1 ≤ i) (b : i ≤ n) (h : HasDate n i z) (same : Same n (dated z) (dated z')) where
  stays : HasDate n i z' → Grown n (label_of_number z) (label_of_number z')
  stays k =
      let e : z ≡ z' = same_number n i z z' (omega arith) a b h k same in
      subst (λ (w : ℤ). Grown n (label_of_number z) (label_of_number w)) e (grown_same n (label_of_number z))

  was_unknown : Same n (dated z') (dated (pos 0)) → z ≡ pos 0
  was_unknown later = same_number n i z (pos 0) (omega arith) a b h (inl refl) (λ r c lo hi. same r c lo hi ∙ later r c lo hi)

  -- z' is dated at the new state
  new_date : (l : Label) → label_of_number z' ≡ l → Same n (dated z') (dated (pos 0)) → (l ≡ TrueFrom (suc n)) ⊎ (l ≡ FalseFrom (suc n)) → Grown n (label_of_number z) (label_of_number z')
  new_date l e later new =
      subst (λ (w : ℤ). Grown n (label_of_number w) (label_of_number z')) (sym (was_unknown later))
      (inr (⊎_elim (λ k. inl (e ∙ k)) (λ k. inr (e ∙ k)) new))

  grown_by_lem : HasDate (suc n) i z' → Grown n (label_of_number z) (label_of_number z')
  grown_by_lem (inl e) = stays (inl e)
  grown_by_lem (inr (d, p, q, w)) =
      elim (cases_lt n d) [
        | inr near ↦ stays (inr (d, p, near, w))
        | inl far ↦
            let k : d ≡ suc n = omega arith in
            elim w [
              | inl e ↦ new_date (TrueFrom d) (ap label_of_number e ∙ number_true d (omega arith)) (unknown_before n d z' (omega arith) far (inl e)) (inl (ap TrueFrom k))
              | inr e ↦ new_date (FalseFrom d) (ap label_of_number e ∙ number_false d (omega arith)) (unknown_before n d z' (omega arith) far (inr e)) (inr (ap FalseFrom k))
            ]
      ]

module _ (n : ℕ) (s u : Trace) (small : suc n ≤ 256) (same : Agree n s u) (law : LawfulTo (suc n) u) (i : ℕ) (φ : Tree) (a : 1 ≤ i) (b : i ≤ n) where
  law_new : LawfulTo n u
  law_new j p q = law j p (omega arith)

  law_old : LawfulTo n s
  law_old = lawful_alike n s u same law_new

  reads_at : (t : Trace) (m : ℕ) → n ≤ m → m ≤ 256 → LawfulTo m t → (r : Bool) (c : ℕ) → 0 < c → c ≤ n → Decides (dated (label t m 0 i φ) r c) (Reads r t c 0 i φ)
  reads_at t m le top own r c lo hi =
      let e : min c m ≡ c = omega arith in
      subst (λ (k : ℕ). Decides (dated (label t m 0 i φ) r c) (Reads r t k 0 i φ)) e
      (labels_read_lem t m 0 i φ top own a (omega arith) r c lo (omega arith))

  same_readings : Same n (dated (label s n 0 i φ)) (dated (label u (suc n) 0 i φ))
  same_readings r c lo hi =
      same_from_decides (dated (label s n 0 i φ) r c) (dated (label u (suc n) 0 i φ) r c)
      (Decides-like (dated (label s n 0 i φ) r c)
      (reads_alike n s u same law_old law_new r c 0 i φ hi a)
      (reads_alike n u s (agree_back n s u same) law_new law_old r c 0 i φ hi a)
      (reads_at s n (omega arith) (omega arith) law_old r c lo hi))
      (reads_at u (suc n) (omega arith) small law r c lo hi)

  grown_trace : Grown n (label_of_number (label s n 0 i φ)) (label_of_number (label u (suc n) 0 i φ))
  grown_trace =
      grown_by_lem n i (label s n 0 i φ) (label u (suc n) 0 i φ) small a b
      (labels_have_dates_lem s n 0 i φ (omega arith) a b)
      same_readings
      (labels_have_dates_lem u (suc n) 0 i φ small a (omega arith))

pub labels_grow_lem : LabelsGrow
unfolding labels_of
labels_grow_lem table xs x small law f i a b =
    let ys = xs ++ x ∷ [] in
    let n = length xs in
    let e : length ys ≡ suc n = simp length-append (omega arith) in
    subst (λ (m : ℕ). Grown n (label_of_number (label (state_at xs) n 0 i (tree table f))) (label_of_number (label (state_at ys) m 0 i (tree table f)))) (sym e)
    (grown_trace n (state_at xs) (state_at ys) small (agree_grown xs (x ∷ [])) (λ j p q. law j p (omega arith)) i (tree table f) a b)
