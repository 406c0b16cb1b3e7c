-- The examples come out right: each claim follows from a test that is computed.
use Rattle.std.proofs.Common.{◌≡◌, ℕ, zero, suc, ◌<◌, ◌≤◌, min, Bool, true, false, not, ◌&&◌, T, ltb, leb, List, [], ◌∷◌, length, get_or, ℤ, ◌≤ℤ◌, Decides, sym, refl, subst, inl, inr, arith}
use lib.Signed.{le_z, le_z_yes}
use Rattle.std.specs.List.{AllByRecursion as All}
use Rattle.std.proofs.lemmas.Int.{ints}
use Rattle.std.proofs.lemmas.Bool.{cases_eq, leb-true, ltb-true, and_parts, false≢true}
use Rattle.std.proofs.lemmas.Bool.Decides.{Decides-at}
use Rattle.logic.specs.declared.types.State.{State}
use Rattle.logic.specs.declared.types.Formula.{Formula}
use Rattle.logic.specs.States.{Trace, state_at}
use Rattle.logic.specs.Logic.{Tree, Reads, strong}
use Rattle.logic.specs.Lawful.{LawfulRecord}
use Rattle.logic.specs.Tables.{OrderlyTable, tree_to, tree, loose}
use Rattle.labels.specs.Dated.{dated}
use Rattle.dating.specs.Dated.{true_from, false_from, seen}
use Rattle.dating.specs.Labels.{until_from, since_to, at_nominal, label}
use Rattle.dating.proofs.Reading.{labels_read_lem}
use Rattle.worked.specs.Examples.{Labelled, Raising, Offered, labels, further_labels, raisings, offers, further_offers}
use Rattle.worked.specs.Claims.{RightLabel, RightRaising, RightRefusal, WorkedExamples, FurtherExamples}
use Rattle.worked.proofs.Tests.{taken', decides_taken, unfit', decides_reference, lawful', lawful_by, orderly', table_by}

-- a claim of every row of a table, from a test of each row
abbrev each : {K : Type 0} → (K → Bool) → List K → Bool
each test [] = true
each test (k ∷ ks) = test k && each test ks

each_by : {K : Type 0} (test : K → Bool) (P : K → Type 0) → ((k : K) → test k ≡ true → P k) → (ks : List K) → each test ks ≡ true → All P ks
each_by test P right [] h = tt
each_by test P right (k ∷ ks) h = let p = and_parts (test k) (each test ks) h in (right k p.0, each_by test P right ks p.1)

same : Bool → Bool → Bool
same true b = b
same false b = not b

same_by : (a b : Bool) → same a b ≡ true → a ≡ b
unfolding same
same_by true b h = sym h
same_by false true h = absurd (false≢true h)
same_by false false h = refl

equal_by : (a b : ℤ) → (le_z a b && le_z b a) ≡ true → a ≡ b
equal_by a b h =
    let p = and_parts (le_z a b) (le_z b a) h in
    let x : a ≤ℤ b = le_z_yes (subst T (sym p.0) tt) in
    let y : b ≤ℤ a = le_z_yes (subst T (sym p.1) tt) in
    omega (arith, ints)

-- the states are lawful and few enough for labels, the table is orderly, and formula f is in it
abbrev sound : List Formula → List State → (f : ℕ) → Bool
sound table xs f = lawful' xs && (orderly' table && (leb (length xs) 256 && ltb f (length table)))

record Sound (table : List Formula) (xs : List State) (f : ℕ) : Type 0 where
  pub lawful : LawfulRecord xs
  pub orderly : OrderlyTable table
  pub few : length xs ≤ 256
  pub there : f < length table

sound_by : (table : List Formula) (xs : List State) (f : ℕ) → sound table xs f ≡ true → Sound table xs f
sound_by table xs f h =
    let p = and_parts (lawful' xs) (orderly' table && (leb (length xs) 256 && ltb f (length table))) h in
    let q = and_parts (orderly' table) (leb (length xs) 256 && ltb f (length table)) p.1 in
    let r = and_parts (leb (length xs) 256) (ltb f (length table)) q.1 in
    record {
      lawful = lawful_by xs p.0;
      orderly = table_by table q.0;
      few = leb-true (length xs) 256 r.0;
      there = ltb-true f (length table) r.1;
    }

label_of : List Formula → List State → (f i : ℕ) → ℤ
label_of table xs f i = label (state_at xs) (length xs) 0 i (tree table f)

-- ── Labels ──
abbrev right_label : Labelled → Bool
right_label k =
    (sound k.table k.states k.formula && same false (loose k.table k.formula))
    && ((leb 1 k.state && leb k.state (length k.states))
    && (le_z (label_of k.table k.states k.formula k.state) k.expected && le_z k.expected (label_of k.table k.states k.formula k.state)))

label_by : (k : Labelled) → right_label k ≡ true → RightLabel k
unfolding label_of
label_by k h =
    let xs : List State = k.states in
    let z : ℤ = label_of k.table xs k.formula k.state in
    let p = and_parts (sound k.table xs k.formula && same false (loose k.table k.formula)) ((leb 1 k.state && leb k.state (length xs)) && (le_z z k.expected && le_z k.expected z)) h in
    let q = and_parts (leb 1 k.state && leb k.state (length xs)) (le_z z k.expected && le_z k.expected z) p.1 in
    let w = and_parts (leb 1 k.state) (leb k.state (length xs)) q.0 in
    let l = and_parts (sound k.table xs k.formula) (same false (loose k.table k.formula)) p.0 in
    let ok = sound_by k.table xs k.formula l.0 in
    let e : z ≡ k.expected = equal_by z k.expected q.1 in
    let low : 1 ≤ k.state = leb-true 1 k.state w.0 in
    let top : k.state ≤ length xs = leb-true k.state (length xs) w.1 in
    record {
      lawful = ok.lawful;
      orderly = ok.orderly;
      formula_there = ok.there;
      closed = sym (same_by false (loose k.table k.formula) l.1);
      state_there = (low, top);
      readings = λ r c c1 c256.
          subst (λ (y : ℤ). Decides (dated y r c) (Reads r (state_at xs) (min c (length xs)) 0 k.state (tree k.table k.formula))) e
          (labels_read_lem (state_at xs) (length xs) 0 k.state (tree k.table k.formula) ok.few ok.lawful low top r c c1 c256);
    }

-- ── Raisings ──
abbrev raised_below : Raising → (m : ℕ) → Bool
raised_below k zero = true
raised_below k (suc p) = same (get_or k.raised p false) (dated (label_of k.table k.states k.condition (suc p)) false (suc p)) && raised_below k p

abbrev right_raising : Raising → Bool
right_raising k = sound k.table k.states k.condition && raised_below k (length k.states)

raised_by : (k : Raising) (m : ℕ) → raised_below k m ≡ true → (p : ℕ) → p < m →
    get_or k.raised p false ≡ dated (label_of k.table k.states k.condition (suc p)) false (suc p)
raised_by k zero h p w = absurd (omega arith)
raised_by k (suc m) h p w =
    let a : Bool = get_or k.raised m false in
    let b : Bool = dated (label_of k.table k.states k.condition (suc m)) false (suc m) in
    let q = and_parts (same a b) (raised_below k m) h in
    elim (cases_eq p m) [
      | inl e ↦ subst (λ (j : ℕ). get_or k.raised j false ≡ dated (label_of k.table k.states k.condition (suc j)) false (suc j)) (sym e) (same_by a b q.0)
      | inr d ↦ raised_by k m q.1 p (omega arith)
    ]

raising_by : (k : Raising) → right_raising k ≡ true → RightRaising k
unfolding label_of
raising_by k h =
    let xs : List State = k.states in
    let φ : Tree = tree k.table k.condition in
    let p = and_parts (sound k.table xs k.condition) (raised_below k (length xs)) h in
    let ok = sound_by k.table xs k.condition p.0 in
    record {
      lawful = ok.lawful;
      orderly = ok.orderly;
      condition_there = ok.there;
      exactly = λ j w.
          let few = ok.few in
          let e : min (suc j) (length xs) ≡ suc j = omega arith in
          Decides-at (get_or k.raised j false) (dated (label_of k.table xs k.condition (suc j)) false (suc j)) (raised_by k (length xs) p.1 j w)
          (subst (λ (c : ℕ). Decides (dated (label (state_at xs) (length xs) 0 (suc j) φ) false (suc j)) (Reads strong (state_at xs) c 0 (suc j) φ)) e
          (labels_read_lem (state_at xs) (length xs) 0 (suc j) φ few ok.lawful (omega arith) w false (suc j) (omega arith) (omega arith)));
    }

-- ── Refusals ──
abbrev right_refusal : Offered → Bool
right_refusal k = same k.nominal_taken (taken' (state_at k.states) k.state) && same k.reference_unfit (unfit' (state_at k.states) k.state)

refusal_by : (k : Offered) → right_refusal k ≡ true → RightRefusal k
refusal_by k h =
    let s : Trace = state_at k.states in
    let p = and_parts (same k.nominal_taken (taken' s k.state)) (same k.reference_unfit (unfit' s k.state)) h in
    record {
      nominal = Decides-at k.nominal_taken (taken' s k.state) (same_by k.nominal_taken (taken' s k.state) p.0) (decides_taken s k.state);
      reference = Decides-at k.reference_unfit (unfit' s k.state) (same_by k.reference_unfit (unfit' s k.state) p.1) (decides_reference s k.state);
    }

pub worked_examples_lem : WorkedExamples
unfolding same label_of tree_to tree loose true_from false_from seen until_from since_to at_nominal label
worked_examples_lem = record {
  right_labels = each_by right_label RightLabel label_by labels refl;
  right_raisings = each_by right_raising RightRaising raising_by raisings refl;
  right_refusals = each_by right_refusal RightRefusal refusal_by offers refl;
}

pub further_examples_lem : FurtherExamples
unfolding same label_of tree_to tree loose true_from false_from seen until_from since_to at_nominal label
further_examples_lem = record {
  right_labels = each_by right_label RightLabel label_by further_labels refl;
  right_refusals = each_by right_refusal RightRefusal refusal_by further_offers refl;
}
