-- Tests by which lawful logs and orderly tables are recognised.
use Rattle.std.proofs.Common.{◌≡◌, ℕ, zero, suc, ◌<◌, ◌≤◌, Bool, true, false, not, ◌&&◌, ◌||◌, eqb, ltb, leb, List, length, get_or, Decides, sym, refl, subst, inl, inr, arith}
use Rattle.std.proofs.lemmas.Bool.{cases_eq, leb-true, ltb-true, and_parts}
use Rattle.std.proofs.lemmas.Bool.Decides.{Decides-eqb, Decides-ltb, Decides-and, Decides-not, Decides-like, Decides-below_and, Decides-below_or}
use Rattle.logic.specs.declared.types.State.{State}
use Rattle.logic.specs.declared.types.Formula.{Formula}
use Rattle.logic.specs.declared.types.Formula.TheVariants.{True, Signal, Nominal, Not, And, Or, Next, Previous, Until, Since, At, Variable, Reference as Referring, Bind, Some}
use Rattle.logic.specs.States.{Trace, state_at}
use Rattle.logic.specs.Lawful.{NominalTaken, ReferenceUnfit, Fit, LawfulTo, LawfulRecord}
use Rattle.logic.specs.Tests.{either_unfit}
use Rattle.logic.specs.Tables.{Orderly, OrderlyTable}
use Rattle.logic.proofs.Tested.{either_unfit_decides}

-- ── Lawful logs ──

-- nominal a stands on a state below i
abbrev stands : Trace → (a i : ℕ) → Bool
stands s a zero = false
stands s a (suc j) = (ltb 0 j && eqb (s j).nominal a) || stands s a j

abbrev pub taken' : Trace → ℕ → Bool
taken' s i = ltb 0 (s i).nominal && stands s (s i).nominal i

pub decides_taken : (s : Trace) (i : ℕ) → Decides (taken' s i) (NominalTaken s i)
decides_taken s i =
    let a : ℕ = (s i).nominal in
    Decides-and (ltb 0 a) (stands s a i) (Decides-ltb 0 a)
    (Decides-like (stands s a i) (λ x. (x.0, x.2.0, x.1, x.2.1)) (λ x. (x.0, x.2, (x.1, x.3)))
    (Decides-below_or (λ j. ltb 0 j && eqb (s j).nominal a) (λ j. (1 ≤ j) × ((s j).nominal ≡ a)) (stands s a)
    (λ j. Decides-and (ltb 0 j) (eqb (s j).nominal a) (Decides-ltb 0 j) (Decides-eqb (s j).nominal a)) refl (λ _. refl) i))

abbrev pub unfit' : Trace → ℕ → Bool
unfit' s i = either_unfit (s i) i

pub decides_reference : (s : Trace) (i : ℕ) → Decides (unfit' s i) (ReferenceUnfit s i)
decides_reference s i = either_unfit_decides (s i) i

abbrev fit : Trace → ℕ → Bool
fit s i = not (taken' s i) && not (unfit' s i)

decides_fit : (s : Trace) (i : ℕ) → Decides (fit s i) (Fit s i)
decides_fit s i =
    Decides-and (not (taken' s i)) (not (unfit' s i)) (Decides-not (taken' s i) (decides_taken s i)) (Decides-not (unfit' s i) (decides_reference s i))

abbrev lawful : Trace → (n : ℕ) → Bool
lawful s zero = true
lawful s (suc n) = fit s (suc n) && lawful s n

lawful_states : (s : Trace) (n : ℕ) → lawful s n ≡ true → LawfulTo n s
lawful_states s n h zero low top = absurd (omega arith)
lawful_states s n h (suc k) low top =
    (Decides-below_and (λ j. fit s (suc j)) (λ j. Fit s (suc j)) (lawful s) (λ j. decides_fit s (suc j)) refl (λ _. refl) n).0 h k (omega arith)

abbrev pub lawful' : List State → Bool
lawful' xs = lawful (state_at xs) (length xs)

pub lawful_by : (xs : List State) → lawful' xs ≡ true → LawfulRecord xs
lawful_by xs h = lawful_states (state_at xs) (length xs) h

-- ── Orderly tables ──
abbrev within : (low high n : ℕ) → Bool
within low high n = leb low n && leb n high

within_by : (low high n : ℕ) → within low high n ≡ true → (low ≤ n) × (n ≤ high)
within_by low high n h = let p = and_parts (leb low n) (leb n high) h in (leb-true low n p.0, leb-true n high p.1)

abbrev orderly : (f : ℕ) → Formula → Bool
orderly f True = true
orderly f (Signal b) = ltb b 32
orderly f (Nominal a) = within 1 255 a
orderly f (Not g) = ltb g f
orderly f (And g h) = ltb g f && ltb h f
orderly f (Or g h) = ltb g f && ltb h f
orderly f (Next g) = ltb g f
orderly f (Previous g) = ltb g f
orderly f (Until g h) = ltb g f && ltb h f
orderly f (Since g h) = ltb g f && ltb h f
orderly f (At a g) = within 1 255 a && ltb g f
orderly f Variable = true
orderly f (Referring a) = within 1 15 a
orderly f (Bind g) = ltb g f
orderly f (Some a g) = within 1 15 a && ltb g f

both_below : (f g h : ℕ) → (ltb g f && ltb h f) ≡ true → (g < f) × (h < f)
both_below f g h e = let p = and_parts (ltb g f) (ltb h f) e in (ltb-true g f p.0, ltb-true h f p.1)

named_below : (f g high a : ℕ) → (within 1 high a && ltb g f) ≡ true → ((0 < a) × (a ≤ high)) × (g < f)
named_below f g high a e = let p = and_parts (within 1 high a) (ltb g f) e in (within_by 1 high a p.0, ltb-true g f p.1)

orderly_by : (f : ℕ) (φ : Formula) → orderly f φ ≡ true → Orderly f φ
orderly_by f True e = (tt, tt)
orderly_by f (Signal b) e = (ltb-true b 32 e, tt)
orderly_by f (Nominal a) e = (within_by 1 255 a e, tt)
orderly_by f (Not g) e = (tt, ltb-true g f e)
orderly_by f (And g h) e = (tt, both_below f g h e)
orderly_by f (Or g h) e = (tt, both_below f g h e)
orderly_by f (Next g) e = (tt, ltb-true g f e)
orderly_by f (Previous g) e = (tt, ltb-true g f e)
orderly_by f (Until g h) e = (tt, both_below f g h e)
orderly_by f (Since g h) e = (tt, both_below f g h e)
orderly_by f (At a g) e = named_below f g 255 a e
orderly_by f Variable e = (tt, tt)
orderly_by f (Referring a) e = (within_by 1 15 a e, tt)
orderly_by f (Bind g) e = (tt, ltb-true g f e)
orderly_by f (Some a g) e = named_below f g 15 a e

abbrev all_orderly : List Formula → (m : ℕ) → Bool
all_orderly table zero = true
all_orderly table (suc m) = orderly m (get_or table m True) && all_orderly table m

abbrev pub orderly' : List Formula → Bool
orderly' table = all_orderly table (length table)

all_orderly_by : (table : List Formula) (m : ℕ) → all_orderly table m ≡ true → (f : ℕ) → f < m → Orderly f (get_or table f True)
all_orderly_by table zero h f w = absurd (omega arith)
all_orderly_by table (suc m) h f w =
    let p = and_parts (orderly m (get_or table m True)) (all_orderly table m) h in
    elim (cases_eq f m) [
      | inl e ↦ subst (λ (k : ℕ). Orderly k (get_or table k True)) (sym e) (orderly_by m (get_or table m True) p.0)
      | inr d ↦ all_orderly_by table m p.1 f (omega arith)
    ]

pub table_by : (table : List Formula) → orderly' table ≡ true → OrderlyTable table
table_by table h = all_orderly_by table (length table) h
