-- The nominals that a pass over the states has seen. Assumes nothing.
use Rattle.std.proofs.Common.{◌≡◌, ℕ, ◌+◌, ◌<◌, ◌≤◌, Bool, true, false, ◌≢◌, ◌⊎◌, List, length, get_or, set, replicate, Decides, sym, ap, ◌∙◌, subst, ⊎_elim, arith, length-set, get_or-set_other, get_or-set_same}
use lib.ListN.{get_or-replicate, length-replicate}
use Rattle.std.proofs.lemmas.Bool.{cases_eq, cases_lt, false≢true}
use Rattle.std.proofs.lemmas.List.{get_or_past}
use Rattle.std.proofs.lemmas.Bool.Decides.{not_from_Decides}
use Rattle.logic.specs.declared.types.State.{State}
use Rattle.logic.specs.States.{Trace}
use Rattle.logic.specs.Lawful.{NominalTaken, Unfit, Fit}

-- some state before i carries the nominal
abbrev pub Carried : Trace → (i a : ℕ) → Type 0
Carried s i a = (j : ℕ) × (1 ≤ j) × (j < i) × ((s j).nominal ≡ a)

-- the flags of the nominals above 0 say which of them the states before i carry
abbrev pub Seen : Trace → (i : ℕ) → List Bool → Type 0
Seen s i seen = (a : ℕ) → 0 < a → Decides (get_or seen a false) (Carried s i a)

-- what the pass keeps
abbrev pub Passed : Trace → (i : ℕ) → List Bool → Type 0
Passed s i seen = (length seen ≡ 256) × Seen s i seen × ((j : ℕ) → 1 ≤ j → j < i → Fit s j)

none_seen : (a : ℕ) → get_or (replicate 256 false) a false ≡ false
none_seen a = ⊎_elim (λ (w : a < 256). get_or-replicate 256 a false false w) (λ (w : 256 ≤ a). get_or_past (replicate 256 false) a false (simp length-replicate w)) (cases_lt a 256)

pub passed_none : (s : Trace) → Passed s 1 (replicate 256 false)
passed_none s = (
  length-replicate 256 false,
  (λ a pos. ((λ t. absurd (false≢true (sym (none_seen a) ∙ t))), (λ u. absurd (omega (arith, u.1, u.2))))),
  (λ j lo hi. absurd (omega arith)),
)

module _ (s : Trace) (i : ℕ) (one : 1 ≤ i) (seen : List Bool) (passed : Passed s i seen) where
  -- the nominal of the next state is taken if it was seen, and only then
  pub taken_decides : (b : Bool) → Decides b ((0 < (s i).nominal) × (get_or seen (s i).nominal false ≡ true)) → Decides b (NominalTaken s i)
  taken_decides b d =
      let here = (s i).nominal in
      ((λ t. let w = d.0 t in (w.0, (passed.1 here w.0).0 w.1)), (λ t. d.1 (t.0, (passed.1 here t.0).1 t.1)))

  pub passed_more : (s i).nominal < 256 → Fit s i → Passed s (i + 1) (set seen (s i).nominal true)
  passed_more small fit =
      let m = (s i).nominal in (
        simp length-set passed.0,
        (λ a pos.
            ⊎_elim
            (λ (e : a ≡ m). (
              (λ t. (i, one, omega arith, sym e)),
              (λ u. ap (λ k. get_or (set seen m true) k false) e ∙ get_or-set_same seen m true false (omega (arith, passed.0))),
            ))
            (λ (ne : a ≢ m).
            let same = get_or-set_other seen m a true false ne in (
              (λ t. let u = (passed.1 a pos).0 (sym same ∙ t) in (u.0, u.1, omega (arith, u.2), u.3)),
              (λ u. same ∙ (passed.1 a pos).1 (
                u.0,
                u.1,
                ⊎_elim (λ (z : u.0 ≡ i). absurd (ne (sym u.3 ∙ ap (λ j. (s j).nominal) z))) (λ z. omega (arith, u.2, z)) (cases_eq u.0 i),
                u.3,
              )),
            ))
            (cases_eq a m)),
        (λ j lo hi. ⊎_elim (λ (e : j ≡ i). subst (Fit s) (sym e) fit) (λ ne. passed.2 j lo (omega (arith, ne))) (cases_eq j i)),
      )

  -- one state more, of which neither the nominal nor a reference is refused
  pub passed_step : (q : State) → q ≡ s i → (m : ℕ) → m ≡ q.nominal → (b u : Bool) → b ≡ false → u ≡ false → m < 256
      → Decides b ((0 < m) × (get_or seen m false ≡ true)) → Decides u (Unfit q.first i ⊎ Unfit q.second i)
      → Passed s (i + 1) (set seen m true)
  passed_step q is m m-is b u b-no u-no =
      let P : State → Type 0 = λ x. x.nominal < 256 → Decides b ((0 < x.nominal) × (get_or seen x.nominal false ≡ true)) → Decides u (Unfit x.first i ⊎ Unfit x.second i) → Passed s (i + 1) (set seen x.nominal true) in
      let Q : ℕ → Type 0 = λ k. k < 256 → Decides b ((0 < k) × (get_or seen k false ≡ true)) → Decides u (Unfit q.first i ⊎ Unfit q.second i) → Passed s (i + 1) (set seen k true) in
      subst Q (sym m-is) (subst P (sym is) (λ small d unfit. passed_more small (not_from_Decides b (taken_decides b d) b-no, not_from_Decides u unfit u-no)))
