-- Records that agree up to a point are lawful alike and read alike up to it.
use Rattle.std.proofs.Common.{◌≡◌, ℕ, zero, suc, ◌<◌, ◌≤◌, Bool, true, false, ◌⊎◌, List, ◌++◌, length, sym, ap, ◌∙◌, subst, arith}
use Rattle.std.proofs.lemmas.List.{get_or_append_left}
use Rattle.logic.specs.declared.types.State.{State}
use Rattle.logic.specs.States.{Trace, Agree, state_at, blank}
use Rattle.logic.specs.Lawful.{LawfulTo, Unfit}
use Rattle.logic.specs.Logic.{Tree, Reads}
use Rattle.logic.proofs.Uniques.{unique}
use Rattle.logic.proofs.Verdicts.{later}

pub agree_back : (n : ℕ) (s u : Trace) → Agree n s u → Agree n u s
agree_back n s u same i p q = sym (same i p q)

pub lawful_alike : (n : ℕ) (s u : Trace) → Agree n s u → LawfulTo n u → LawfulTo n s
lawful_alike n s u same law i p q =
    let e = same i p q in (
      λ h.
          let j = h.1.0 in
          let d : s j ≡ u j = same j h.1.1 (omega (arith, h.1.2)) in
          (law i p q).0 (
            subst (λ (w : State). 0 < w.nominal) e h.0,
            (j, h.1.1, h.1.2, sym (ap (λ (w : State). w.nominal) d) ∙ (h.1.3 ∙ ap (λ (w : State). w.nominal) e)),
          ),
      λ h. (law i p q).1 (subst (λ (w : State). Unfit w.first i ⊎ Unfit w.second i) e h),
    )

-- two lawful traces that agree up to n have the same readings at each point up to n
module _ (n : ℕ) (s u : Trace) (same : Agree n s u) (lawS : LawfulTo n s) (lawU : LawfulTo n u) where
  agree_to : (c : ℕ) → c ≤ n → Agree c s u
  agree_to c le i p q = same i p (omega arith)

  lawful_to : (t : Trace) → LawfulTo n t → (c : ℕ) → c ≤ n → LawfulTo c t
  lawful_to t law c le i p q = law i p (omega arith)

  pub reads_alike : (r : Bool) (c v i : ℕ) (φ : Tree) → c ≤ n → 1 ≤ i → Reads r s c v i φ → Reads r u c v i φ
  reads_alike true c v i φ le p =
      (later u s c c (omega arith) (agree_back c s u (agree_to c le)) (unique c s (lawful_to s lawS c le)) v i φ p).1
  reads_alike false c v i φ le p =
      (later s u c c (omega arith) (agree_to c le) (unique c u (lawful_to u lawU c le)) v i φ p).0

-- a record agrees with what it grows to
pub agree_grown : (xs ys : List State) → Agree (length xs) (state_at xs) (state_at (xs ++ ys))
agree_grown xs ys zero p q = absurd (omega arith)
agree_grown xs ys (suc k) p q = sym (get_or_append_left xs ys blank k (omega arith))
