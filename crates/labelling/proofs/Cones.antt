-- The loose rows that a row is made of. Assumes nothing.
use Rattle.std.proofs.Common.{◌≡◌, ℕ, ◌+◌, ◌<◌, ◌≤◌, Bool, true, false, List, length, get_or, sym, ap, ◌∙◌, subst, inr, ⊎_elim, arith}
use Rattle.std.proofs.lemmas.Bool.{cases_lt, cases_eq, true≢false}
use Rattle.logic.specs.declared.types.Formula.{Formula}
use Rattle.logic.specs.declared.types.Formula.TheVariants.{True}
use Rattle.logic.specs.Tables.{EachPart, binds, OrderlyTable, Flagged, loose}
use Rattle.logic.proofs.Rows.{each_map, each_both, loose_is, loose_unbound}
use Rattle.labelling.specs.Bound.{Wanted, Grown, Cone, Ready}

-- the wanted formulas are flagged and not past formula a, and with each from k on its parts are wanted
abbrev pub ConeFrom : List Formula → List Bool → List Bool → (a k : ℕ) → Type 0
ConeFrom table flags wanted a k =
    ((g : ℕ) → get_or wanted g false ≡ true → (get_or flags g false ≡ true) × (g ≤ a))
    × ((g : ℕ) → k ≤ g → get_or wanted g false ≡ true → EachPart (Wanted flags wanted) (get_or table g True))
    × Wanted flags wanted a

-- one formula more is wanted, that of a part
pub grown_more : (f x : ℕ) (flags old mid new : List Bool) → x < f → Grown f flags old mid → Grown (x + 1) flags mid new → Grown f flags old new
grown_more f x flags old mid new below g h k = (
  (λ t. (h k).0 ((g k).0 t)),
  (λ past. (h k).1 (omega arith) ∙ (g k).1 past),
  (λ t. ⊎_elim (λ u. (g k).2 u) (λ u. inr u) ((h k).2 t)),
)

module _ (flags : List Bool) where
  pub wanted_grown : (f : ℕ) (a b : List Bool) (x : ℕ) → Grown f flags a b → Wanted flags a x → Wanted flags b x
  wanted_grown f a b x g w = λ l. (g x).0 (w l)

module _ (table : List Formula) (orderly : OrderlyTable table) (flags : List Bool) (flagged : Flagged table flags (length table)) (a : ℕ) (within : a < length table) where
  pub cone_start : (old new : List Bool) → ((k : ℕ) → get_or old k false ≡ false) → Grown (a + 1) flags old new → Wanted flags new a → ConeFrom table flags new a (a + 1)
  cone_start old new none g w =
      let low : (k : ℕ) → get_or new k false ≡ true → k ≤ a = λ k h.
      ⊎_elim (λ (z : a < k). absurd (true≢false (sym h ∙ (g k).1 (omega arith) ∙ none k))) (λ (z : k ≤ a). z) (cases_lt a k) in (
        (λ k h. (⊎_elim (λ z. absurd (true≢false (sym z ∙ none k))) (λ z. z) ((g k).2 h), low k h)),
        (λ k le h. absurd (omega (arith, low k h))),
        w,
      )

  pub cone_plain : (now : List Bool) (j k : ℕ) → ConeFrom table flags now a j → get_or now k false ≡ true → binds (get_or table k True) ≡ false
  cone_plain now j k inv h =
      let top = inv.0 k h in
      let lt : k < length table = omega (arith, top.1) in
      loose_unbound (get_or table k True) (loose table) (sym (loose_is table orderly k lt) ∙ sym (flagged k lt) ∙ top.0)

  pub cone_turn : (old new : List Bool) (j k : ℕ) → j ≡ k + 1 → k ≤ a → Grown k flags old new → EachPart (Wanted flags new) (get_or table k True) → ConeFrom table flags old a j → ConeFrom table flags new a k
  cone_turn old new j k is le g ready inv = (
    (λ x h.
        ⊎_elim
        (λ z. inv.0 x z)
        (λ z. (z, ⊎_elim (λ (u : x < k). omega arith) (λ (u : k ≤ x). (inv.0 x (sym ((g x).1 u) ∙ h)).1) (cases_lt x k)))
        ((g x).2 h)),
    (λ x from h.
        ⊎_elim
        (λ (e : x ≡ k). subst (λ y. EachPart (Wanted flags new) (get_or table y True)) (sym e) ready)
        (λ ne.
        each_map (get_or table x True) (Wanted flags old) (Wanted flags new) (λ y. wanted_grown flags k old new y g) (inv.1 x (omega (arith, ne)) (sym ((g x).1 from) ∙ h)))
        (cases_eq x k)),
    wanted_grown flags k old new a g inv.2,
  )

  pub cone_skip : (now : List Bool) (j k : ℕ) → j ≡ k + 1 → get_or now k false ≡ false → ConeFrom table flags now a j → ConeFrom table flags now a k
  cone_skip now j k is off inv = (
    inv.0,
    (λ x from h.
        ⊎_elim
        (λ (e : x ≡ k). absurd (true≢false (sym h ∙ ap (λ y. get_or now y false) e ∙ off)))
        (λ ne. inv.1 x (omega (arith, ne)) h)
        (cases_eq x k)),
    inv.2,
  )

  ready_from : (now : List Bool) (x : ℕ) → x < length table → Wanted flags now x → Ready table now x
  ready_from now x lt w = λ l. w (flagged x lt ∙ l)

  pub cone_end : (now : List Bool) (k : ℕ) → k ≤ 0 → ConeFrom table flags now a k → Cone table now (length table) × Ready table now a
  cone_end now k none inv = (
    (λ x lt h. (
      sym (flagged x lt) ∙ (inv.0 x h).0,
      each_both (get_or table x True) (λ y. y < x) (Wanted flags now) (Ready table now) (λ y less w. ready_from now y (omega arith) w) (orderly x lt).1 (inv.1 x (omega arith) h),
    )),
    ready_from now a within inv.2,
  )
