-- Rows that tell of formulas, from the rows of their parts. Assumes nothing.
use Rattle.std.proofs.Common.{◌≡◌, ℕ, suc, ◌+◌, ◌-◌, ◌<◌, ◌≤◌, min, Bool, true, false, not, ◌&&◌, ◌||◌, cond, ltb, List, length, Option, None, Some, Decides, MatchOption, sym, refl, ap, ◌∙◌, ⊎_elim, arith}
use Rattle.std.proofs.lemmas.Bool.{cases_lt, cases_eq, false≢true, lt-ltb, le-ltb, cond-true, cond-false}
use Rattle.std.proofs.lemmas.Bool.Decides.{Decides-like, Decides-at, Decides-and, Decides-or, Decides-not, same_from_decides}
use Rattle.labels.specs.Readings.{Reading, Same, opened, negated, both, either, seen}
use Rattle.logic.specs.States.{Trace}
use Rattle.logic.specs.Logic.{Tree, not', and', or', next, previous, until, since, at', Carries, Nameless, Reads, is_loose}
use Rattle.logic.proofs.Keeps.{kept_in, kept_out, past}
use Rattle.logic.proofs.Looses.{binding_free}
use Rattle.logic.proofs.Uniques.{UniqueTo}
use Rattle.labelling.specs.Rows.{cell, at, prior, Filled}
use Rattle.labelling.specs.Tells.{Tells, NamedState}
use Rattle.labelling.proofs.Cells.{cell_past}
use Rattle.labelling.proofs.Fills.{prior_next, prior_none, until_at, UntilFrom, since_at}
use Rattle.labelling.proofs.Decisions.{DecidedTo}
use Rattle.labelling.proofs.Readings.{until_decides, since_decides, at_kept, at_none}

twice : (e : Bool) → not (not e) ≡ e
twice true = refl
twice false = refl

both_same : (e : Bool) → (e && e) ≡ e
both_same true = refl
both_same false = refl

either_same : (e : Bool) → (e || e) ≡ e
either_same true = refl
either_same false = refl

absorbed : (e z : Bool) → (e || (e && z)) ≡ e
absorbed true z = refl
absorbed false z = refl

module _ {K : Type 0} (reads : K → Reading) (reach n : ℕ) (s : Trace) (v : ℕ) where
  -- past the point, or past the last state, a row that tells of a formula is unknown
  pub tells_past : (φ : Tree) (xs : List K) → Tells reads reach n s v φ xs → (e : Bool) (c i : ℕ) → 0 < c → c ≤ reach → min c n < i → at reads xs i e c ≡ e
  tells_past φ xs t e c i lo hi w = same_from_decides _ _ (t e c i lo hi (omega arith)) (past e s (min c n) v i φ w)

  -- another binding, for a formula that is not loose
  pub tells_any : (w : ℕ) (φ : Tree) (xs : List K) → is_loose φ ≡ false → Tells reads reach n s v φ xs → Tells reads reach n s w φ xs
  tells_any w φ xs closed t e c i lo hi pos =
      Decides-like _ (binding_free s (min c n) v w i e φ closed) (binding_free s (min c n) w v i e φ closed) (t e c i lo hi pos)

  -- a row that is filled by a rule tells of a formula if the rule does, up to the point, and is unknown past it
  module _ (own : List K) (long : length own ≡ n) (F : ℕ → Reading) (filled : Filled reads reach F own n) where
    own_past : ((e : Bool) (c i : ℕ) → 0 < c → c ≤ reach → c < i → i ≤ n → F (i - 1) e c ≡ e) → (e : Bool) (c i : ℕ) → 0 < c → c ≤ reach → min c n < i → at reads own i e c ≡ e
    own_past un e c i lo hi w =
        ⊎_elim
        (λ (z : n < i). cell_past reads own (i - 1) e c (omega arith))
        (λ (z : i ≤ n). filled (i - 1) e c (omega arith) lo hi ∙ un e c i lo hi (omega arith) z)
        (cases_lt n i)

    pub tells_by : (φ : Tree)
        → ((e : Bool) (c i : ℕ) → 0 < c → c ≤ reach → c < i → i ≤ n → F (i - 1) e c ≡ e)
        → ((e : Bool) (c i : ℕ) → 0 < c → c ≤ reach → 0 < i → i ≤ min c n → Decides (F (i - 1) e c) (Reads e s (min c n) v i φ))
        → Tells reads reach n s v φ own
    tells_by φ un here e c i lo hi pos =
        ⊎_elim
        (λ (w : min c n < i). Decides-at _ _ (own_past un e c i lo hi w) (past e s (min c n) v i φ w))
        (λ (w : i ≤ min c n). Decides-at _ _ (filled (i - 1) e c (omega arith) lo hi) (here e c i lo hi pos w))
        (cases_lt (min c n) i)

  module _ (own : List K) (long : length own ≡ n) where
    -- a row whose labels decide the formula at each of its states tells of it
    pub tells_decided : (φ : Tree) → DecidedTo reads reach (λ i e c. Reads e s (min c n) v i φ) own n → Tells reads reach n s v φ own
    tells_decided φ d e c i lo hi pos =
        ⊎_elim
        (λ (w : n < i). Decides-at _ _ (cell_past reads own (i - 1) e c (omega arith)) (past e s (min c n) v i φ (omega arith)))
        (λ (w : i ≤ n). d i e c pos w lo hi)
        (cases_lt n i)

    module _ (φ : Tree) (a : List K) (ta : Tells reads reach n s v φ a) where
      pub tells_not : Filled reads reach (λ q. negated (cell reads a q)) own n → Tells reads reach n s v (not' φ) own
      tells_not filled =
          tells_by own long (λ q. negated (cell reads a q)) filled (not' φ)
          (λ e c i lo hi w z. ap not (tells_past φ a ta (not e) c i lo hi (omega arith)) ∙ twice e)
          (λ e c i lo hi pos w.
          Decides-like _ (kept_in e (min c n) i w) (kept_out e (min c n) i w) (Decides-not (at reads a i (not e) c) (ta (not e) c i lo hi pos)))

      pub tells_next : Filled reads reach (λ q. cell reads a (q + 1)) own n → Tells reads reach n s v (next φ) own
      tells_next filled =
          let on : (e : Bool) (c i : ℕ) → 0 < i → cell reads a (i - 1 + 1) e c ≡ at reads a (suc i) e c = λ e c i pos. ap (λ q. cell reads a q e c) (omega arith) in
          tells_by own long (λ q. cell reads a (q + 1)) filled (next φ)
          (λ e c i lo hi w z. on e c i (omega arith) ∙ tells_past φ a ta e c (suc i) lo hi (omega arith))
          (λ e c i lo hi pos w. Decides-at _ _ (on e c i pos) (Decides-like _ (kept_in e (min c n) i w) (kept_out e (min c n) i w) (ta e c (suc i) lo hi (omega arith))))

      pub tells_previous : Filled reads reach (λ q. seen (q + 1) (prior reads a q)) own n → Tells reads reach n s v (previous φ) own
      tells_previous filled =
          tells_by own long (λ q. seen (q + 1) (prior reads a q)) filled (previous φ)
          (λ e c i lo hi w z. cond-true _ _ _ (lt-ltb c (i - 1 + 1) (omega arith)))
          (λ e c i lo hi pos w.
          Decides-at _ _ (cond-false _ _ _ (le-ltb c (i - 1 + 1) (omega arith)))
          (⊎_elim
          (λ (z : i ≡ 1).
          let none : prior reads a (i - 1) e c ≡ false = ap (λ q. prior reads a q e c) (omega arith) ∙ prior_none reads a e c in
          ((λ t. absurd (false≢true (sym none ∙ t))), (λ k. absurd (omega (arith, (kept_out e (min c n) i w k).0)))))
          (λ z.
          let more : 1 < i = omega arith in
          let back : prior reads a (i - 1) e c ≡ at reads a (i - 1) e c = ap (λ q. prior reads a q e c) (omega arith) ∙ prior_next reads a (i - 1 - 1) e c in
          Decides-at _ _ back
          (Decides-like _ (λ x. kept_in e (min c n) i w (more, x)) (λ k. (kept_out e (min c n) i w k).1) (ta e c (i - 1) lo hi (omega arith))))
          (cases_eq i 1)))

      -- `at`, where state t carries the nominal, and where none of the n states does
      tells_at : (name t : ℕ) → UniqueTo n s → 1 ≤ t → t ≤ n → Carries (s t) name → Filled reads reach (λ q. seen (q + 1) (at reads a t)) own n → Tells reads reach n s v (at' name φ) own
      tells_at name t one t1 tn here filled =
          tells_by own long (λ q. seen (q + 1) (at reads a t)) filled (at' name φ)
          (λ e c i lo hi w z. cond-true _ _ _ (lt-ltb c (i - 1 + 1) (omega arith)))
          (λ e c i lo hi pos w.
          let m = min c n in
          let X : ℕ → Type 0 = λ j. Reads e s m v j φ in
          Decides-at _ _ (cond-false _ _ _ (le-ltb c (i - 1 + 1) (omega arith)))
          (Decides-like _ (kept_in e m i w) (kept_out e m i w)
          (⊎_elim
          (λ (z : m < t).
          Decides-at _ _ (tells_past φ a ta e c t lo hi z)
          (at_none e s m name X (λ j j1 jm k. let eq : j ≡ t = one j t name j1 (omega arith) t1 tn k here in omega arith)))
          (λ (z : t ≤ m). at_kept e s m name t X _ t1 z here (λ x j y x1 xm j1 jm. one x j y x1 (omega arith) j1 (omega arith)) (ta e c t lo hi t1))
          (cases_lt m t))))

      tells_at_none : (name : ℕ) → Nameless s n name → Filled reads reach (λ q. seen (q + 1) opened) own n → Tells reads reach n s v (at' name φ) own
      tells_at_none name none filled =
          tells_by own long (λ q. seen (q + 1) opened) filled (at' name φ)
          (λ e c i lo hi w z. cond-true _ _ _ (lt-ltb c (i - 1 + 1) (omega arith)))
          (λ e c i lo hi pos w.
          let m = min c n in
          Decides-at _ _ (cond-false _ _ _ (le-ltb c (i - 1 + 1) (omega arith)))
          (Decides-like _ (kept_in e m i w) (kept_out e m i w) (at_none e s m name (λ j. Reads e s m v j φ) (λ j j1 jm. none j j1 (omega arith)))))

      pub tells_named : (name : ℕ) (named : Option ℕ) (there : Reading) → UniqueTo n s → NamedState s n name named
          → MatchOption named (Same reach there opened) (λ t. Same reach there (at reads a t)) → Filled reads reach (λ q. seen (q + 1) there) own n → Tells reads reach n s v (at' name φ) own
      tells_named name None there one none is filled =
          tells_at_none name none (λ q e c less lo hi. filled q e c less lo hi ∙ ap (cond (ltb c (q + 1)) e) (is e c lo hi))
      tells_named name (Some t) there one here is filled =
          tells_at name t one here.0 here.1 here.2 (λ q e c less lo hi. filled q e c less lo hi ∙ ap (cond (ltb c (q + 1)) e) (is e c lo hi))

      module _ (ψ : Tree) (b : List K) (tb : Tells reads reach n s v ψ b) where
        pub tells_and : Filled reads reach (λ q. both (cell reads a q) (cell reads b q)) own n → Tells reads reach n s v (and' φ ψ) own
        tells_and filled =
            tells_by own long (λ q. both (cell reads a q) (cell reads b q)) filled (and' φ ψ)
            (λ e c i lo hi w z. ap (λ x. x && at reads b i e c) (tells_past φ a ta e c i lo hi (omega arith)) ∙ ap (λ y. e && y) (tells_past ψ b tb e c i lo hi (omega arith)) ∙ both_same e)
            (λ e c i lo hi pos w.
            Decides-like _ (kept_in e (min c n) i w) (kept_out e (min c n) i w) (Decides-and (at reads a i e c) (at reads b i e c) (ta e c i lo hi pos) (tb e c i lo hi pos)))

        pub tells_or : Filled reads reach (λ q. either (cell reads a q) (cell reads b q)) own n → Tells reads reach n s v (or' φ ψ) own
        tells_or filled =
            tells_by own long (λ q. either (cell reads a q) (cell reads b q)) filled (or' φ ψ)
            (λ e c i lo hi w z. ap (λ x. x || at reads b i e c) (tells_past φ a ta e c i lo hi (omega arith)) ∙ ap (λ y. e || y) (tells_past ψ b tb e c i lo hi (omega arith)) ∙ either_same e)
            (λ e c i lo hi pos w.
            Decides-like _ (kept_in e (min c n) i w) (kept_out e (min c n) i w) (Decides-or (at reads a i e c) (at reads b i e c) (ta e c i lo hi pos) (tb e c i lo hi pos)))

        pub tells_until : UntilFrom reads reach a b own 0 → Tells reads reach n s v (until φ ψ) own
        tells_until from =
            let filled : Filled reads reach (until_at reads a b own) own n = λ q e c less lo hi. from q e c (omega arith) (omega arith) lo hi in
            let un : (e : Bool) (c i : ℕ) → 0 < c → c ≤ reach → c < i → i ≤ n → until_at reads a b own (i - 1) e c ≡ e = λ e c i lo hi w z.
            ap (λ x. x || (at reads a i e c && cell reads own (i - 1 + 1) e c)) (tells_past ψ b tb e c i lo hi (omega arith))
            ∙ ap (λ y. e || (y && cell reads own (i - 1 + 1) e c)) (tells_past φ a ta e c i lo hi (omega arith))
            ∙ absorbed e (cell reads own (i - 1 + 1) e c) in
            λ e c i lo hi pos.
            let m = min c n in
            ⊎_elim
            (λ (w : m < i). Decides-at _ _ (own_past own long (until_at reads a b own) filled un e c i lo hi w) (past e s m v i (until φ ψ) w))
            (λ (w : i ≤ m).
            Decides-like (at reads own i e c)
            (λ u. kept_in e m i w (
              u.0,
              u.1,
              u.2,
              (tb e c u.0 lo hi (omega (arith, u.1))).0 u.3,
              (λ j f z. (ta e c j lo hi (omega arith)).0 (u.4 j f z)),
            ))
            (λ k. let u = kept_out e m i w k in (
              u.0,
              u.1,
              u.2,
              (tb e c u.0 lo hi (omega (arith, u.1))).1 u.3,
              (λ j f z. (ta e c j lo hi (omega arith)).1 (u.4 j f z)),
            ))
            (until_decides (λ k. at reads own k e c) (λ k. at reads a k e c) (λ k. at reads b k e c) m
            (λ k k0 km. from (k - 1) e c (omega arith) (omega arith) lo hi ∙ ap (λ q. at reads b k e c || (at reads a k e c && cell reads own q e c)) (omega arith))
            (own_past own long (until_at reads a b own) filled un e c (suc m) lo hi (omega arith) ∙ sym (tells_past ψ b tb e c (suc m) lo hi (omega arith)))
            (suc m - i) i (omega arith) pos))
            (cases_lt m i)

        pub tells_since : Filled reads reach (since_at reads a b own) own n → Tells reads reach n s v (since φ ψ) own
        tells_since filled =
            tells_by own long (since_at reads a b own) filled (since φ ψ)
            (λ e c i lo hi w z.
            ap (λ x. x || (at reads a i e c && seen (i - 1 + 1) (prior reads own (i - 1)) e c)) (tells_past ψ b tb e c i lo hi (omega arith))
            ∙ ap (λ y. e || (y && seen (i - 1 + 1) (prior reads own (i - 1)) e c)) (tells_past φ a ta e c i lo hi (omega arith))
            ∙ absorbed e (seen (i - 1 + 1) (prior reads own (i - 1)) e c))
            (λ e c i lo hi pos w.
            let m = min c n in
            let step : (q : ℕ) → q < m → prior reads own (suc q) e c ≡ (at reads b (suc q) e c || (at reads a (suc q) e c && prior reads own q e c)) = λ q less.
            ap (λ p. prior reads own p e c) (omega arith) ∙ prior_next reads own q e c
            ∙ filled q e c (omega arith) lo hi
            ∙ ap (λ z. cell reads b q e c || (cell reads a q e c && z)) (cond-false (ltb c (q + 1)) _ _ (le-ltb c (q + 1) (omega arith)))
            ∙ ap (λ p. cell reads b p e c || (cell reads a p e c && prior reads own q e c)) (omega arith) in
            let own_is : since_at reads a b own (i - 1) e c ≡ prior reads own i e c =
            sym (filled (i - 1) e c (omega arith) lo hi) ∙ sym (prior_next reads own (i - 1) e c) ∙ ap (λ p. prior reads own p e c) (omega arith) in
            Decides-at _ _ own_is
            (Decides-like (prior reads own i e c)
            (λ u. kept_in e m i w (
              u.0,
              u.1,
              u.2,
              (tb e c u.0 lo hi (omega (arith, u.1))).0 u.3,
              (λ j f z. (ta e c j lo hi (omega arith)).0 (u.4 j f z)),
            ))
            (λ k. let u = kept_out e m i w k in (
              u.0,
              u.1,
              u.2,
              (tb e c u.0 lo hi (omega (arith, u.1))).1 u.3,
              (λ j f z. (ta e c j lo hi (omega arith)).1 (u.4 j f z)),
            ))
            (since_decides (λ k. prior reads own k e c) (λ k. at reads a k e c) (λ k. at reads b k e c) m (prior_none reads own e c) step i w)))
