-- Standings and notices stay when a state is added, and tallies do not fall.
use Rattle.std.proofs.Common.{◌≡◌, ℕ, zero, suc, ◌+◌, ◌≤◌, ◌≢◌, Bool, true, false, cond, eqb, leb, List, [], ◌∷◌, ◌++◌, sym, refl, ap, ◌∙◌, ap₂, inl, inr, arith}
use Rattle.std.proofs.lemmas.Bool.{ne_eqb, lt-leb, both_ways}
use Rattle.std.proofs.lemmas.Bool.Decides.{nat_tests}
use Rattle.logic.specs.declared.types.Rule.{Rule}
use Rattle.expectations.specs.declared.types.Label.{Label}
use Rattle.expectations.specs.declared.types.Label.TheVariants.{Unknown, TrueFrom, FalseFrom}
use Rattle.expectations.specs.declared.types.Verdict.{Verdict}
use Rattle.expectations.specs.declared.types.Verdict.TheVariants as is
use Rattle.expectations.specs.declared.types.Standing.{Standing}
use Rattle.expectations.specs.declared.types.Standing.TheVariants.{NotRaised, Pending}
use Rattle.expectations.specs.Expectations.{Labels, verdict, raises, true_from, false_from, judged, standing, count, is_raised, is_fulfilled, is_violated, of_state, from_state, from_rule}
use Rattle.expectations.specs.Laws.{Grown, Grows, DecisionsLast, StandingsStay, DecisionsStay, NoticesStay}
use Rattle.expectations.specs.Counted.{TalliesGrow}
use Rattle.expectations.proofs.Counts.{count_weaker, raised_is}

-- what takes a verdict dated after n for unknown does not change when a label grows
grown_same : {X : Type 0} (F : Label → X) (n : ℕ) (old new : Label) → Grown n old new → F (TrueFrom (suc n)) ≡ F Unknown → F (FalseFrom (suc n)) ≡ F Unknown → F new ≡ F old
grown_same F n Unknown new (inl e) t f = ap F e
grown_same F n Unknown new (inr (inl e)) t f = ap F e ∙ t
grown_same F n Unknown new (inr (inr e)) t f = ap F e ∙ f
grown_same F n (TrueFrom d) new e t f = ap F e
grown_same F n (FalseFrom d) new e t f = ap F e

module _ (n : ℕ) (old new : Label) (g : Grown n old new) (c : ℕ) (h : c ≤ n) where
  later : leb (suc n) c ≡ false
  later = lt-leb (suc n) c (omega arith)

  apart : eqb (suc n) c ≡ false
  apart = ne_eqb (suc n) c (λ e. omega arith)

  pub verdict_same : verdict new c ≡ verdict old c
  verdict_same = grown_same (λ z. verdict z c) n old new g (rw later) (rw later)

  judged_same : judged new c ≡ judged old c
  judged_same = grown_same (λ z. judged z c) n old new g (rw later) (rw later)

  true_from_same : true_from new c ≡ true_from old c
  true_from_same = grown_same (λ z. true_from z c) n old new g apart refl

  false_from_same : false_from new c ≡ false_from old c
  false_from_same = grown_same (λ z. false_from z c) n old new g refl apart

module _ (n : ℕ) (old new : Labels) (g : Grows n old new) where
  raises_same : (r : Rule) (s : ℕ) → 1 ≤ s → s ≤ n → raises new r s ≡ raises old r s
  raises_same r s a b = true_from_same n (old r.condition s) (new r.condition s) (g r.condition s a b) s b

  standing_same : (r : Rule) (s c : ℕ) → 1 ≤ s → s ≤ c → c ≤ n → standing new r s c ≡ standing old r s c
  standing_same r s c a b h =
      let e = raises_same r s a (omega arith) in
      let f = judged_same n (old r.content s) (new r.content s) (g r.content s a (omega arith)) c h in
      rw (e, f)

  of_state_same : (c k : ℕ) (r : Rule) (s : ℕ) → 1 ≤ s → s ≤ n → c ≤ n → of_state new c k r s ≡ of_state old c k r s
  of_state_same c k r s a b h =
      let e = raises_same r s a b in
      let t = true_from_same n (old r.content s) (new r.content s) (g r.content s a b) c h in
      let f = false_from_same n (old r.content s) (new r.content s) (g r.content s a b) c h in
      rw (e, t, f)

  from_state_same : (c k : ℕ) (r : Rule) (m s : ℕ) → 1 ≤ s → s + m ≤ suc n → c ≤ n → from_state new c k r m s ≡ from_state old c k r m s
  from_state_same c k r zero s a b h = refl
  from_state_same c k r (suc m) s a b h =
      ap₂ ◌++◌ (of_state_same c k r s a (omega arith) h) (from_state_same c k r m (suc s) (omega arith) (omega arith) h)

  from_rule_same : (c k : ℕ) (rs : List Rule) → c ≤ n → from_rule new c k rs ≡ from_rule old c k rs
  from_rule_same c k [] h = refl
  from_rule_same c k (r ∷ rs) h = ap₂ ◌++◌ (from_state_same c k r c 1 (omega arith) (omega arith) h) (from_rule_same c (suc k) rs h)

-- ── What is decided ──
verdict_later : (c e : ℕ) → c ≤ e → (z : Label) → (verdict z c ≢ is.Unknown) → verdict z e ≡ verdict z c
verdict_later c e l Unknown known = refl
verdict_later c e l (TrueFrom d) known = grind (arith, nat_tests)
verdict_later c e l (FalseFrom d) known = grind (arith, nat_tests)

standing_later : (c e : ℕ) → c ≤ e → (b : Bool) (z : Label) → (cond b (judged z c) NotRaised ≢ Pending) → cond b (judged z e) NotRaised ≡ cond b (judged z c) NotRaised
standing_later c e l false z known = refl
standing_later c e l true Unknown known = refl
standing_later c e l true (TrueFrom d) known = grind (arith, nat_tests)
standing_later c e l true (FalseFrom d) known = grind (arith, nat_tests)

pub decisions_last_lem : DecisionsLast
decisions_last_lem c e l = (verdict_later c e l, λ labels r s. standing_later c e l (raises labels r s) (labels r.content s))

pub standings_stay_lem : StandingsStay
standings_stay_lem n old new g r s c a b h = standing_same n old new g r s c a b h

pub notices_stay_lem : NoticesStay
notices_stay_lem n old new g rules c h = from_rule_same n old new g c 0 rules h

pub decisions_stay_lem : DecisionsStay
decisions_stay_lem n old new g c e h l = (
  (λ f i a b known.
      let same : verdict (new f i) c ≡ verdict (old f i) c = verdict_same n (old f i) (new f i) (g f i a b) c h in
      verdict_later c e l (new f i) (λ u. known (sym same ∙ u)) ∙ same),
  (λ r s a b known.
      let same : standing new r s c ≡ standing old r s c = standing_same n old new g r s c a b h in
      standing_later c e l (raises new r s) (new r.content s) (λ u. known (sym same ∙ u)) ∙ same),
)

-- a standing that was told with a decision is told with it for good
pub standing_lasts_lem : (n : ℕ) (old new : Labels) → Grows n old new → (r : Rule) (s c e : ℕ) (x : Standing) → 1 ≤ s → s ≤ c → c ≤ n → c ≤ e →
    standing old r s c ≡ x → x ≢ Pending → standing new r s e ≡ x
standing_lasts_lem n old new g r s c e x a b h l is known = (decisions_stay_lem n old new g c e h l).1 r s a b (λ u. known (sym is ∙ u)) ∙ is

pub verdict_lasts_lem : (n : ℕ) (old new : Labels) → Grows n old new → (f i c e : ℕ) (v : Verdict) → 1 ≤ i → i ≤ n → c ≤ n → c ≤ e →
    verdict (old f i) c ≡ v → v ≢ is.Unknown → verdict (new f i) e ≡ v
verdict_lasts_lem n old new g f i c e v a b h l read known = (decisions_stay_lem n old new g c e h l).0 f i a b (λ u. known (sym read ∙ u)) ∙ read

-- ── Tallies grow ──
module _ (n : ℕ) (old new : Labels) (g : Grows n old new) (r : Rule) where
  -- a test that no pending standing passes counts no fewer when a state is added
  decided_more : (p : Standing → Bool) → p Pending ≡ false →
      count (λ s. p (standing old r s n)) n ≤ count (λ s. p (standing new r s (suc n))) (suc n)
  decided_more p never =
      let more = count_weaker (λ s. p (standing old r s n)) (λ s. p (standing new r s (suc n))) n
      (λ s a b t. ap p (standing_lasts_lem n old new g r s n (suc n) (standing old r s n) a b (omega arith) (omega arith) refl
      (λ u. both_ways (p Pending) never (sym (ap p u) ∙ t))) ∙ t) in
      omega (arith, more)

  raised_more : count (λ s. is_raised (standing old r s n)) n ≤ count (λ s. is_raised (standing new r s (suc n))) (suc n)
  raised_more =
      let more = count_weaker (λ s. is_raised (standing old r s n)) (λ s. is_raised (standing new r s (suc n))) n
      (λ s a b t. raised_is (raises new r s) (new r.content s) (suc n) ∙ raises_same n old new g r s a b ∙ sym (raised_is (raises old r s) (old r.content s) n) ∙ t) in
      omega (arith, more)

pub tallies_grow_lem : TalliesGrow
tallies_grow_lem n old new g r = (raised_more n old new g r, decided_more n old new g r is_fulfilled refl, decided_more n old new g r is_violated refl)
