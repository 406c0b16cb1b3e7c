-- Whole labelling of a text, from its parts. Assumes nothing.
use Rattle.std.proofs.Common.{◌≡◌, ℕ, ◌*◌, ◌≤◌, min, List, ◌++◌, length, Ok, Err, Result, MatchResult, refl, sym, subst, ◌∙◌, arith, length-append}
use Rattle.std.proofs.Math.ListN.{get_or-append}
use Rattle.logic.specs.declared.types.Formula.{Formula}
use Rattle.logic.specs.declared.types.State.{State}
use Rattle.labels.specs.Readings.{Reading}
use Rattle.refusals.specs.declared.Refusal.{Refusal}
use Rattle.refusals.specs.Numbers.{told}
use Rattle.labelling.specs.Whole.{LabelOf, place, Declined, Labelled, Answered}
use Rattle.bench_calls.specs.declared.outcome.Outcome.{Outcome}
use Rattle.bench_calls.specs.declared.labelled.Counts.{Counts}
use Rattle.bench_calls.specs.Outcomes.{stopped}
use Rattle.bench_calls.specs.Labelled.{Source, declined, Counted, TextLabelled}
use Rattle.bench_calls.proofs.Rooms.{cell_within, few_formulas, declined_alike}

module _ {K : Type 0} (reads : K → Reading) (reach : ℕ) (table : List Formula) (xs : List State) where
  -- labelling once more leaves what it left before
  pub once_more : (old oldWork mid midWork new newWork : List K) (r : Result ℕ Refusal) → Labelled reads reach table xs old oldWork mid midWork
      → Answered reads reach table xs mid midWork r new newWork → Labelled reads reach table xs old oldWork new newWork
  once_more old oldWork mid midWork new newWork (Ok n) l a = record {
    short = l.short;
    roomy = l.roomy;
    lawful = l.lawful;
    labels = a.1.labels;
    later = a.1.later ∙ l.later;
    cleared = a.1.cleared;
    later_work = a.1.later_work ∙ l.later_work;
  }
  once_more old oldWork mid midWork new newWork (Err why) l a =
      subst (λ z. Labelled reads reach table xs old oldWork z newWork) (sym a.1) (subst (λ z. Labelled reads reach table xs old oldWork mid z) (sym a.2) l)

-- the states of a text that follows a rules text are labelled, in as many of the cells as there is room for
module _ {K : Type 0} (reads : K → Reading) (reach room : ℕ) (text : List ℕ) (formulas : List Formula) (xs : List State) (source : Source text formulas xs)
    (cells work old oldWork new newWork rest : List K) (long : 64 * reach ≤ length cells) (most : length old ≡ min room (length cells)) (alike : length oldWork ≡ length old) (kept : length new ≡ length old) where
  few : length formulas ≤ 64
  few = few_formulas text formulas source.rules source.used source.whole

  text_whole : (w : Counts) → Labelled reads reach formulas xs old oldWork new newWork → Counted formulas xs w → TextLabelled reads reach room text (Ok w) (new ++ rest)
  text_whole w l counted =
      let total : length formulas * length xs ≤ length new = omega (arith, l.roomy.0) in (
        formulas,
        xs,
        source,
        (l.short, omega (arith, l.roomy.0), l.lawful),
        λ f i h a b d. subst (λ x. LabelOf reads reach formulas xs f i x) (sym (get_or-append new rest d (place (length xs) f i) (omega (arith, cell_within f i (length formulas) (length xs) h a b)))) (l.labels f i h a b d),
        counted,
        omega (arith, counted.1, length-append new rest),
      )

  text_declined : (why : Refusal) → Declined formulas xs reach (length old) (length oldWork) why → TextLabelled reads reach room text (Err (stopped (told why) 0)) (new ++ rest)
  text_declined why d =
      let both : Declined formulas xs reach (min room (length cells)) (min room (length cells)) why =
      subst (λ n. Declined formulas xs reach n n why) most (subst (λ n. Declined formulas xs reach (length old) n why) alike d) in
      declined formulas xs why source (declined_alike reach (length cells) room long formulas xs why few both) refl

  pub text_labelled : (r : Result Counts Refusal) (s : Result Counts Outcome) {Kept : Counts → Type 0} {Made : Refusal → Type 0}
      → MatchResult r (λ w. Labelled reads reach formulas xs old oldWork new newWork × Counted formulas xs w) (λ why. Declined formulas xs reach (length old) (length oldWork) why)
      → MatchResult r Kept Made → ((w : Counts) → Kept w → s ≡ Ok w) → ((why : Refusal) → Made why → s ≡ Err (stopped (told why) 0)) → TextLabelled reads reach room text s (new ++ rest)
  text_labelled (Ok w) s answered made keeps makes = subst (λ z. TextLabelled reads reach room text z (new ++ rest)) (sym (keeps w made)) (text_whole w answered.0 answered.1)
  text_labelled (Err why) s answered made keeps makes = subst (λ z. TextLabelled reads reach room text z (new ++ rest)) (sym (makes why made)) (text_declined why answered)
