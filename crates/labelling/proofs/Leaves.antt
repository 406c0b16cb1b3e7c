-- Formulas without parts. Assumes nothing.
use Rattle.std.proofs.Common.{◌≡◌, ℕ, ◌+◌, ◌-◌, ◌<◌, ◌≤◌, min, Bool, true, false, List, [], ◌∷◌, length, Decides, sym, refl, ap, ◌∙◌, subst, arith}
use Rattle.std.proofs.lemmas.Bool.Decides.{Decides-at, Decides-like}
use Rattle.labels.specs.Readings.{Reading}
use Rattle.labelling.specs.Rows.{cell, at}
use Rattle.labelling.proofs.Cells.{cell_at}
use Rattle.labelling.proofs.Decisions.{fixed_decides}
use Rattle.labelling.proofs.Tellings.{tells_decided}
use Rattle.std.proofs.lemmas.Bool.{false≢true}
use Rattle.logic.specs.declared.types.Formula.{Formula}
use Rattle.logic.specs.declared.types.Formula.TheVariants.{True, Signal, Nominal, Not, And, Or, Next, Previous, Until, Since, At, Variable, Reference, Bind, Some}
use Rattle.logic.specs.States.{Trace}
use Rattle.logic.specs.Logic.{Tree, Kept, Reads}
use Rattle.logic.specs.Tables.{node, binds}
use Rattle.labelling.specs.Tells.{leaf, Here, Tells, DecidedRow}

module _ (s : Trace) (v : ℕ) (parts : ℕ → Tree) (r : Bool) (c i : ℕ) where
  pub leaf_in : (φ : Formula) → leaf φ ≡ true → Kept r c i (Here φ (s i) v i) → Reads r s c v i (node φ parts)
  leaf_in True h k = k
  leaf_in (Signal b) h k = k
  leaf_in (Nominal a) h k = k
  leaf_in Variable h k = k
  leaf_in (Reference a) h k = k
  leaf_in _ h k = absurd (false≢true h)

  pub leaf_out : (φ : Formula) → leaf φ ≡ true → Reads r s c v i (node φ parts) → Kept r c i (Here φ (s i) v i)
  leaf_out True h k = k
  leaf_out (Signal b) h k = k
  leaf_out (Nominal a) h k = k
  leaf_out Variable h k = k
  leaf_out (Reference a) h k = k
  leaf_out _ h k = absurd (false≢true h)

-- what is left of the formulas after those with parts
pub leaf_rest : (φ : Formula) → binds φ ≡ false
    → ((f : ℕ) → φ ≡ Not f → ⊥) → ((f g : ℕ) → φ ≡ And f g → ⊥) → ((f g : ℕ) → φ ≡ Or f g → ⊥) → ((f : ℕ) → φ ≡ Next f → ⊥) → ((f : ℕ) → φ ≡ Previous f → ⊥)
    → ((f g : ℕ) → φ ≡ Until f g → ⊥) → ((f g : ℕ) → φ ≡ Since f g → ⊥) → ((a f : ℕ) → φ ≡ At a f → ⊥) → leaf φ ≡ true
leaf_rest True b h1 h2 h3 h4 h5 h6 h7 h8 = refl
leaf_rest (Signal k) b h1 h2 h3 h4 h5 h6 h7 h8 = refl
leaf_rest (Nominal a) b h1 h2 h3 h4 h5 h6 h7 h8 = refl
leaf_rest (Not f) b h1 h2 h3 h4 h5 h6 h7 h8 = absurd (h1 f refl)
leaf_rest (And f g) b h1 h2 h3 h4 h5 h6 h7 h8 = absurd (h2 f g refl)
leaf_rest (Or f g) b h1 h2 h3 h4 h5 h6 h7 h8 = absurd (h3 f g refl)
leaf_rest (Next f) b h1 h2 h3 h4 h5 h6 h7 h8 = absurd (h4 f refl)
leaf_rest (Previous f) b h1 h2 h3 h4 h5 h6 h7 h8 = absurd (h5 f refl)
leaf_rest (Until f g) b h1 h2 h3 h4 h5 h6 h7 h8 = absurd (h6 f g refl)
leaf_rest (Since f g) b h1 h2 h3 h4 h5 h6 h7 h8 = absurd (h7 f g refl)
leaf_rest (At a f) b h1 h2 h3 h4 h5 h6 h7 h8 = absurd (h8 a f refl)
leaf_rest Variable b h1 h2 h3 h4 h5 h6 h7 h8 = refl
leaf_rest (Reference a) b h1 h2 h3 h4 h5 h6 h7 h8 = refl
leaf_rest (Bind f) b h1 h2 h3 h4 h5 h6 h7 h8 = absurd (false≢true (sym b))
leaf_rest (Some a f) b h1 h2 h3 h4 h5 h6 h7 h8 = absurd (false≢true (sym b))

-- A row whose labels are decided at their own states, as answers say that decide a formula without parts, tells of it.
module _ {K : Type 0} (reads : K → Reading) (reach n : ℕ) (s : Trace) (v : ℕ) (φ ψ : Formula) (is : φ ≡ ψ) (is-leaf : leaf ψ ≡ true) (Answers : ℕ → Bool → Type 0)
    (right : (p : ℕ) (b : Bool) → Answers p b → Decides b (Here ψ (s (p + 1)) v (p + 1))) where
  label_decides : (own : List K) → length own ≡ n → DecidedRow reads reach Answers own → (parts : ℕ → Tree) (q : ℕ) (e : Bool) (c : ℕ)
      → q < n → 0 < c → c ≤ reach → Decides (at reads own (q + 1) e c) (Reads e s (min c n) v (q + 1) (node ψ parts))
  label_decides [] long row parts q e c less lo hi = absurd (omega arith)
  label_decides (x ∷ xs) long row parts q e c less lo hi =
      let own = x ∷ xs in
      let t = row q x (omega arith) in
      let X = Here ψ (s (q + 1)) v (q + 1) in
      Decides-at _ _ (ap (λ p. cell reads own p e c) (omega arith) ∙ cell_at reads own q x (omega arith) e c ∙ t.2 e c lo hi)
      (Decides-like _ (leaf_in s v parts e (min c n) (q + 1) ψ is-leaf) (leaf_out s v parts e (min c n) (q + 1) ψ is-leaf)
      (fixed_decides n (q + 1) t.0 e c X (omega arith) (right q t.0 t.1)))

  pub decided_tells : (own : List K) → length own ≡ n → DecidedRow reads reach Answers own → (parts : ℕ → Tree) → Tells reads reach n s v (node φ parts) own
  decided_tells own long row parts =
      subst (λ f. Tells reads reach n s v (node f parts) own) (sym is)
      (tells_decided reads reach n s v own long (node ψ parts)
      (λ i e c pos le lo hi.
      subst (λ j. Decides (at reads own j e c) (Reads e s (min c n) v j (node ψ parts))) (omega arith) (label_decides own long row parts (i - 1) e c (omega arith) lo hi)))
