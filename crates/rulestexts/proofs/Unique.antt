use Rattle.std.proofs.Common.{◌≡◌, ℕ, ◌+◌, List, length, drop, Ok, Err, codes, sym, ap, ◌∙◌, subst, inl, inr, arith, length-drop}
use Rattle.logic.specs.declared.types.Formula.{Formula}
use Rattle.logic.specs.declared.types.Rule.{Rule}
use Rattle.table.specs.Tables.{NamesFormulas, Ruled}
use Rattle.table.proofs.Fitting.{not_loose}
use Rattle.faults.specs.declared.table.TableFault.TheVariants.{Dangling, Loose}
use Rattle.faults.specs.declared.read.ReadFault.{ReadFault}
use Rattle.faults.specs.declared.read.ReadFault.TheVariants.{Line, Table}
use Rattle.fields.specs.Kinds.{Kind, Fits}
use Rattle.fields.proofs.Judged as judged
use Rattle.rulelines.specs.declared.entries.Entry.{Entry}
use Rattle.rulelines.specs.Formulas.{formula_kind}
use Rattle.rulelines.specs.Meanings.{meaning}
use Rattle.rulelines.specs.Rules.{rule_kind}
use Rattle.rulelines.proofs.Single.{count_single, formula_single, rule_single}
use Rattle.rulestexts.specs.Blocks.{Begins, Stops}
use Rattle.rulestexts.specs.Sections.{LineOnly, count_of_formulas, count_of_rules, Founded, FormulaFits, FormulaRefused, RuleFits, RuleRefused, formula_block, rule_block}
use Rattle.rulestexts.specs.Texts.{meanings, Whole, Refused, OneReading}
use Rattle.rulestexts.proofs.Sound.{Clear, one_whole, whole_or_stops, one_stop}

-- ── a kind of line ──
module _ (K : Kind) (single : judged.Single K) where
  one_fit : (v w : K.Value) (t r s : List ℕ) → Fits K t v r → Fits K t w s → (v ≡ w) × (r ≡ s)
  one_fit v w t r s a b = judged.one_shown K single t v w r s a.shows b.shows

  fit_or : (v : K.Value) (t r : List ℕ) (p : ℕ) (e : ReadFault) → Fits K t v r → LineOnly K t p e → ⊥
  fit_or v t r p (Line e) a x = judged.fit_or_refused K single t v r p e a.shows a.ranged x
  fit_or v t r p (Table e) a x = x

  only_one : (t : List ℕ) (p : ℕ) (e f : ReadFault) → LineOnly K t p e → LineOnly K t p f → e ≡ f
  only_one t p (Line e) (Line f) x y = ap Line (judged.one_refusal K single t p e f x y)
  only_one t p (Line e) (Table f) x y = absurd y
  only_one t p (Table e) f x y = absurd x

-- ── formulas ──
formula_line : (k : ℕ) (v w : Entry) (t r s : List ℕ) → FormulaFits k v t r → FormulaFits k w t s → (v ≡ w) × (r ≡ s)
formula_line k v w t r s a b = one_fit (formula_kind k) (formula_single k) v w t r s a.0 b.0

formula_or : (k : ℕ) (v : Entry) (t r : List ℕ) (p : ℕ) (e : ReadFault) → FormulaFits k v t r → FormulaRefused k t p e → ⊥
formula_or k v t r p (Line e) a x = fit_or (formula_kind k) (formula_single k) v t r p (Line e) a.0 x
formula_or k v t r p (Table (Dangling l)) a (at, (w, s, b, out)) =
    out (subst (λ z. Founded k (meaning z)) (one_fit (formula_kind k) (formula_single k) v w t r s a.0 b).0 a.1)
formula_or k v t r p (Table (Loose l)) a x = x

formula_fault : (k : ℕ) (t : List ℕ) (p : ℕ) (e f : ReadFault) → FormulaRefused k t p e → FormulaRefused k t p f → e ≡ f
formula_fault k t p (Line e) (Line f) x y = only_one (formula_kind k) (formula_single k) t p (Line e) (Line f) x y
formula_fault k t p (Line e) (Table (Dangling m)) x (at, (w, s, b, out)) = absurd (fit_or (formula_kind k) (formula_single k) w t s p (Line e) b x)
formula_fault k t p (Line e) (Table (Loose m)) x y = absurd y
formula_fault k t p (Table (Dangling l)) (Line f) (at, (w, s, b, out)) y = absurd (fit_or (formula_kind k) (formula_single k) w t s p (Line f) b y)
formula_fault k t p (Table (Dangling l)) (Table (Dangling m)) (at, x) (au, y) = ap (λ z. Table (Dangling z)) (at ∙ sym au)
formula_fault k t p (Table (Dangling l)) (Table (Loose m)) x y = absurd y
formula_fault k t p (Table (Loose l)) f x y = absurd x

pub formulas_clear : Clear formula_block
formulas_clear = record {
  one_count = λ m n t r s a b. one_fit count_of_formulas (count_single (codes "formulas=") 64) m n t r s a b;
  count_or = λ n t r p e a x. fit_or count_of_formulas (count_single (codes "formulas=") 64) n t r p e a x;
  count_fault = λ t p e f x y. only_one count_of_formulas (count_single (codes "formulas=") 64) t p e f x y;
  one_line = formula_line;
  line_or = formula_or;
  line_fault = formula_fault;
}

-- ── rules ──
module _ (formulas : List Formula) where
  same_rule : (k : ℕ) (u v : Rule) (t r s : List ℕ) → Fits (rule_kind k) t (k, u) r → Fits (rule_kind k) t (k, v) s → (u ≡ v) × (r ≡ s)
  same_rule k u v t r s a b =
      let d = one_fit (rule_kind k) (rule_single k) (k, u) (k, v) t r s a b in (ap (λ z. z.1) d.0, d.1)

  rule_or : (k : ℕ) (u : Rule) (t r : List ℕ) (p : ℕ) (e : ReadFault) → RuleFits formulas k u t r → RuleRefused formulas k t p e → ⊥
  rule_or k u t r p (Line e) a x = fit_or (rule_kind k) (rule_single k) (k, u) t r p (Line e) a.0 x
  rule_or k u t r p (Table (Dangling l)) a (at, (v, s, b, out)) =
      out (subst (Ruled formulas) (same_rule k u v t r s a.0 b).0 a.1).0
  rule_or k u t r p (Table (Loose l)) a (at, (v, s, b, names, l')) =
      not_loose formulas v (subst (Ruled formulas) (same_rule k u v t r s a.0 b).0 a.1) l'

  rule_fault : (k : ℕ) (t : List ℕ) (p : ℕ) (e f : ReadFault) → RuleRefused formulas k t p e → RuleRefused formulas k t p f → e ≡ f
  rule_fault k t p (Line e) (Line f) x y = only_one (rule_kind k) (rule_single k) t p (Line e) (Line f) x y
  rule_fault k t p (Line e) (Table (Dangling m)) x (at, (v, s, b, out)) = absurd (fit_or (rule_kind k) (rule_single k) (k, v) t s p (Line e) b x)
  rule_fault k t p (Line e) (Table (Loose m)) x (at, (v, s, b, names, l)) = absurd (fit_or (rule_kind k) (rule_single k) (k, v) t s p (Line e) b x)
  rule_fault k t p (Table (Dangling l)) (Line f) (at, (v, s, b, out)) y = absurd (fit_or (rule_kind k) (rule_single k) (k, v) t s p (Line f) b y)
  rule_fault k t p (Table (Dangling l)) (Table (Dangling m)) (at, x) (au, y) = ap (λ z. Table (Dangling z)) (at ∙ sym au)
  rule_fault k t p (Table (Dangling l)) (Table (Loose m)) (at, (v, s, b, out)) (au, (w, r, c, names, l')) =
      absurd (out (subst (NamesFormulas formulas) (same_rule k w v t r s c b).0 names))
  rule_fault k t p (Table (Loose l)) (Line f) (at, (v, s, b, names, l')) y = absurd (fit_or (rule_kind k) (rule_single k) (k, v) t s p (Line f) b y)
  rule_fault k t p (Table (Loose l)) (Table (Dangling m)) (au, (w, r, c, names, l')) (at, (v, s, b, out)) =
      absurd (out (subst (NamesFormulas formulas) (same_rule k w v t r s c b).0 names))
  rule_fault k t p (Table (Loose l)) (Table (Loose m)) (at, x) (au, y) = ap (λ z. Table (Loose z)) (at ∙ sym au)

  pub rules_clear : Clear (rule_block formulas)
  rules_clear = record {
    one_count = λ m n t r s a b. one_fit count_of_rules (count_single (codes "rules=") 16) m n t r s a b;
    count_or = λ n t r p e a x. fit_or count_of_rules (count_single (codes "rules=") 16) n t r p e a x;
    count_fault = λ t p e f x y. only_one count_of_rules (count_single (codes "rules=") 16) t p e f x y;
    one_line = λ k u v t r s a b. same_rule k u v t r s a.0 b.0;
    line_or = rule_or;
    line_fault = rule_fault;
  }

-- ── the whole text ──
module _ (text : List ℕ) where
  pub same_whole : (fs gs : List Formula) (rs qs : List Rule) (m n : ℕ) → Whole text fs rs m → Whole text gs qs n → (fs ≡ gs) × (rs ≡ qs) × (m ≡ n)
  same_whole fs gs rs qs m n a b =
      let d = one_whole formula_block formulas_clear text a.entries b.entries a.middle b.middle a.formula_lines b.formula_lines in
      let f : fs ≡ gs = a.means ∙ ap meanings d.0 ∙ sym b.means in
      let l : Begins (rule_block fs) (length qs) qs a.middle (drop n text) =
      subst (λ z. Begins (rule_block z) (length qs) qs a.middle (drop n text)) (sym f) (subst (λ z. Begins (rule_block gs) (length qs) qs z (drop n text)) (sym d.1) b.rule_lines) in
      let e = one_whole (rule_block fs) (rules_clear fs) a.middle rs qs (drop m text) (drop n text) a.rule_lines l in
      let u : length (drop m text) ≡ length (drop n text) = ap length e.1 in
      (f, e.0, omega (arith, a.within, b.within, length-drop m text, length-drop n text))

  -- the rules that stop, over the formulas of another reading
  moved : (vs ws : List Entry) (r s : List ℕ) (e : ReadFault) → (vs ≡ ws) × (r ≡ s) → Stops (rule_block (meanings vs)) r (length vs + 2) e → Stops (rule_block (meanings ws)) s (length ws + 2) e
  moved vs ws r s e d x = subst (λ z. Stops (rule_block (meanings ws)) z (length ws + 2) e) d.1 (subst (λ z. Stops (rule_block (meanings z)) r (length z + 2) e) d.0 x)

  pub whole_or_refused : (fs : List Formula) (rs : List Rule) (m : ℕ) (e : ReadFault) → Whole text fs rs m → Refused text e → ⊥
  whole_or_refused fs rs m e a (inl x) = whole_or_stops formula_block formulas_clear text a.entries a.middle 1 e a.formula_lines x
  whole_or_refused fs rs m e a (inr x) =
      let d = one_whole formula_block formulas_clear text x.entries a.entries x.middle a.middle x.formula_lines a.formula_lines in
      whole_or_stops (rule_block (meanings a.entries)) (rules_clear (meanings a.entries)) a.middle rs (drop m text) (length a.entries + 2) e
      (subst (λ z. Begins (rule_block z) (length rs) rs a.middle (drop m text)) a.means a.rule_lines)
      (moved x.entries a.entries x.middle a.middle e d x.stops)

  pub one_refusal : (e f : ReadFault) → Refused text e → Refused text f → e ≡ f
  one_refusal e f (inl x) (inl y) = one_stop formula_block formulas_clear text 1 e f x y
  one_refusal e f (inl x) (inr y) = absurd (whole_or_stops formula_block formulas_clear text y.entries y.middle 1 e y.formula_lines x)
  one_refusal e f (inr x) (inl y) = absurd (whole_or_stops formula_block formulas_clear text x.entries x.middle 1 f x.formula_lines y)
  one_refusal e f (inr x) (inr y) =
      let d = one_whole formula_block formulas_clear text x.entries y.entries x.middle y.middle x.formula_lines y.formula_lines in
      one_stop (rule_block (meanings y.entries)) (rules_clear (meanings y.entries)) y.middle (length y.entries + 2) e f
      (moved x.entries y.entries x.middle y.middle e d x.stops) y.stops

pub one_reading_lem : OneReading
one_reading_lem text (Ok a) (Ok b) x y = same_whole text _ _ _ _ a.used b.used x y
one_reading_lem text (Ok a) (Err e) x y = whole_or_refused text _ _ a.used e x y
one_reading_lem text (Err e) (Ok b) x y = whole_or_refused text _ _ b.used e y x
one_reading_lem text (Err e) (Err f) x y = one_refusal text e f x y
