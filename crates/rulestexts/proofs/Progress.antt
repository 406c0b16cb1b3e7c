use Rattle.std.proofs.Common.{◌≡◌, ℕ, ◌+◌, ◌<◌, ◌≤◌, List, [], ◌∷◌, ◌++◌, length, drop, Ok, Err, sym, refl, ap, ◌∙◌, subst, arith, length-append}
use Rattle.std.proofs.lemmas.List.{map_push, length-map, take_rest}
use Rattle.logic.specs.declared.types.Formula.{Formula}
use Rattle.logic.specs.declared.types.Rule.{Rule}
use Rattle.logic.specs.Tables.{InRange}
use Rattle.table.specs.declared.draft.Draft.{Draft}
use Rattle.table.specs.Tables.{formulas_of, rules_of, NamesFormulas, NamesLoose, Ruled}
use Rattle.faults.specs.declared.table.TableFault.{TableFault}
use Rattle.faults.specs.declared.table.TableFault.TheVariants.{Dangling, Loose}
use Rattle.faults.specs.declared.read.ReadFault.{ReadFault}
use Rattle.faults.specs.declared.read.ReadFault.TheVariants.{Table}
use Rattle.fields.specs.Kinds.{Fits, Takes}
use Rattle.fields.proofs.Follow.{run_more}
use Rattle.rulelines.specs.declared.entries.Entry.{Entry}
use Rattle.rulelines.specs.Meanings.{meaning, FormulaTaken}
use Rattle.rulelines.specs.Rules.{rule_kind}
use Rattle.rulestexts.specs.Blocks.{Block, Begins, Stops, at_line}
use Rattle.rulestexts.specs.Sections.{count_of_formulas, count_of_rules, formula_block, rule_block, Founded, FormulaRefused, RuleRefused}
use Rattle.rulestexts.specs.Texts.{meanings, EndsIn, FormulaJoins, RuleJoins}
use Rattle.rulestexts.proofs.Endings.{rest_from, ends_twice, ends_from}
use Rattle.rulestexts.proofs.Ranges.{within_range}

length_push : {A : Type 0} (xs : List A) (x : A) → length (xs ++ (x ∷ [])) ≡ length xs + 1
length_push xs x = length-append xs (x ∷ []) ∙ omega arith

module _ {A : Type 0} (B : Block A) (text : List ℕ) (n : ℕ) where
  block_more : (xs : List A) (x : A) (rest after : List ℕ) → Begins B n xs text rest → B.Line (length xs) x rest after → Begins B n (xs ++ (x ∷ [])) text after
  block_more xs x rest after b l = record {
    middle = b.middle;
    counts = b.counts;
    run = run_more B.Line 0 xs x (length xs) b.middle rest after (omega arith) b.run l;
  }

-- ── formulas: k of n lines have joined the draft, and a rest follows them ──
pub record Formulas (text : List ℕ) (n k : ℕ) (rest : List ℕ) (d : Draft) : Type 0 where
  pub entries : List Entry
  pub lines : Begins formula_block n entries text rest
  pub count : length entries ≡ k
  pub means : formulas_of d ≡ meanings entries
  pub ruleless : rules_of d ≡ []
  pub ends : EndsIn text rest
  pub few : n ≤ 64
  pub some : 1 ≤ n

pub formulas_begin : (text : List ℕ) (n used : ℕ) (d : Draft) → Takes count_of_formulas text n used → formulas_of d ≡ [] → rules_of d ≡ [] → Formulas text n 0 (rest_from text used) d
formulas_begin text n used d t none ruleless = record {
  entries = [];
  lines = record { middle = rest_from text used; counts = subst (Fits count_of_formulas text n) (sym (take_rest text used)) t.fits; run = refl };
  count = refl;
  means = none;
  ruleless = ruleless;
  ends = ends_from text used;
  few = t.fits.ranged.1;
  some = t.fits.ranged.0;
}

pub formula_range : (text : List ℕ) (k : ℕ) (φ : Formula) (used : ℕ) → FormulaTaken text k φ used → InRange φ
formula_range text k φ used (v, t, e) =
    subst InRange (sym e) (within_range v.operator v.a v.b t.fits.ranged.a t.fits.ranged.b)

module _ (text : List ℕ) (n k : ℕ) (rest : List ℕ) (d : Draft) (h : Formulas text n k rest d) where
  pub formulas_count : length (formulas_of d) ≡ k
  formulas_count = ap length h.means ∙ length-map h.entries meaning ∙ h.count

  pub formulas_more : (φ : Formula) (used place : ℕ) (e : Draft) → FormulaTaken rest k φ used → FormulaJoins d φ place (Ok tt) e → Formulas text n (k + 1) (rest_from rest used) e
  formulas_more φ used place e (v, t, m) (founded, added, kept) =
      let o : Founded k (meaning v) = subst (Founded k) m (subst (λ z. Founded z φ) formulas_count founded) in
      let l : Begins formula_block n (h.entries ++ (v ∷ [])) text (drop used rest) =
      block_more formula_block text n h.entries v rest (drop used rest) h.lines
      (subst (λ z. formula_block.Line z v rest (drop used rest)) (sym h.count) (t.fits, o)) in
      record {
        entries = h.entries ++ (v ∷ []);
        lines = subst (Begins formula_block n (h.entries ++ (v ∷ [])) text) (sym (take_rest rest used)) l;
        count = length_push h.entries v ∙ ap (λ z. z + 1) h.count;
        means = added ∙ ap (λ z. formulas_of d ++ (z ∷ [])) m ∙ ap (λ z. z ++ (meaning v ∷ [])) h.means ∙ sym (map_push meaning h.entries v);
        ruleless = kept ∙ h.ruleless;
        ends = ends_twice text rest (rest_from rest used) h.ends (ends_from rest used);
        few = h.few;
        some = h.some;
      }

  pub formulas_stop : k < n → (e : ReadFault) → FormulaRefused k rest (k + 2) e → Stops formula_block text 1 e
  formulas_stop w e r =
      let q : k + 2 ≡ 1 + 1 + length h.entries = omega (arith, h.count) in
      at_line n h.entries rest h.lines (omega (arith, h.count))
      (subst (λ z. FormulaRefused z rest (1 + 1 + length h.entries) e) (sym h.count) (subst (λ z. FormulaRefused k rest z e) q r))

  pub formula_dangles : k < n → (φ : Formula) (used : ℕ) (f : TableFault) (e : Draft) → FormulaTaken rest k φ used → FormulaJoins d φ (k + 2) (Err f) e → Stops formula_block text 1 (Table f)
  formula_dangles w φ used f e (v, t, m) (is, out, kept) =
      subst (λ z. Stops formula_block text 1 (Table z)) (sym is)
      (formulas_stop w (Table (Dangling (k + 2)))
      (refl, (v, drop used rest, t.fits, λ o. out (subst (λ z. Founded z φ) (sym formulas_count) (subst (Founded k) (sym m) o)))))

-- ── rules: k of n lines have joined the draft, over these formulas, and a rest follows them ──
pub record Rules (text : List ℕ) (formulas : List Formula) (n k : ℕ) (rest : List ℕ) (d : Draft) : Type 0 where
  pub lines : Begins (rule_block formulas) n (rules_of d) text rest
  pub count : length (rules_of d) ≡ k
  pub same : formulas_of d ≡ formulas
  pub ends : EndsIn text rest
  pub few : n ≤ 16
  pub some : 1 ≤ n

pub rules_begin : (text : List ℕ) (formulas : List Formula) (n used : ℕ) (d : Draft) → Takes count_of_rules text n used → formulas_of d ≡ formulas → rules_of d ≡ [] → Rules text formulas n 0 (rest_from text used) d
rules_begin text formulas n used d t same none = record {
  lines = subst (λ z. Begins (rule_block formulas) n z text (rest_from text used)) (sym none)
      (record { middle = rest_from text used; counts = subst (Fits count_of_rules text n) (sym (take_rest text used)) t.fits; run = refl });
  count = ap length none;
  same = same;
  ends = ends_from text used;
  few = t.fits.ranged.1;
  some = t.fits.ranged.0;
}

module _ (text : List ℕ) (formulas : List Formula) (n k : ℕ) (rest : List ℕ) (d : Draft) (h : Rules text formulas n k rest d) where
  pub rules_more : (r : Rule) (used place : ℕ) (e : Draft) → Takes (rule_kind k) rest (k, r) used → RuleJoins d r place (Ok tt) e → Rules text formulas n (k + 1) (rest_from rest used) e
  rules_more r used place e t (ruled, added, kept) =
      let l : Begins (rule_block formulas) n (rules_of d ++ (r ∷ [])) text (drop used rest) =
      block_more (rule_block formulas) text n (rules_of d) r rest (drop used rest) h.lines
      (subst (λ z. (rule_block formulas).Line z r rest (drop used rest)) (sym h.count) (t.fits, subst (λ z. Ruled z r) h.same ruled)) in
      record {
        lines = subst (Begins (rule_block formulas) n (rules_of e) text) (sym (take_rest rest used)) (subst (λ z. Begins (rule_block formulas) n z text (drop used rest)) (sym added) l);
        count = ap length added ∙ length_push (rules_of d) r ∙ ap (λ z. z + 1) h.count;
        same = kept ∙ h.same;
        ends = ends_twice text rest (rest_from rest used) h.ends (ends_from rest used);
        few = h.few;
        some = h.some;
      }

  pub rules_stop : k < n → (place : ℕ) (e : ReadFault) → RuleRefused formulas k rest (place + 1 + k) e → Stops (rule_block formulas) text place e
  rules_stop w place e r =
      at_line n (rules_of d) rest h.lines (omega (arith, h.count))
      (subst (λ z. RuleRefused formulas z rest (place + 1 + z) e) (sym h.count) r)

  pub rule_unfit : k < n → (place : ℕ) (r : Rule) (used : ℕ) (f : TableFault) (e : Draft) → Takes (rule_kind k) rest (k, r) used → RuleJoins d r (place + 1 + k) (Err f) e → Stops (rule_block formulas) text place (Table f)
  rule_unfit w place r used (Dangling l) e t (is, out, kept) =
      rules_stop w place (Table (Dangling l)) (is, (r, drop used rest, t.fits, subst (λ z. NamesFormulas z r → ⊥) h.same out))
  rule_unfit w place r used (Loose l) e t (is, names, loose, kept) =
      rules_stop w place (Table (Loose l)) (is, (r, drop used rest, t.fits, subst (λ z. NamesFormulas z r) h.same names, subst (λ z. NamesLoose z r) h.same loose))
