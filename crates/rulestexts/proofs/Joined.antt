use Rattle.std.proofs.Common.{◌≡◌, ℕ, ◌+◌, ◌-◌, List, length, Err, sym, ap, ◌∙◌, subst, inr, ⊎_elim, arith}
use Rattle.std.proofs.lemmas.List.{length-map}
use Rattle.table.specs.declared.draft.Draft.{Draft}
use Rattle.table.specs.Tables.{formulas_of, rules_of, Finished}
use Rattle.table.specs.declared.defects.Defect.{Defect}
use Rattle.table.specs.declared.defects.Defect.TheVariants.{OutOfRange, PartNotBelow, NoSuchFormula, LooseRule}
use Rattle.faults.specs.declared.read.ReadFault.{ReadFault}
use Rattle.rulelines.specs.declared.entries.Entry.{Entry}
use Rattle.rulelines.specs.Meanings.{meaning}
use Rattle.rulestexts.specs.declared.sections.Section.{Section}
use Rattle.rulestexts.specs.Blocks.{Begins, Stops}
use Rattle.rulestexts.specs.Sections.{rule_block}
use Rattle.rulestexts.specs.Texts.{meanings, Whole, Refused, FormulasRead, RulesRead}
use Rattle.rulestexts.proofs.Endings.{ends_twice, ends_drop}

module _ (text : List ℕ) (a : Section) (vs : List Entry) (h : FormulasRead text a vs) where
  pub rules_stop : (e : ReadFault) → Stops (rule_block (formulas_of a.draft)) a.rest.now (a.count + 2) e → Refused text e
  rules_stop e s =
      let t : Stops (rule_block (meanings vs)) a.rest.now (a.count + 2) e =
      subst (λ z. Stops (rule_block z) a.rest.now (a.count + 2) e) h.means s in
      inr (record { entries = vs; middle = a.rest.now; formula_lines = h.lines; stops = subst (λ z. Stops (rule_block (meanings vs)) a.rest.now (z + 2) e) h.count t })

  -- both blocks are whole, and what follows the rules ends the text
  pub rules_whole : (b : Section) (d : Draft) → RulesRead a.rest.now (formulas_of a.draft) b → d ≡ b.draft → Whole text (formulas_of d) (rules_of d) (length text - length b.rest.now)
  rules_whole b d r e =
      let m : formulas_of b.draft ≡ meanings vs = r.same ∙ h.means in
      let l : Begins (rule_block (formulas_of b.draft)) (length (rules_of b.draft)) (rules_of b.draft) a.rest.now b.rest.now =
      subst (λ z. Begins (rule_block z) (length (rules_of b.draft)) (rules_of b.draft) a.rest.now b.rest.now) (sym r.same) r.lines in
      let w : Whole text (formulas_of b.draft) (rules_of b.draft) (length text - length b.rest.now) = record {
        entries = vs;
        middle = a.rest.now;
        formula_lines = h.lines;
        means = m;
        rule_lines = subst (Begins (rule_block (formulas_of b.draft)) (length (rules_of b.draft)) (rules_of b.draft) a.rest.now)
            (sym (ends_drop text b.rest.now (ends_twice text a.rest.now b.rest.now h.ends r.ends))) l;
        within = omega arith;
      } in
      subst (λ (z : Draft). Whole text (formulas_of z) (rules_of z) (length text - length b.rest.now)) (sym e) w

  -- both blocks have lines, so the table is finished
  pub finishes : (b : Section) → RulesRead a.rest.now (formulas_of a.draft) b → (why : Defect) → Finished b.draft (Err why) → ⊥
  finishes b r OutOfRange x =
      let f : length (formulas_of b.draft) ≡ a.count = ap length (r.same ∙ h.means) ∙ length-map vs meaning ∙ sym h.count in
      ⊎_elim
      (λ (e : length (formulas_of b.draft) ≡ 0). omega (arith, f, h.some))
      (λ (e : length (rules_of b.draft) ≡ 0). omega (arith, r.count, r.some)) x
  finishes b r PartNotBelow x = x
  finishes b r NoSuchFormula x = x
  finishes b r LooseRule x = x
