-- What is read of a text is read of every text that goes on from it. Assumes nothing.
use Rattle.std.proofs.Common.{◌≡◌, ℕ, ◌+◌, List, [], ◌∷◌, ◌++◌, length, drop, sym, ap, ◌∙◌, subst, append_assoc, arith, length-append}
use Rattle.std.proofs.lemmas.List.{drop-append-le}
use Rattle.logic.specs.declared.types.Formula.{Formula}
use Rattle.logic.specs.declared.types.Rule.{Rule}
use Rattle.logic.specs.declared.types.State.{State}
use Rattle.fields.specs.Lines.{FirstLine}
use Rattle.fields.specs.Kinds.{Kind, Fits}
use Rattle.fields.specs.Runs.{Run}
use Rattle.traces.specs.Traces.{trace_kind}
use Rattle.rulelines.specs.declared.entries.Entry.{Entry}
use Rattle.rulelines.specs.Formulas.{formula_kind}
use Rattle.rulelines.specs.Rules.{rule_kind}
use Rattle.rulestexts.specs.Blocks.{Begins}
use Rattle.rulestexts.specs.Sections.{count_of_formulas, count_of_rules, FormulaFits, RuleFits, formula_block, rule_block}
use Rattle.rulestexts.specs.Texts.{Whole}
use Rattle.answers.specs.Answers.{Ground}
use Rattle.watch_lib.specs.declared.lines.Line.{Line}
use Rattle.watch_lib.specs.Watched.{Reaches, none, more}

module _ (added : List ℕ) where
  first_line : (text line rest : List ℕ) → FirstLine text line rest → FirstLine (text ++ added) line (rest ++ added)
  first_line text line rest f = record { shows = ap (λ t. t ++ added) f.shows ∙ append_assoc line (10 ∷ rest) added; plain = f.plain; short = f.short }

  fits : (K : Kind) (text : List ℕ) (v : K.Value) (rest : List ℕ) → Fits K text v rest → Fits K (text ++ added) v (rest ++ added)
  fits K text v rest f =
      record { shows = record { line = first_line text (K.written v) rest f.shows.line; formed = f.shows.formed }; ranged = f.ranged }

  run : {A : Type 0} (Shown : ℕ → A → List ℕ → List ℕ → Type 0)
      → ((k : ℕ) (x : A) (text rest : List ℕ) → Shown k x text rest → Shown k x (text ++ added) (rest ++ added))
      → (k : ℕ) (xs : List A) (text rest : List ℕ) → Run Shown k xs text rest → Run Shown k xs (text ++ added) (rest ++ added)
  run Shown grows k [] text rest e = ap (λ t. t ++ added) e
  run Shown grows k (x ∷ xs) text rest (middle, line, later) = (middle ++ added, grows k x text middle line, run Shown grows (k + 1) xs middle rest later)

  formulas_begin : (n : ℕ) (xs : List Entry) (text rest : List ℕ) → Begins formula_block n xs text rest → Begins formula_block n xs (text ++ added) (rest ++ added)
  formulas_begin n xs text rest b = record {
    middle = b.middle ++ added;
    counts = fits count_of_formulas text n b.middle b.counts;
    run = run FormulaFits (λ k x t r l. (fits (formula_kind k) t x r l.0, l.1)) 0 xs b.middle rest b.run;
  }

  rules_begin : (formulas : List Formula) (n : ℕ) (xs : List Rule) (text rest : List ℕ)
      → Begins (rule_block formulas) n xs text rest → Begins (rule_block formulas) n xs (text ++ added) (rest ++ added)
  rules_begin formulas n xs text rest b = record {
    middle = b.middle ++ added;
    counts = fits count_of_rules text n b.middle b.counts;
    run = run (RuleFits formulas) (λ k x t r l. (fits (rule_kind k) t (k, x) r l.0, l.1)) 0 xs b.middle rest b.run;
  }

  -- a rules text that is read whole
  pub whole : (text : List ℕ) (formulas : List Formula) (rules : List Rule) (used : ℕ) → Whole text formulas rules used → Whole (text ++ added) formulas rules used
  whole text formulas rules used w =
      let after : drop used (text ++ added) ≡ drop used text ++ added = drop-append-le used text added w.within in
      record {
        entries = w.entries;
        middle = w.middle ++ added;
        formula_lines = formulas_begin (length w.entries) w.entries text w.middle w.formula_lines;
        means = w.means;
        rule_lines = subst (λ r. Begins (rule_block formulas) (length rules) rules (w.middle ++ added) r) (sym after)
            (rules_begin formulas (length rules) rules w.middle (drop used text) w.rule_lines);
        within = omega (arith, w.within, length-append text added);
      }

  -- states that are all accepted
  pub reaches : (G : Ground) {start : List ℕ} {xs : List State} {text : List ℕ} {lines : List Line}
      → Reaches G start xs text lines → Reaches G (start ++ added) xs (text ++ added) lines
  reaches G none = none
  reaches G (more {xs = xs} {text = text} {rest = rest} before fit ok) =
      more (reaches G before)
      (record { numbers = fit.numbers; fits = fits (trace_kind (length xs)) text fit.numbers rest fit.fits; means = fit.means }) ok
