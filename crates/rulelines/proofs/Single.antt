use Rattle.std.proofs.Common.{◌≡◌, ℕ, List, [], ◌++◌, decimal, refl}
use Rattle.std.proofs.lemmas.List.{append_cancel_left}
use Rattle.logic.specs.declared.types.Rule.{Rule}
use Rattle.words.specs.Words.{word}
use Rattle.words.specs.declared.Operator.{Operator}
use Rattle.fields.proofs.Parted.{solid_decimal, same_small}
use Rattle.fields.proofs.Ends.{one_parting}
use Rattle.fields.proofs.Judged.{Single}
use Rattle.fields.proofs.Named.{one_word}
use Rattle.fields.proofs.Shown.{shown_unique}
use Rattle.rulelines.specs.declared.entries.Entry.{Entry}
use Rattle.rulelines.specs.Counts.{count_kind}
use Rattle.rulelines.specs.Formulas.{formula_kind}
use Rattle.rulelines.specs.Rules.{rule_kind}
use Rattle.rulelines.proofs.Showing.{formula_keys, formula_texts, formula_led, formula_solids, rule_keys, rule_texts, rule_led, rule_solids}

-- a line of a count shows one number
pub count_single : (key : List ℕ) (most : ℕ) → Single (count_kind key most)
count_single key most m n f g e =
    same_small m n f g (one_parting 32 (decimal m) (decimal n) [] [] (solid_decimal m f) (solid_decimal n g) tt tt (append_cancel_left key (decimal m ++ []) (decimal n ++ []) e)).0

entry : ℕ → Operator → ℕ → ℕ → Entry
entry k o a b = record { number = k; operator = o; a = a; b = b }

-- a formula line shows one entry
pub formula_single : (k : ℕ) → Single (formula_kind k)
unfolding entry
formula_single k v w f g e =
    let t : formula_texts v ≡ formula_texts w = shown_unique formula_keys (formula_texts v) (formula_texts w) refl refl formula_led (formula_solids v f) (formula_solids w g) e in
    let e0 : v.number ≡ w.number = same_small _ _ f.number g.number (cc) in
    let x1 : word v.operator ≡ word w.operator = cc in
    let e1 : v.operator ≡ w.operator = one_word v.operator w.operator x1 in
    let e2 : v.a ≡ w.a = same_small _ _ f.a g.a (cc) in
    let e3 : v.b ≡ w.b = same_small _ _ f.b g.b (cc) in
    let p : entry v.number v.operator v.a v.b ≡ entry w.number w.operator w.a w.b = cc in p

rule : ℕ → ℕ → Rule
rule c d = record { condition = c; content = d }

numbered : ℕ → Rule → ℕ × Rule
numbered i r = (i, r)

-- a rule line shows one rule, under one number
pub rule_single : (k : ℕ) → Single (rule_kind k)
unfolding rule numbered
rule_single k v w f g e =
    let t : rule_texts v.0 v.1 ≡ rule_texts w.0 w.1 = shown_unique rule_keys (rule_texts v.0 v.1) (rule_texts w.0 w.1) refl refl rule_led (rule_solids v.0 v.1 f) (rule_solids w.0 w.1 g) e in
    let e0 : v.0 ≡ w.0 = same_small _ _ f.number g.number (cc) in
    let e1 : v.1.condition ≡ w.1.condition = same_small _ _ f.condition g.condition (cc) in
    let e2 : v.1.content ≡ w.1.content = same_small _ _ f.content g.content (cc) in
    let q : rule v.1.condition v.1.content ≡ rule w.1.condition w.1.content = cc in
    let p : numbered v.0 (rule v.1.condition v.1.content) ≡ numbered w.0 (rule w.1.condition w.1.content) = cc (e0, q) in p
