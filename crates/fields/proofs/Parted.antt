use denote.Bor.{Bor}
use Rattle.std.proofs.Common.{◌≡◌, ℕ, ◌+◌, ◌-◌, ◌^◌, ◌<◌, ◌≤◌, List, [], ◌++◌, length, get_or, take, drop, decimal, sym, refl, ap, ◌∙◌, subst, arith, length-append, length-drop, take-append-drop, position, ◌==◌, Some, None, Option, MatchOption}
use Rattle.std.proofs.lemmas.Str.Parse.{digit_at}
use Rattle.std.proofs.lemmas.Fmt.{decimal_injective}
use Rattle.std.proofs.ByRecursion.{All-from_get_or}
use Rattle.std.proofs.lemmas.List.{take_rest, drop_at, drop-drop, drop_all, append_cancel_left, append-nil, length-take-le}
use Rattle.fields.specs.Lines as lines
use Rattle.words.specs.Words.{word}
use Rattle.words.specs.declared.Operator.{Operator}
use Rattle.keys.specs.Keys.{count_text, trace_text, formula_text, rule_text}
use Rattle.keys.specs.declared.CountKey.{CountKey}
use Rattle.keys.specs.declared.CountKey.TheVariants as count
use Rattle.keys.specs.declared.TraceKey.{TraceKey}
use Rattle.keys.specs.declared.TraceKey.TheVariants as trace
use Rattle.keys.specs.declared.FormulaKey.{FormulaKey}
use Rattle.keys.specs.declared.FormulaKey.TheVariants as formula
use Rattle.keys.specs.declared.RuleKey.{RuleKey}
use Rattle.keys.specs.declared.RuleKey.TheVariants as rule
use Rattle.fields.specs.declared.parts.Field.{Field}
use Rattle.fields.specs.declared.parts.Field.TheVariants.{Word, Number, End}
use Rattle.fields.specs.Fields.{Stop, Solid, Part, Digit, Under, Took, NoNumber, NoOperator}
use Rattle.fields.proofs.Scanned.{FirstPlace, first_place, no_place}
use Rattle.fields.proofs.Named.{solid_word, word_letter}
use Rattle.fields.proofs.Ends.{one_parting}
use Rattle.fields.proofs.Numerals.{Form, number_form}

pub solid_decimal : (n : ℕ) → n < 10 ^ 10 → Solid (decimal n)
solid_decimal n h =
    let f : Form (decimal n) = number_form (decimal n) n (h, refl) in
    All-from_get_or (λ b. b ≡ 32 → ⊥) (decimal n) 0 (λ i l e. omega (arith, digit_at (decimal n) i f.digits l))

-- a number of up to ten digits is told by them
pub same_small : (m n : ℕ) → m < 10 ^ 10 → n < 10 ^ 10 → decimal m ≡ decimal n → m ≡ n
same_small m n h k e = decimal_injective m n (omega arith) (omega arith) e

module _ (line : List ℕ) (at : ℕ) (h : at ≤ length line) where
  -- up to the first space
  pub part_to : (n : ℕ) → position (λ b. b == 32) (drop at line) ≡ Some n → Part line at (take n (drop at line)) at
  part_to n e =
      let f : FirstPlace 32 (drop at line) n = first_place 32 (drop at line) n e in
      let l : length (take n (drop at line)) ≡ n = length-take-le n (drop at line) (omega (arith, f.within)) in
      let d : drop n (drop at line) ≡ drop (at + length (take n (drop at line))) line = drop-drop n at line ∙ ap (λ z. drop z line) (omega arith) in
      record {
        same = refl;
        within = omega (arith, f.within, length-drop at line);
        parted = sym (take-append-drop n (drop at line)) ∙ ap (λ z. take n (drop at line) ++ z) d;
        solid = f.first;
        stops = subst Stop d (subst Stop (sym f.here) refl);
      }

  -- or up to the line's end
  pub part_rest : position (λ b. b == 32) (drop at line) ≡ None → Part line at (drop at line) at
  part_rest e =
      let d : drop (at + length (drop at line)) line ≡ [] = drop_all (at + length (drop at line)) line (omega (arith, length-drop at line)) in
      record {
        same = refl;
        within = omega (arith, length-drop at line);
        parted = sym (append-nil (drop at line)) ∙ ap (λ z. drop at line ++ z) (sym d);
        solid = no_place 32 (drop at line) e;
        stops = subst Stop (sym d) tt;
      }

  -- the place of the first space tells which of the two
  pub part_at : (o : Option ℕ) (t : List ℕ) {A : Type 0} {B : ℕ → Type 0} → o ≡ position (λ b. b == 32) (take (length line - at) (drop at line)) → MatchOption o A B
      → (A → t ≡ take (length line - at) (drop at line)) → ((n : ℕ) → B n → t ≡ take n (take (length line - at) (drop at line))) → Part line at t at
  part_at (Some n) t e x f g = subst (λ z. Part line at z at) (sym (g n x ∙ ap (take n) (take_rest line at))) (part_to n (sym (e ∙ ap (position (λ b. b == 32)) (take_rest line at))))
  part_at None t e x f g = subst (λ z. Part line at z at) (sym (f x ∙ take_rest line at)) (part_rest (sym (e ∙ ap (position (λ b. b == 32)) (take_rest line at))))

-- a field after a key, and what follows it
pub took_part : (line before key t : List ℕ) (at place : ℕ) → before ≡ key ++ drop at line → Part line at t place → Took before key t (drop (place + length t) line)
took_part line before key t at place k p = record {
  solid = p.solid;
  shows = k ∙ ap (λ z. key ++ z) (p.parted ∙ ap (λ z. t ++ drop (z + length t) line) (sym p.same));
  stops = subst (λ z. Stop (drop (z + length t) line)) (sym p.same) p.stops;
}

-- a key with nothing after it
pub took_none : (line before key : List ℕ) (at : ℕ) → before ≡ key ++ drop at line → Stop (drop at line) → Took before key [] (drop at line)
took_none line before key at k s = record { solid = tt; shows = k; stops = s }

-- a field is read in one way only
pub step : (before key t after t' u : List ℕ) → Took before key t after → Solid t' → Stop u → before ≡ key ++ (t' ++ u) → (t ≡ t') × (after ≡ u)
step before key t after t' u k h y e =
    one_parting 32 t t' after u k.solid h k.stops y (append_cancel_left key (t ++ after) (t' ++ u) (sym k.shows ∙ e))

-- a key with a text after it that is no number
pub no_number : (before key t after : List ℕ) → Took before key t after → ((m : ℕ) → lines.Number t m → ⊥) → NoNumber before key
no_number before key t after k f n u h y e =
    f n (h, (step before key t after (decimal n) u k (solid_decimal n h) y e).0)

pub word_no_number : (t : List ℕ) → (Digit (get_or t 0 0) → ⊥) → (m : ℕ) → lines.Number t m → ⊥
word_no_number t f m h =
    let g : Form t = number_form t m h in f (digit_at t 0 g.digits g.some)

pub none_no_number : (m : ℕ) → lines.Number [] m → ⊥
none_no_number m h = let g : Form [] = number_form [] m h in omega (arith, g.some)

-- or no operator's word
pub no_operator : (before key t after : List ℕ) → Took before key t after → ((o : Operator) → t ≡ word o → ⊥) → NoOperator before key
no_operator before key t after k f o u y e = f o (step before key t after (word o) u k (solid_word o) y e).0

pub number_no_word : (t : List ℕ) → Digit (get_or t 0 0) → (o : Operator) → t ≡ word o → ⊥
number_no_word t d o e = omega (arith, d, word_letter o, ap (λ z. get_or z 0 0) e)

pub none_no_word : (o : Operator) → [] ≡ word o → ⊥
none_no_word o e = omega (arith, word_letter o, ap (λ z. get_or z 0 0) e)

-- what stands under a key, where it is no number
pub not_number : (line before key : List ℕ) (f : Field) → Under line before key f → ((t : Bor (List ℕ)) (p : ℕ) → f ≡ Number t p → ⊥) → NoNumber before key
not_number line before key (Word t p) u n = no_number before key t.now _ (took_part line before key t.now u.at p u.keyed u.stands.0) (word_no_number t.now u.stands.1)
not_number line before key (Number t p) u n = absurd (n t p refl)
not_number line before key End u n = no_number before key [] _ (took_none line before key u.at u.keyed u.stands) none_no_number

pub not_decimal : (line before key : List ℕ) (f : Field) → Under line before key f → (t : Bor (List ℕ)) (p : ℕ) → f ≡ Number t p → ((m : ℕ) → lines.Number t.now m → ⊥) → NoNumber before key
not_decimal line before key f u t p e n =
    let v : Under line before key (Number t p) = subst (Under line before key) e u in
    no_number before key t.now _ (took_part line before key t.now v.at p v.keyed v.stands.0) n

-- and where it is no operator's word
pub not_word : (line before key : List ℕ) (f : Field) → Under line before key f → ((t : Bor (List ℕ)) (p : ℕ) → f ≡ Word t p → ⊥) → NoOperator before key
not_word line before key (Word t p) u n = absurd (n t p refl)
not_word line before key (Number t p) u n = no_operator before key t.now _ (took_part line before key t.now u.at p u.keyed u.stands.0) (number_no_word t.now u.stands.1)
not_word line before key End u n = no_operator before key [] _ (took_none line before key u.at u.keyed u.stands) none_no_word

pub not_named : (line before key : List ℕ) (f : Field) → Under line before key f → (t : Bor (List ℕ)) (p : ℕ) → f ≡ Word t p → ((o : Operator) → t.now ≡ word o → ⊥) → NoOperator before key
not_named line before key f u t p e n =
    let v : Under line before key (Word t p) = subst (Under line before key) e u in
    no_operator before key t.now _ (took_part line before key t.now v.at p v.keyed v.stands.0) n

-- a key that comes next in what a line has from a place on, and the place after it
pub keyed_after : (line key u : List ℕ) (at : ℕ) → at ≤ length line → take (length line - at) (drop at line) ≡ key ++ u → drop at line ≡ key ++ drop (length line - length u) line
keyed_after line key u at h e' =
    let e : drop at line ≡ key ++ u = sym (take_rest line at) ∙ e' in
    let n : length line - at ≡ length key + length u = sym (length-drop at line) ∙ ap length e ∙ length-append key u in
    let d : drop (at + length key) line ≡ u = sym (drop-drop (length key) at line) ∙ ap (drop (length key)) e ∙ drop_at key u (length key) refl in
    e ∙ ap (λ z. key ++ z) (sym d ∙ ap (λ z. drop z line) (omega (arith, n, h)))

-- no key is empty
pub count_key_some : (k : CountKey) (u : List ℕ) → count_text k ++ u ≡ [] → ⊥
count_key_some count.Formulas u e = omega (arith, ap length e)
count_key_some count.Rules u e = omega (arith, ap length e)

pub trace_key_some : (k : TraceKey) (u : List ℕ) → trace_text k ++ u ≡ [] → ⊥
trace_key_some trace.State u e = omega (arith, ap length e)
trace_key_some trace.Signals u e = omega (arith, ap length e)
trace_key_some trace.Mark u e = omega (arith, ap length e)
trace_key_some trace.FirstKind u e = omega (arith, ap length e)
trace_key_some trace.FirstTarget u e = omega (arith, ap length e)
trace_key_some trace.SecondKind u e = omega (arith, ap length e)
trace_key_some trace.SecondTarget u e = omega (arith, ap length e)

pub formula_key_some : (k : FormulaKey) (u : List ℕ) → formula_text k ++ u ≡ [] → ⊥
formula_key_some formula.Number u e = omega (arith, ap length e)
formula_key_some formula.Operator u e = omega (arith, ap length e)
formula_key_some formula.First u e = omega (arith, ap length e)
formula_key_some formula.Second u e = omega (arith, ap length e)

pub rule_key_some : (k : RuleKey) (u : List ℕ) → rule_text k ++ u ≡ [] → ⊥
rule_key_some rule.Number u e = omega (arith, ap length e)
rule_key_some rule.When u e = omega (arith, ap length e)
rule_key_some rule.Expect u e = omega (arith, ap length e)
