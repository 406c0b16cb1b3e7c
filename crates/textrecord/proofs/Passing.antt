use Rattle.std.proofs.Common.{◌≡◌, ℕ, zero, suc, ◌+◌, ◌<◌, ◌≤◌, true, false, eqb, ltb, leb, List, [], ◌∷◌, ◌++◌, length, drop, sym, refl, ap, ◌∙◌, subst, ⊎_elim, arith, length-append}
use Rattle.std.proofs.lemmas.List.{drop_at, drop-drop}
use Rattle.std.proofs.lemmas.Bool.{eq-eqb, ne_eqb, eqb-true, leb-true, ltb-true, le-leb, lt-ltb, and_parts, and_from, cases_eq, cases_Bool, both_ways, cond-true, cond-false}
use Rattle.logic.specs.declared.types.State.{State}
use Rattle.fields.specs.Lines.{Free, FirstLine, line_limit, number_limit}
use Rattle.fields.specs.Runs.{Run}
use Rattle.traces.specs.declared.numbers.Numbers.{Numbers}
use Rattle.traces.specs.Traces.{trace_line, Formed, Ranged}
use Rattle.traces.specs.Meanings.{meaning, Passes}
use Rattle.textrecord.specs.Listed.{before, numbers_in, state_in, same_bytes, in_range, passes, states_from}
use Rattle.textrecord.proofs.Extract.{extracted}

-- ── the bytes before the first byte 10 ──
before_line : (line rest : List ℕ) → Free 10 line → before 10 (line ++ (10 ∷ rest)) ≡ line
before_line [] rest f = refl
before_line (x ∷ xs) rest f = rw (ne_eqb x 10 f.0) (ap (λ z. x ∷ z) (before_line xs rest f.1))

before_free : (text : List ℕ) → Free 10 (before 10 text)
before_free [] = tt
before_free (x ∷ xs) =
    ⊎_elim (λ e. subst (Free 10) (sym (cond-true (eqb x 10) [] (x ∷ before 10 xs) (eq-eqb x 10 e))) tt)
    (λ e. subst (Free 10) (sym (cond-false (eqb x 10) [] (x ∷ before 10 xs) (ne_eqb x 10 e))) (e, before_free xs))
    (cases_eq x 10)

drop_one : (x : ℕ) (xs : List ℕ) (n : ℕ) → drop (n + 1) xs ≡ drop (suc n + 1) (x ∷ xs)
drop_one x xs n = let e : 1 + (n + 1) ≡ suc n + 1 = omega arith in drop-drop (n + 1) 1 (x ∷ xs) ∙ ap (λ z. drop z (x ∷ xs)) e

drop_line : (line rest : List ℕ) → drop (length line + 1) (line ++ (10 ∷ rest)) ≡ rest
drop_line line rest = sym (drop-drop 1 (length line) (line ++ (10 ∷ rest))) ∙ ap (drop 1) (drop_at line (10 ∷ rest) (length line) refl)

before_shows : (text : List ℕ) → length (before 10 text) < length text → text ≡ before 10 text ++ (10 ∷ drop (length (before 10 text) + 1) text)
before_shows [] h = absurd (omega arith)
before_shows (x ∷ xs) h =
    ⊎_elim
    (λ (e : x ≡ 10).
    let q : before 10 (x ∷ xs) ≡ [] = cond-true (eqb x 10) [] (x ∷ before 10 xs) (eq-eqb x 10 e) in
    subst (λ z. x ∷ xs ≡ z ++ (10 ∷ drop (length z + 1) (x ∷ xs))) (sym q) (ap (λ z. z ∷ xs) e))
    (λ e.
    let q : before 10 (x ∷ xs) ≡ x ∷ before 10 xs = cond-false (eqb x 10) [] (x ∷ before 10 xs) (ne_eqb x 10 e) in
    let l : length (before 10 xs) < length xs = omega (arith, ap length q) in
    let i : xs ≡ before 10 xs ++ (10 ∷ drop (length (before 10 xs) + 1) xs) = before_shows xs l in
    subst (λ z. x ∷ xs ≡ z ++ (10 ∷ drop (length z + 1) (x ∷ xs))) (sym q)
    (ap (λ z. x ∷ z) i ∙ ap (λ z. x ∷ (before 10 xs ++ (10 ∷ z))) (drop_one x xs (length (before 10 xs)))))
    (cases_eq x 10)

-- ── tests ──
same_refl : (xs : List ℕ) → same_bytes xs xs ≡ true
unfolding same_bytes
same_refl [] = refl
same_refl (x ∷ xs) = and_from (eqb x x) (same_bytes xs xs) (eq-eqb x x refl) (same_refl xs)

same_true : (xs ys : List ℕ) → same_bytes xs ys ≡ true → xs ≡ ys
unfolding same_bytes
same_true [] [] e = refl
same_true [] (y ∷ ys) e = absurd (both_ways false refl e)
same_true (x ∷ xs) [] e = absurd (both_ways false refl e)
same_true (x ∷ xs) (y ∷ ys) e =
    let p = and_parts (eqb x y) (same_bytes xs ys) e in
    let h : x ≡ y = eqb-true x y p.0 in
    let t : xs ≡ ys = same_true xs ys p.1 in
    cc (h, t)

range_true : (count : ℕ) (v : Numbers) → in_range count v ≡ true → Ranged count v
unfolding in_range
range_true count v e =
    let p0 = and_parts (eqb v.state (count + 1)) _ e in
    let p1 = and_parts (leb v.state 256) _ p0.1 in
    let p2 = and_parts (leb v.signals number_limit) _ p1.1 in
    let p3 = and_parts (leb v.nominal 255) _ p2.1 in
    let p4 = and_parts (leb v.first_kind 15) _ p3.1 in
    let p5 = and_parts (leb v.first_target 256) _ p4.1 in
    let p6 = and_parts (leb v.second_kind 15) _ p5.1 in
    record {
      next = eqb-true _ _ p0.0;
      state = leb-true _ _ p1.0;
      signals = leb-true _ _ p2.0;
      nominal = leb-true _ _ p3.0;
      first_kind = leb-true _ _ p4.0;
      first_target = leb-true _ _ p5.0;
      second_kind = leb-true _ _ p6.0;
      second_target = leb-true _ _ p6.1;
    }

true_range : (count : ℕ) (v : Numbers) → Ranged count v → in_range count v ≡ true
unfolding in_range
true_range count v r =
    and_from _ _ (eq-eqb _ _ r.next) (and_from _ _ (le-leb _ _ r.state) (and_from _ _ (le-leb _ _ r.signals) (and_from _ _ (le-leb _ _ r.nominal)
    (and_from _ _ (le-leb _ _ r.first_kind) (and_from _ _ (le-leb _ _ r.first_target) (and_from _ _ (le-leb _ _ r.second_kind) (le-leb _ _ r.second_target)))))))

range_formed : (count : ℕ) (v : Numbers) → Ranged count v → Formed v
range_formed count v r = record {
  state = omega (arith, r.state);
  signals = omega (arith, r.signals);
  nominal = omega (arith, r.nominal);
  first_kind = omega (arith, r.first_kind);
  first_target = omega (arith, r.first_target);
  second_kind = omega (arith, r.second_kind);
  second_target = omega (arith, r.second_target);
}

-- ── a line that passes, as a test and in words ──
pub tested : (count : ℕ) (text : List ℕ) → passes count text ≡ true → Passes count (state_in (before 10 text)) text (drop (length (before 10 text) + 1) text)
unfolding passes
tested count text e =
    let p1 = and_parts (leb (length (before 10 text)) line_limit) _ e in
    let p2 = and_parts (ltb (length (before 10 text)) (length text)) _ p1.1 in
    let p3 = and_parts (same_bytes (before 10 text) (trace_line (numbers_in (before 10 text)))) _ p2.1 in
    let w : before 10 text ≡ trace_line (numbers_in (before 10 text)) = same_true _ _ p3.0 in
    let r : Ranged count (numbers_in (before 10 text)) = range_true _ _ p3.1 in
    let f : FirstLine text (before 10 text) (drop (length (before 10 text) + 1) text) =
    record { shows = before_shows text (ltb-true _ _ p2.0); plain = before_free text; short = leb-true _ _ p1.0 } in
    record {
      numbers = numbers_in (before 10 text);
      fits = record {
        shows = record { line = subst (λ z. FirstLine text z (drop (length (before 10 text) + 1) text)) w f; formed = range_formed _ _ r };
        ranged = r;
      };
      means = refl;
    }

-- what a line that passes shows
pub record Seen (count : ℕ) (q : State) (text rest : List ℕ) : Type 0 where
  pub test : passes count text ≡ true
  pub state : state_in (before 10 text) ≡ q
  pub after : drop (length (before 10 text) + 1) text ≡ rest

pub seen : (count : ℕ) (q : State) (text rest : List ℕ) → Passes count q text rest → Seen count q text rest
unfolding passes
seen count q text rest a =
    let v = a.numbers in
    let p = a.fits in
    let line : List ℕ = trace_line v in
    let b : before 10 text ≡ line = ap (before 10) p.shows.line.shows ∙ before_line line rest p.shows.line.plain in
    let s : numbers_in (before 10 text) ≡ v = ap numbers_in b ∙ extracted v p.shows.formed in
    let n : length text ≡ length line + length (10 ∷ rest) = ap length p.shows.line.shows ∙ length-append line (10 ∷ rest) in
    let d : drop (length (before 10 text) + 1) text ≡ rest =
    ap (λ z. drop (length z + 1) text) b ∙ ap (drop (length line + 1)) p.shows.line.shows ∙ drop_line line rest in
    let short : length (before 10 text) ≤ line_limit = omega (arith, p.shows.line.short, ap length b) in
    let within : length (before 10 text) < length text = omega (arith, n, ap length b) in
    record {
      test = and_from _ _ (le-leb _ _ short)
          (and_from _ _ (lt-ltb _ _ within)
          (and_from _ _ (subst (λ z. same_bytes (before 10 text) (trace_line z) ≡ true) (sym s) (subst (λ z. same_bytes z line ≡ true) (sym b) (same_refl line)))
          (subst (λ z. in_range count z ≡ true) (sym s) (true_range count v p.ranged))));
      state = ap meaning s ∙ sym a.means;
      after = d;
    }

-- ── the list ──
pub run_from : (room count : ℕ) (text : List ℕ) → count + room ≡ 256
    → (rest : List ℕ) × Run Passes count (states_from room count text) text rest
    × ((q : State) (u : List ℕ) → Passes (count + length (states_from room count text)) q rest u → ⊥)
unfolding states_from
run_from zero count text h = (text, refl, λ q u p. omega (arith, p.fits.ranged.next, p.fits.ranged.state))
run_from (suc room) count text h =
    ⊎_elim
    (λ (e : passes count text ≡ true).
    let i = run_from room (count + 1) (drop (length (before 10 text) + 1) text) (omega arith) in
    let c : states_from (suc room) count text ≡ state_in (before 10 text) ∷ states_from room (count + 1) (drop (length (before 10 text) + 1) text) = cond-true (passes count text) _ _ e in
    let n : count + 1 + length (states_from room (count + 1) (drop (length (before 10 text) + 1) text)) ≡ count + length (states_from (suc room) count text) = omega (arith, ap length c) in (
      i.0,
      subst (λ z. Run Passes count z text i.0) (sym c) (drop (length (before 10 text) + 1) text, tested count text e, i.1),
      λ q u p. i.2 q u (subst (λ z. Passes z q i.0 u) (sym n) p),
    ))
    (λ (e : passes count text ≡ false).
    let c : states_from (suc room) count text ≡ [] = cond-false (passes count text) _ _ e in
    let n : count + length (states_from (suc room) count text) ≡ count = omega (arith, ap length c) in (
      text,
      subst (λ z. Run Passes count z text text) (sym c) refl,
      λ q u p. both_ways (passes count text) e (seen count q text u (subst (λ z. Passes z q text u) n p)).test,
    ))
    (cases_Bool (passes count text))
