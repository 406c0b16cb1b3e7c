use Rattle.std.proofs.Common.{◌≡◌, ℕ, ◌+◌, ◌≤◌, List, ◌∷◌, length, drop, sym, ap, ◌∙◌, subst, Option, Some, None, Result, Ok, Err, arith, length-append, length-drop}
use Rattle.faults.specs.declared.line.LineFault.{LineFault}
use Rattle.faults.specs.declared.line.LineFault.TheVariants as fault
use Rattle.fields.specs.Lines.{FirstLine}
use Rattle.fields.specs.declared.lines.Taken.{Taken}
use Rattle.fields.specs.Reads.{Fails, ReadsLine}
use Rattle.fields.specs.Kinds.{Kind, Shows, Takes, Refuses, TakesLine, ShowsNone}
use Rattle.fields.specs.Readers.{ReadsValue, ReadsMeaning}
use Rattle.fields.proofs.Ends.{one_line}

-- a kind whose lines show one value at most
abbrev pub Single : Kind → Type 0
Single K = (v w : K.Value) → K.Formed v → K.Formed w → K.written v ≡ K.written w → v ≡ w

module _ (K : Kind) (single : Single K) (text : List ℕ) where
  pub one_shown : (v w : K.Value) (r s : List ℕ) → Shows K text v r → Shows K text w s → (v ≡ w) × (r ≡ s)
  one_shown v w r s a b =
      let d = one_line text (K.written v) (K.written w) r s a.line b.line in
      (single v w a.formed b.formed d.0, d.1)

  -- a line that shows a value in range is not refused
  pub fit_or_refused : (v : K.Value) (rest : List ℕ) (place : ℕ) (e : LineFault) → Shows K text v rest → K.Ranged v → Refuses K text place e → ⊥
  fit_or_refused v rest place (fault.Torn at) s r (p, t) = t (K.written v) rest s.line
  fit_or_refused v rest place (fault.Form at) s r (p, (line, u, f, none)) =
      none v s.formed (one_line text line (K.written v) u rest f s.line).0
  fit_or_refused v rest place (fault.Range at) s r (p, (w, u, t, out)) =
      out (subst K.Ranged (one_shown v w rest u s t).0 r)

  -- a line gets one number at most
  pub one_refusal : (place : ℕ) (e f : LineFault) → Refuses K text place e → Refuses K text place f → e ≡ f
  one_refusal place (fault.Torn a) (fault.Torn b) (p, x) (q, y) = ap fault.Torn (p ∙ sym q)
  one_refusal place (fault.Torn a) (fault.Form b) (p, t) (q, (line, u, f, none)) = absurd (t line u f)
  one_refusal place (fault.Torn a) (fault.Range b) (p, t) (q, (w, u, s, out)) = absurd (t (K.written w) u s.line)
  one_refusal place (fault.Form a) (fault.Torn b) (p, (line, u, f, none)) (q, t) = absurd (t line u f)
  one_refusal place (fault.Form a) (fault.Form b) (p, x) (q, y) = ap fault.Form (p ∙ sym q)
  one_refusal place (fault.Form a) (fault.Range b) (p, (line, u, f, none)) (q, (w, v, s, out)) =
      absurd (none w s.formed (one_line text line (K.written w) u v f s.line).0)
  one_refusal place (fault.Range a) (fault.Torn b) (p, (w, u, s, out)) (q, t) = absurd (t (K.written w) u s.line)
  one_refusal place (fault.Range a) (fault.Form b) (p, (w, v, s, out)) (q, (line, u, f, none)) =
      absurd (none w s.formed (one_line text line (K.written w) u v f s.line).0)
  one_refusal place (fault.Range a) (fault.Range b) (p, x) (q, y) = ap fault.Range (p ∙ sym q)

  -- a text is taken in one way only
  pub one_taking : (v w : K.Value) (m n : ℕ) → Takes K text v m → Takes K text w n → (v ≡ w) × (m ≡ n)
  one_taking v w m n a b =
      let d = one_shown v w (drop m text) (drop n text) a.fits.shows b.fits.shows in
      let l : length (drop m text) ≡ length (drop n text) = ap length d.1 in
      (d.0, omega (arith, a.within, b.within, length-drop m text, length-drop n text))

-- from the judgement of the line to that of the text
module _ (K : Kind) (text line : List ℕ) where
  line_as : (rest : List ℕ) (v : K.Value) → FirstLine text line rest → line ≡ K.written v → FirstLine text (K.written v) rest
  line_as rest v f e = subst (λ z. FirstLine text z rest) e f

  pub taken : (v : K.Value) (used : ℕ) → FirstLine text line (drop (length line + 1) text) → TakesLine K line v → used ≡ length line + 1 → Takes K text v used
  taken v used f t e =
      let w : length line + 1 ≤ length text = omega (arith, ap length f.shows, length-append line (10 ∷ drop (length line + 1) text)) in
      subst (Takes K text v) (sym e)
      (record {
        fits = record { shows = record { line = line_as (drop (length line + 1) text) v f t.shows; formed = t.formed }; ranged = t.ranged };
        within = w;
      })

-- from what the readers of a kind's form and ranges answer to what a text is read as
module _ (K : Kind) {N T : Type 0} (Form : List ℕ → Option N → Type 0) (Range : N → Option T → Type 0) where
  refused_as : (text : List ℕ) (place : ℕ) (e : LineFault)
      → ((line : List ℕ) → Form line None → ShowsNone K line)
      → ((line : List ℕ) (n : N) → Form line (Some n) → Range n None → (v : K.Value) × (line ≡ K.written v) × K.Formed v × (K.Ranged v → ⊥))
      → Fails Form Range text place e → Refuses K text place e
  refused_as text place (fault.Torn at) none out h = h
  refused_as text place (fault.Form at) none out (p, j) = (p, (j.line, drop (length j.line + 1) text, j.first, none j.line j.says))
  refused_as text place (fault.Range at) none out (p, j) =
      let o = out j.line j.says.shown j.says.formed j.says.ranged in
      (p, (o.0, drop (length j.line + 1) text, record { line = line_as K text j.line (drop (length j.line + 1) text) o.0 j.first o.1; formed = o.2 }, o.3))

  -- the answer is what a value of the kind means
  pub read_meant : (meaning : K.Value → T) (text : List ℕ) (place : ℕ) (r : Result (Taken T) LineFault) → ReadsLine Form Range text place r
      → ((line : List ℕ) (n : N) (x : T) → Form line (Some n) → Range n (Some x) → (v : K.Value) × TakesLine K line v × (x ≡ meaning v))
      → ((line : List ℕ) → Form line None → ShowsNone K line)
      → ((line : List ℕ) (n : N) → Form line (Some n) → Range n None → (v : K.Value) × (line ≡ K.written v) × K.Formed v × (K.Ranged v → ⊥))
      → ReadsMeaning K meaning text place r
  read_meant meaning text place (Ok a) h some none out =
      let j = h.answer.0 in
      let t = some j.line j.says.shown a.value j.says.formed j.says.ranged in
      (t.0, taken K text j.line t.0 a.used j.first t.1 h.answer.1, t.2)
  read_meant meaning text place (Err e) h some none out = refused_as text place e none out h.answer

  -- the same where the value is a function of the answer
  pub read_as : (V : T → K.Value) (text : List ℕ) (place : ℕ) (r : Result (Taken T) LineFault) → ReadsLine Form Range text place r
      → ((line : List ℕ) (n : N) (x : T) → Form line (Some n) → Range n (Some x) → TakesLine K line (V x))
      → ((line : List ℕ) → Form line None → ShowsNone K line)
      → ((line : List ℕ) (n : N) → Form line (Some n) → Range n None → (v : K.Value) × (line ≡ K.written v) × K.Formed v × (K.Ranged v → ⊥))
      → ReadsValue K V text place r
  read_as V text place (Ok a) h some none out =
      let j = h.answer.0 in
      taken K text j.line (V a.value) a.used j.first (some j.line j.says.shown a.value j.says.formed j.says.ranged) h.answer.1
  read_as V text place (Err e) h some none out = refused_as text place e none out h.answer

taken_of : {T : Type 0} → T → ℕ → Taken T
taken_of v u = record { value = v; used = u }

pub same_taken : {T : Type 0} (a b : Taken T) → a.value ≡ b.value → a.used ≡ b.used → a ≡ b
unfolding taken_of
same_taken a b e f = let p : taken_of a.value a.used ≡ taken_of b.value b.used = cc in p
