use Rattle.std.proofs.Common.{◌≡◌, ℕ, List, [], ◌∷◌, ◌++◌, codes, decimal, refl, ap, ◌∙◌, arith, eq-eqb, ne_eqb}
use Rattle.std.specs.Str.Parse.{digits_value}
use Rattle.std.proofs.lemmas.Fmt.{digits_value-decimal}
use Rattle.fields.specs.Lines.{Small, field}
use Rattle.fields.specs.Fields.{Stop, Solid}
use Rattle.fields.proofs.Parted.{solid_decimal}
use Rattle.fields.proofs.Numerals.{own}
use Rattle.traces.specs.declared.numbers.Numbers.{Numbers}
use Rattle.traces.specs.Traces.{trace_line, Formed}
use Rattle.traces.proofs.Showing.{same_numbers}
use Rattle.textrecord.specs.Listed.{before, past, number_in, next_in, numbers_in}

before_solid : (t r : List ℕ) → Solid t → Stop r → before 32 (t ++ r) ≡ t
before_solid [] [] s x = refl
before_solid [] (b ∷ bs) s x = rw (eq-eqb b 32 x)
before_solid (a ∷ t) r s x = rw (ne_eqb a 32 s.0) (ap (λ z. a ∷ z) (before_solid t r s.1 x))

past_solid : (t u : List ℕ) → Solid t → past 32 (t ++ (32 ∷ u)) ≡ u
past_solid [] u s = refl
past_solid (a ∷ t) u s = rw (ne_eqb a 32 s.0) (past_solid t u s.1)

read_number : (n : ℕ) (r : List ℕ) → Small n → Stop r → digits_value 10 (before 32 (decimal n ++ r)) ≡ n
read_number n r h x = ap (digits_value 10) (before_solid (decimal n) r (solid_decimal n h) x) ∙ digits_value-decimal own n (omega arith)

read_next : (n : ℕ) (u : List ℕ) → Small n → past 32 (decimal n ++ (32 ∷ u)) ≡ u
read_next n u h = past_solid (decimal n) u (solid_decimal n h)

-- the fields from one on
abbrev from_tb : Numbers → List ℕ
from_tb v = field (codes "tb=") v.second_target []

abbrev from_kb : Numbers → List ℕ
from_kb v = field (codes "kb=") v.second_kind (32 ∷ from_tb v)

abbrev from_ta : Numbers → List ℕ
from_ta v = field (codes "ta=") v.first_target (32 ∷ from_kb v)

abbrev from_ka : Numbers → List ℕ
from_ka v = field (codes "ka=") v.first_kind (32 ∷ from_ta v)

abbrev from_mark : Numbers → List ℕ
from_mark v = field (codes "mark=") v.nominal (32 ∷ from_ka v)

abbrev from_signals : Numbers → List ℕ
from_signals v = field (codes "signals=") v.signals (32 ∷ from_mark v)

module _ (v : Numbers) (f : Formed v) where
  at_signals : next_in (trace_line v) ≡ from_signals v
  at_signals = read_next v.state (from_signals v) f.state

  at_mark : next_in (next_in (trace_line v)) ≡ from_mark v
  at_mark = ap next_in at_signals ∙ read_next v.signals (from_mark v) f.signals

  at_ka : next_in (next_in (next_in (trace_line v))) ≡ from_ka v
  at_ka = ap next_in at_mark ∙ read_next v.nominal (from_ka v) f.nominal

  at_ta : next_in (next_in (next_in (next_in (trace_line v)))) ≡ from_ta v
  at_ta = ap next_in at_ka ∙ read_next v.first_kind (from_ta v) f.first_kind

  at_kb : next_in (next_in (next_in (next_in (next_in (trace_line v))))) ≡ from_kb v
  at_kb = ap next_in at_ta ∙ read_next v.first_target (from_kb v) f.first_target

  at_tb : next_in (next_in (next_in (next_in (next_in (next_in (trace_line v)))))) ≡ from_tb v
  at_tb = ap next_in at_kb ∙ read_next v.second_kind (from_tb v) f.second_kind

  -- the numbers that a trace line shows are read from it
  pub extracted : numbers_in (trace_line v) ≡ v
  unfolding numbers_in
  extracted = same_numbers (numbers_in (trace_line v)) v
      (read_number v.state (32 ∷ from_signals v) f.state refl)
      (ap number_in at_signals ∙ read_number v.signals (32 ∷ from_mark v) f.signals refl)
      (ap number_in at_mark ∙ read_number v.nominal (32 ∷ from_ka v) f.nominal refl)
      (ap number_in at_ka ∙ read_number v.first_kind (32 ∷ from_ta v) f.first_kind refl)
      (ap number_in at_ta ∙ read_number v.first_target (32 ∷ from_kb v) f.first_target refl)
      (ap number_in at_kb ∙ read_number v.second_kind (32 ∷ from_tb v) f.second_kind refl)
      (ap number_in at_tb ∙ read_number v.second_target [] f.second_target tt)
