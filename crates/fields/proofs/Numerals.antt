use Rattle.std.proofs.Common.{◌≡◌, ℕ, zero, suc, ◌+◌, ◌-◌, ◌*◌, ◌^◌, ◌<◌, ◌≤◌, List, length, get_or, take, decimal, sym, ap, ◌∙◌, subst, arith}
use Rattle.std.specs.Str.Parse.{digits_value, AllDigits}
use Rattle.std.specs.Char.{digit_value}
use Rattle.std.specs.Int.{IsInRange}
use Rattle.std.proofs.lemmas.Int.Digits.{digits_value_more, digits_more}
use Rattle.std.proofs.lemmas.Str.{digit_value_digit}
use Rattle.std.proofs.lemmas.List.{length-take-le, take_all}
use Rattle.std.proofs.lemmas.Str.Parse.{IsNumeralModel, numerals_by_value, tells_digits, digits_value_short, digit_at}
use Rattle.std.proofs.lemmas.Fmt.{decimal-digits_value, digits_decimal, decimal_nonempty, length-decimal-le, first_decimal, decimal_digit}
use Rattle.fields.specs.Lines.{Number}

pub own : IsNumeralModel (AllDigits 10) (digits_value 10)
own = numerals_by_value (AllDigits 10) tells_digits

-- what a number's text is made of
pub record Form (t : List ℕ) : Type 0 where
  pub digits : AllDigits 10 t
  pub some : 0 < length t
  pub few : length t ≤ 10
  pub lead : get_or t 0 0 ≡ 48 → length t ≡ 1

small : (n : ℕ) → n < 10 ^ 10 → n < 2 ^ 64
small n h = omega arith

lead_decimal : (n : ℕ) → n < 10 ^ 10 → get_or (decimal n) 0 0 ≡ 48 → length (decimal n) ≡ 1
lead_decimal zero h e = ap length (decimal_digit 0 (omega arith))
lead_decimal (suc n) h e = let f : 48 < get_or (decimal (suc n)) 0 0 = first_decimal (suc n) (omega arith) (omega arith) in absurd (omega arith)

form_decimal : (n : ℕ) → n < 10 ^ 10 → Form (decimal n)
form_decimal n h = record {
  digits = digits_decimal own n (small n h);
  some = decimal_nonempty n (small n h);
  few = length-decimal-le 10 n (omega arith) h (small n h);
  lead = lead_decimal n h;
}

pub number_form : (t : List ℕ) (n : ℕ) → Number t n → Form t
number_form t n h = subst Form (sym h.1) (form_decimal n h.0)

pub value_small : (t : List ℕ) → AllDigits 10 t → length t ≤ 10 → digits_value 10 t < 10 ^ 10
value_small t d l = digits_value_short own t 10 d l

pub form_number : (t : List ℕ) → Form t → Number t (digits_value 10 t)
form_number t f =
    let v : digits_value 10 t < 10 ^ 10 = value_small t f.digits f.few in
    (v, sym (decimal-digits_value own t f.digits f.some f.lead (small (digits_value 10 t) v)))

-- the loop: what is read so far, and one digit more
module _ (t : List ℕ) (i n : ℕ) (l : length t ≤ 10) (h : i < length t) (d : AllDigits 10 (take i t)) (e : n ≡ digits_value 10 (take i t)) where
  pub so_far : n < 10 ^ 10
  so_far =
      let k : length (take i t) ≡ i = length-take-le i t (omega arith) in
      let v : digits_value 10 (take i t) < 10 ^ 10 = value_small (take i t) d (omega arith) in
      omega arith

  pub digit_step : 48 ≤ get_or t i 0 → get_or t i 0 ≤ 57 → AllDigits 10 (take (i + 1) t) × (n * 10 + (get_or t i 0 - 48) ≡ digits_value 10 (take (i + 1) t))
  digit_step a b =
      let v : digit_value (get_or t i 0) + 48 ≡ get_or t i 0 = digit_value_digit (get_or t i 0) (a, b) in
      let m : digits_value 10 (take (i + 1) t) ≡ digits_value 10 (take i t) * 10 + digit_value (get_or t i 0) = digits_value_more 10 t i h in
      (digits_more 10 t i h d (omega arith), omega arith)

pub no_digit : (t : List ℕ) (i n : ℕ) → i < length t → Number t n → IsInRange 48 57 (get_or t i 0)
no_digit t i n h f = digit_at t i (number_form t n f).digits h

pub ended : (t : List ℕ) (i n : ℕ) → length t ≤ i → AllDigits 10 (take i t) → n ≡ digits_value 10 (take i t) → 0 < length t → length t ≤ 10 → (get_or t 0 0 ≡ 48 → length t ≡ 1) → Number t n
ended t i n h d e s l z =
    let a : take i t ≡ t = take_all i t h in
    let d' : AllDigits 10 t = subst (AllDigits 10) a d in
    let f : Number t (digits_value 10 t) = form_number t (record { digits = d'; some = s; few = l; lead = z }) in
    subst (Number t) (sym (e ∙ ap (digits_value 10) a)) f
