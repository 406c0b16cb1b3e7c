use Rattle.std.proofs.Common.{◌≡◌, ℕ, List, [], ◌∷◌, codes, decimal, refl, ◌∙◌}
use Rattle.std.specs.List.{AllByRecursion as All}
use Rattle.fields.specs.Fields.{Solid}
use Rattle.fields.proofs.Parted.{solid_decimal, same_small}
use Rattle.fields.proofs.Shown.{Led, Broken, broken, shown_unique}
use Rattle.fields.specs.Kinds.{ShowsNone}
use Rattle.traces.specs.declared.numbers.Numbers.{Numbers}
use Rattle.traces.specs.Traces.{trace_kind, trace_line, Formed}

abbrev pub keys : List (List ℕ)
keys = codes "s=" ∷ codes " signals=" ∷ codes " mark=" ∷ codes " ka=" ∷ codes " ta=" ∷ codes " kb=" ∷ codes " tb=" ∷ []

abbrev pub texts : Numbers → List (List ℕ)
texts v =
    decimal v.state ∷ decimal v.signals ∷ decimal v.nominal ∷ decimal v.first_kind ∷ decimal v.first_target ∷
    decimal v.second_kind ∷ decimal v.second_target ∷ []

keys_led : Led keys
keys_led = (refl, (refl, (refl, (refl, (refl, (refl, tt))))))

solids : (v : Numbers) → Formed v → All Solid (texts v)
solids v f = (
  solid_decimal _ f.state,
  (
    solid_decimal _ f.signals,
    (
      solid_decimal _ f.nominal,
      (
        solid_decimal _ f.first_kind,
        (solid_decimal _ f.first_target, (solid_decimal _ f.second_kind, (solid_decimal _ f.second_target, tt))),
      ),
    ),
  ),
)

-- a line that breaks off, whatever numbers it is held against, is no trace line
pub breaks : (before line : List ℕ) → before ≡ line → ((v : Numbers) → Formed v → Broken before keys (texts v)) → ShowsNone (trace_kind 0) line
breaks before line same b v f e = broken (b v f) keys_led (solids v f) (same ∙ e)

numbers : ℕ → ℕ → ℕ → ℕ → ℕ → ℕ → ℕ → Numbers
numbers i s m ka ta kb tb =
    record { state = i; signals = s; nominal = m; first_kind = ka; first_target = ta; second_kind = kb; second_target = tb }

pub same_numbers : (v w : Numbers) → v.state ≡ w.state → v.signals ≡ w.signals → v.nominal ≡ w.nominal → v.first_kind ≡ w.first_kind → v.first_target ≡ w.first_target → v.second_kind ≡ w.second_kind → v.second_target ≡ w.second_target → v ≡ w
unfolding numbers
same_numbers v w e0 e1 e2 e3 e4 e5 e6 =
    let p : numbers v.state v.signals v.nominal v.first_kind v.first_target v.second_kind v.second_target
    ≡ numbers w.state w.signals w.nominal w.first_kind w.first_target w.second_kind w.second_target = cc in p

-- a trace line shows its numbers and no others
pub one_shown : (v w : Numbers) → Formed v → Formed w → trace_line v ≡ trace_line w → v ≡ w
one_shown v w f g e =
    let t : texts v ≡ texts w = shown_unique keys (texts v) (texts w) refl refl keys_led (solids v f) (solids w g) e in
    let e0 : v.state ≡ w.state = same_small _ _ f.state g.state (cc) in
    let e1 : v.signals ≡ w.signals = same_small _ _ f.signals g.signals (cc) in
    let e2 : v.nominal ≡ w.nominal = same_small _ _ f.nominal g.nominal (cc) in
    let e3 : v.first_kind ≡ w.first_kind = same_small _ _ f.first_kind g.first_kind (cc) in
    let e4 : v.first_target ≡ w.first_target = same_small _ _ f.first_target g.first_target (cc) in
    let e5 : v.second_kind ≡ w.second_kind = same_small _ _ f.second_kind g.second_kind (cc) in
    let e6 : v.second_target ≡ w.second_target = same_small _ _ f.second_target g.second_target (cc) in
    same_numbers v w e0 e1 e2 e3 e4 e5 e6
