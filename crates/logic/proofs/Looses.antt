-- A formula that is not loose does not depend on the variable. Assumes nothing.
use Rattle.std.proofs.Common.{◌≡◌, suc, ◌-◌, Bool, true, false, not, ◌||◌, refl}
use mathlib.Core.Logic.{⊎_map}
use Rattle.std.proofs.lemmas.Bool.{true≢false}
use Rattle.logic.specs.Logic.{true', signal, nominal, not', and', or', next, previous, until, since, at', variable, reference, bind, some', Reads, is_loose}
use Rattle.logic.specs.Laws.{BindingIsFree}
use Rattle.logic.proofs.Keeps.{kept_map, at_nominal_map}

pub neither : (a b : Bool) → (a || b) ≡ false → (a ≡ false) × (b ≡ false)
neither true b h = absurd (true≢false h)
neither false b h = (refl, h)

pub binding_free : BindingIsFree
binding_free s c v w i e true' h x = x
binding_free s c v w i e (signal b) h x = x
binding_free s c v w i e (nominal a) h x = x
binding_free s c v w i e (not' f) h x = kept_map e c i (λ n y. n (binding_free s c w v i (not e) f h y)) x
binding_free s c v w i e (and' f g) h x =
    let p = neither (is_loose f) (is_loose g) h in
    kept_map e c i (λ y. (binding_free s c v w i e f p.0 y.0, binding_free s c v w i e g p.1 y.1)) x
binding_free s c v w i e (or' f g) h x =
    let p = neither (is_loose f) (is_loose g) h in
    kept_map e c i (⊎_map (binding_free s c v w i e f p.0) (binding_free s c v w i e g p.1)) x
binding_free s c v w i e (next f) h x = kept_map e c i (binding_free s c v w (suc i) e f h) x
binding_free s c v w i e (previous f) h x = kept_map e c i (λ y. (y.0, binding_free s c v w (i - 1) e f h y.1)) x
binding_free s c v w i e (until f g) h x =
    let p = neither (is_loose f) (is_loose g) h in
    kept_map e c i (λ y. (y.0, y.1, y.2, binding_free s c v w y.0 e g p.1 y.3, (λ j m n. binding_free s c v w j e f p.0 (y.4 j m n)))) x
binding_free s c v w i e (since f g) h x =
    let p = neither (is_loose f) (is_loose g) h in
    kept_map e c i (λ y. (y.0, y.1, y.2, binding_free s c v w y.0 e g p.1 y.3, (λ j m n. binding_free s c v w j e f p.0 (y.4 j m n)))) x
binding_free s c v w i e (at' a f) h x = kept_map e c i (at_nominal_map e s c a (λ t. Reads e s c v t f) (λ t. Reads e s c w t f) (λ t. binding_free s c v w t e f h)) x
binding_free s c v w i e variable h x = absurd (true≢false h)
binding_free s c v w i e (reference a) h x = absurd (true≢false h)
binding_free s c v w i e (bind f) h x = x
binding_free s c v w i e (some' a f) h x = x
