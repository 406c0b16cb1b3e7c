-- Readings before and past the truncation point. Assumes nothing.
use Rattle.std.proofs.Common.{ℕ, ◌<◌, ◌≤◌, Bool, true, false, Decides, refl, inl, inr, ⊎_elim, arith}
use Rattle.std.proofs.lemmas.Bool.{false≢true}
use Rattle.logic.specs.States.{Trace}
use Rattle.logic.specs.Logic.{Tree, true', signal, nominal, not', and', or', next, previous, until, since, at', variable, reference, bind, some', Kept, AtNominal, Reads}

pub kept_map : (e : Bool) (c i : ℕ) {X Y : Type 0} → (X → Y) → Kept e c i X → Kept e c i Y
kept_map true c i f h = λ w. f (h w)
kept_map false c i f h = (h.0, f h.1)

-- up to the truncation point a kept statement is the statement
pub kept_out : (e : Bool) (c i : ℕ) {X : Type 0} → i ≤ c → Kept e c i X → X
kept_out true c i w h = h w
kept_out false c i w h = h.1

pub kept_in : (e : Bool) (c i : ℕ) {X : Type 0} → i ≤ c → X → Kept e c i X
kept_in true c i w x = λ _. x
kept_in false c i w x = (w, x)

-- past the truncation point it is decided by the kind of reading
pub kept_past : (e : Bool) (c i : ℕ) (X : Type 0) → c < i → Decides e (Kept e c i X)
kept_past true c i X w = ((λ t h. absurd (omega arith)), (λ h. refl))
kept_past false c i X w = ((λ t. absurd (false≢true t)), (λ h. absurd (omega (arith, h.0))))

pub past : (e : Bool) (s : Trace) (c v i : ℕ) (f : Tree) → c < i → Decides e (Reads e s c v i f)
past e s c v i true' w = kept_past e c i _ w
past e s c v i (signal b) w = kept_past e c i _ w
past e s c v i (nominal a) w = kept_past e c i _ w
past e s c v i (not' f) w = kept_past e c i _ w
past e s c v i (and' f g) w = kept_past e c i _ w
past e s c v i (or' f g) w = kept_past e c i _ w
past e s c v i (next f) w = kept_past e c i _ w
past e s c v i (previous f) w = kept_past e c i _ w
past e s c v i (until f g) w = kept_past e c i _ w
past e s c v i (since f g) w = kept_past e c i _ w
past e s c v i (at' a f) w = kept_past e c i _ w
past e s c v i variable w = kept_past e c i _ w
past e s c v i (reference a) w = kept_past e c i _ w
past e s c v i (bind f) w = kept_past e c i _ w
past e s c v i (some' a f) w = kept_past e c i _ w

pub at_nominal_map : (e : Bool) (s : Trace) (c a : ℕ) (X Y : ℕ → Type 0) → ((t : ℕ) → X t → Y t) → AtNominal e s c a X → AtNominal e s c a Y
at_nominal_map true s c a X Y m h = ⊎_elim inl (λ u. inr (u.0, u.1, u.2, u.3, m u.0 u.4)) h
at_nominal_map false s c a X Y m u = (u.0, u.1, u.2, u.3, m u.0 u.4)
