-- What follows from the public clauses of a monitor: of one append, and of the appends of a list.
use Rattle.std.proofs.Common.{◌≡◌, ℕ, zero, suc, ◌+◌, ◌<◌, ◌≤◌, cond, List, [], ◌∷◌, ◌++◌, length, get_or, take, drop, map, Some, None, Ok, Err, Option, Result, sym, refl, ap, ◌∙◌, subst, arith, length-append, ◌≢◌}
use Rattle.std.proofs.lemmas.Bool.{lt-leb, eq-eqb}
use Rattle.std.proofs.lemmas.List.{take-append-drop, take-take, map-append}
use Rattle.logic.specs.declared.types.State.{State}
use Rattle.logic.specs.Tables.{no_rule}
use Rattle.refusals.specs.declared.Refusal.{Refusal}
use Rattle.expectations.specs.declared.types.Tally.{Tally}
use Rattle.expectations.specs.declared.types.Standing.{Standing}
use Rattle.expectations.specs.declared.types.Standing.TheVariants.{Pending}
use Rattle.expectations.specs.Expectations.{tallied}
use Rattle.answers.specs.declared.types.Answer.{Answer}
use Rattle.answers.specs.declared.types.Answer.TheVariants.{Stands}
use Rattle.answers.specs.declared.types.Call.{Call}
use Rattle.answers.specs.declared.types.Call.TheVariants.{Append, LabelAt, StandingAt, TallyOf, NoticeOf}
use Rattle.answers.specs.Answers.{Ground, outcome, refusal_of, told, grown_by, after, accepted, grown_to}
use Rattle.answers.specs.Law.{Takes, TallyIs, Judged, with_one_more}
use Rattle.answers.specs.Lasting.{Lasts}
use Rattle.customer.specs.Following.{taken_in, told_of}

-- ── One append ──
unrefused : {A : Type 0} (o : Option Refusal) (v w : A) → ◌≡◌ {A = Result A Refusal} (outcome o v) (Ok w) → o ≡ None
unrefused None v w e = refl
unrefused {A} (Some r) v w e = let p : ◌≡◌ {A = Result A Refusal} (Err r) (Ok w) = e in cc

pub takes_it : (G : Ground) (xs : List State) (x : State) (a : Answer) → told G xs (Append x) ≡ Ok a → Takes G xs x
takes_it G xs x a e = unrefused (refusal_of G xs (Append x)) _ a e

pub one_more : (G : Ground) (xs : List State) (x : State) → Takes G xs x → after G xs (Append x) ≡ with_one_more xs x
one_more G xs x t = ap (λ o. grown_by o xs x) t

pub own_after : (own : ℕ) (G : Ground) (xs : List State) (call : Call) → own ≡ length xs → grown_to own G xs call ≡ after G xs call
own_after own G xs call e = ap (λ b. cond b (after G xs call) xs) (eq-eqb own (length xs) e)

-- ── Tallies ──
abbrev pub tally : Ground → List State → (r : ℕ) → Tally
tally G xs r = tallied (G.labelled xs) (get_or G.rules r no_rule) (length xs) (length xs)

tally_told : (G : Ground) (xs : List State) (r : ℕ) → r < length G.rules → TallyIs G xs r (tally G xs r)
tally_told G xs r h = rw (lt-leb (length G.rules) r h) refl

pub stays_violated : (G : Ground) (xs ys : List State) (x : State) (r : ℕ) (a : Answer) → Judged G xs → r < length G.rules →
    told G xs (Append x) ≡ Ok a → ys ≡ after G xs (Append x) → 0 < (tally G xs r).violated → 0 < (tally G ys r).violated
stays_violated G xs ys x r a law h e is some =
    let t = takes_it G xs x a e in
    let fewer = law.tallies_grow x t r (tally G xs r) (tally G (with_one_more xs x) r) (tally_told G xs r h) (tally_told G (with_one_more xs x) r h) in
    subst (λ zs. 0 < (tally G zs r).violated) (sym (is ∙ one_more G xs x t)) (omega (arith, some, fewer.2))

-- ── Lists of calls ──
grown_longer : (o : Option Refusal) (xs : List State) (x : State) → length xs ≤ length (grown_by o xs x)
grown_longer (Some r) xs x = omega arith
grown_longer None xs x = omega (arith, length-append xs (x ∷ []))

longer : (G : Ground) (xs : List State) (call : Call) → length xs ≤ length (after G xs call)
longer G xs (Append x) = grown_longer (refusal_of G xs (Append x)) xs x
longer G xs (LabelAt f i c) = omega arith
longer G xs (StandingAt r i c) = omega arith
longer G xs (TallyOf r) = omega arith
longer G xs (NoticeOf c k) = omega arith

pub never_fewer : (G : Ground) (xs : List State) (cs : List Call) → length xs ≤ length (accepted G xs cs)
never_fewer G xs [] = omega arith
never_fewer G xs (c ∷ cs) = omega (arith, longer G xs c, never_fewer G (after G xs c) cs)

in_two : (G : Ground) (xs : List State) (cs ds : List Call) → accepted G xs (cs ++ ds) ≡ accepted G (accepted G xs cs) ds
in_two G xs [] ds = refl
in_two G xs (c ∷ cs) ds = in_two G (after G xs c) cs ds

pub taken_more : (G : Ground) (ys xs : List State) (k : ℕ) (d : State) → k < length xs → taken_in G ys (take (k + 1) xs) ≡ after G (taken_in G ys (take k xs)) (Append (get_or xs k d))
taken_more G ys [] k d h = absurd (omega arith)
taken_more G ys (x ∷ xs) zero d h = refl
taken_more G ys (x ∷ xs) (suc k) d h =
    let e : suc k + 1 ≡ suc (k + 1) = omega arith in
    ap (λ n. taken_in G ys (take n (x ∷ xs))) e ∙ taken_more G (after G ys (Append x)) xs k d (omega arith)

-- the states that the first b leave, from those that the first a leave
taken_on : (G : Ground) (ys xs : List State) (a b : ℕ) → a ≤ b → taken_in G ys (take b xs) ≡ taken_in G (taken_in G ys (take a xs)) (drop a (take b xs))
taken_on G ys xs a b le =
    ap (taken_in G ys) (sym (take-append-drop a (take b xs)) ∙ ap (λ zs. zs ++ drop a (take b xs)) (take-take a b xs le))
    ∙ ap (accepted G ys) (map-append Append (take a xs) (drop a (take b xs)))
    ∙ in_two G ys (map Append (take a xs)) (map Append (drop a (take b xs)))

-- ── What lasts ──
pub lasts_on : (G : Ground) (ys xs : List State) (r s a b : ℕ) (w : Standing) → a ≤ b → (w ≢ Pending) → Lasts G (taken_in G ys (take a xs)) →
    told_of G (taken_in G ys (take a xs)) r s ≡ Ok (Stands w) → told_of G (taken_in G ys (take b xs)) r s ≡ Ok (Stands w)
lasts_on G ys xs r s a b w le decided law e =
    let zs = taken_in G ys (take a xs) in
    let cs = map Append (drop a (take b xs)) in
    subst (λ ws. told_of G ws r s ≡ Ok (Stands w)) (sym (taken_on G ys xs a b le))
    (law.standings cs r s (length zs) (length (accepted G zs cs)) w e decided (never_fewer G zs cs) (omega arith))
