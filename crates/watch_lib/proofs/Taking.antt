-- A trace line that is taken or refused. Assumes nothing.
use Rattle.std.proofs.Common.{◌≡◌, ℕ, ◌+◌, ◌-◌, ◌<◌, ◌≤◌, cond, List, [], ◌∷◌, ◌++◌, map, length, take, drop, Some, None, Ok, Err, Result, MatchResult, sym, refl, ap, ◌∙◌, subst, inr, arith, length-append, length-drop}
use Rattle.std.proofs.lemmas.List.{take_all}
use Rattle.std.proofs.lemmas.Bool.{eq-eqb}
use Rattle.logic.specs.declared.types.State.{State}
use Rattle.refusals.specs.declared.Refusal.{Refusal}
use Rattle.refusals.specs.declared.Refusal.TheVariants as refusal
use Rattle.refusals.specs.Numbers.{told}
use Rattle.fields.specs.Kinds.{Kind, Takes}
use Rattle.traces.specs.Meanings.{Passes, StateTaken}
use Rattle.traces.proofs.Unique.{passing}
use Rattle.expectations.specs.Expectations.{notices}
use Rattle.answers.specs.declared.types.Call.{Call}
use Rattle.answers.specs.declared.types.Call.TheVariants.{Append}
use Rattle.answers.specs.Answers.{Ground, refusal_of, refused_by, outcome}
use Rattle.answers.proofs.Refusing.{outcome_ok, outcome_err}
use Rattle.watch_lib.specs.declared.lines.Line.{Line}
use Rattle.watch_lib.specs.declared.lines.Line.TheVariants.{Told, Refused}
use Rattle.watch_lib.specs.Watched.{point_lines, closing_line, Reaches, none, more, NotTaken, Traced, Steps}

-- a line that is taken has a byte at least
pub uses : (K : Kind) (text : List ℕ) (v : K.Value) (used : ℕ) → Takes K text v used → (1 ≤ used) × (used ≤ length text)
uses K text v used t =
    let e = ap length t.fits.shows.line.shows ∙ length-append (K.written v) (10 ∷ drop used text) in
    (omega (arith, e, length-drop used text, t.within), t.within)

-- all that follows a place
pub rest_part : {A : Type 0} (text : List A) (at : ℕ) → take (length text - at) (drop at text) ≡ drop at text
rest_part text at = take_all (length text - at) (drop at text) (omega (arith, length-drop at text))

pub own_refusal : (own : ℕ) (G : Ground) (xs : List State) (call : Call) → own ≡ length xs → refused_by own G xs call ≡ refusal_of G xs call
own_refusal own G xs call e = ap (λ b. cond b (refusal_of G xs call) (Some refusal.ForeignRecord)) (eq-eqb own (length xs) e)

pub not_taken : {A : Type 0} (own count : ℕ) (G : Ground) (xs : List State) (text : List ℕ) (x : State) (used : ℕ) (v : A) (why : Refusal) (n : ℕ)
    → own ≡ length xs → count ≡ length xs → StateTaken text count x used → Err why ≡ outcome (refused_by own G xs (Append x)) v → n ≡ (told why).number
    → NotTaken G xs text n
not_taken own count G xs text x used v why n o e takes r number =
    inr (x, drop used text, why, passing text (length xs) x used (subst (λ c. StateTaken text c x used) e takes), sym (own_refusal own G xs (Append x) o) ∙ outcome_err (refused_by own G xs (Append x)) v why r, number)

-- a refusal that was made a line of output
pub refused_line : {A : Type 0} (r : Result A Refusal) (m : Result A Line) (line : Line) (place : ℕ) {Kept : A → Type 0} {Made : Refusal → Type 0}
    → MatchResult r Kept Made → m ≡ Err line → ((x : A) → Kept x → m ≡ Ok x) → ((e : Refusal) → Made e → line ≡ Refused (told e).number place)
    → (why : Refusal) × (r ≡ Err why) × (line ≡ Refused (told why).number place)
refused_line (Ok x) m line place made is keeps reads = let e : m ≡ Ok x = keeps x made in let z : ◌≡◌ {A = ℕ} 0 1 = cc in absurd (omega arith)
refused_line (Err why) m line place made is keeps reads = (why, refl, reads why made)

pub is_taken : {A : Type 0} (own count : ℕ) (G : Ground) (xs ys : List State) (text : List ℕ) (x : State) (used place : ℕ) (v w : A)
    → own ≡ length xs → count ≡ length xs → StateTaken text count x used → Ok w ≡ outcome (refused_by own G xs (Append x)) v → ys ≡ xs ++ x ∷ []
    → Steps G xs text place (Ok used) ys
is_taken own count G xs ys text x used place v w o e takes r grown =
    (x, subst (λ c. StateTaken text c x used) e takes, sym (own_refusal own G xs (Append x) o) ∙ (outcome_ok (refused_by own G xs (Append x)) v w r).0, grown)

pub longer : (xs ys : List State) (x : State) (n : ℕ) → n ≡ length xs → ys ≡ xs ++ x ∷ [] → length ys ≡ n + 1
longer xs ys x n e grown = ap length grown ∙ length-append xs (x ∷ []) ∙ ap (λ m. m + 1) (sym e)

pub begun : (G : Ground) (text : List ℕ) (xs : List State) (lines : List Line) → xs ≡ [] → lines ≡ [] → Reaches G text xs text lines
begun G text xs lines e f = subst (λ zs. Reaches G text zs text lines) (sym e) (subst (λ ls. Reaches G text [] text ls) (sym f) none)

pub finished : (G H : Ground) (start rest : List ℕ) (xs : List State) (before lines : List Line) (place : ℕ) (last : Line)
    → H ≡ G → Reaches G start xs rest before → length rest ≡ 0 → last ≡ closing_line H xs → lines ≡ before ++ last ∷ [] → Traced G start place lines
finished G H start rest xs before lines place last h reaches none_left e all =
    record { states = xs; rest = rest; before = before; last = closing_line G xs; reaches = reaches; closes = (none_left, refl); all = all ∙ ap (λ l. before ++ l ∷ []) (e ∙ ap (λ (g : Ground). closing_line g xs) h) }

pub broken : (G H : Ground) (start rest : List ℕ) (xs ys : List State) (before lines : List Line) (place number : ℕ) (line : Line)
    → H ≡ G → Reaches G start xs rest before → 0 < length rest → Steps H xs rest number (Err line) ys → number ≡ place + length xs → lines ≡ before ++ line ∷ [] → Traced G start place lines
broken G H start rest xs ys before lines place number line h reaches some (n, why, is, kept) e all =
    record { states = xs; rest = rest; before = before; last = Refused n number; reaches = reaches; closes = (some, e, subst (λ (g : Ground). NotTaken g xs rest n) h why); all = all ∙ ap (λ l. before ++ l ∷ []) is }

-- one state more
pub stepped : (G H J : Ground) (start text rest : List ℕ) (xs ys : List State) (lines new : List Line) (used place point : ℕ)
    → H ≡ G → J ≡ G → Reaches G start xs text lines → Steps H xs text place (Ok used) ys → point ≡ length ys
    → new ≡ lines ++ map (Told point) (notices (J.labelled ys) J.rules point) → rest ≡ drop used text → Reaches G start ys rest new
stepped G H J start text rest xs ys lines new used place point h j reaches (x, takes, fit, grown) p told left =
    let next : Reaches G start (xs ++ x ∷ []) rest (lines ++ point_lines G (xs ++ x ∷ [])) =
    more reaches (subst (Passes (length xs) x text) (sym left) (passing text (length xs) x used takes)) (subst (λ (g : Ground). refusal_of g xs (Append x) ≡ None) h fit) in
    let same : new ≡ lines ++ point_lines G ys =
    told ∙ ap (λ (g : Ground). lines ++ map (Told point) (notices (g.labelled ys) g.rules point)) j
    ∙ ap (λ c. lines ++ map (Told c) (notices (G.labelled ys) G.rules c)) p in
    subst (λ ls. Reaches G start ys rest ls) (sym same) (subst (λ zs. Reaches G start zs rest (lines ++ point_lines G zs)) (sym grown) next)
