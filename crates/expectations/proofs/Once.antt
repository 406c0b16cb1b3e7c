-- What happens at a point stands once among its notices, and at no other point.
use Rattle.std.proofs.Common.{◌≡◌, ℕ, ◌+◌, ◌<◌, List, Some, sym, subst, ◌∙◌, ⊎_elim, arith}
use Rattle.std.specs.List.{slice_get}
use Rattle.std.proofs.lemmas.Bool.{cases_order}
use Rattle.logic.specs.declared.types.Rule.{Rule}
use Rattle.expectations.specs.declared.types.Label.{Label}
use Rattle.expectations.specs.declared.types.Label.TheVariants.{TrueFrom, FalseFrom}
use Rattle.expectations.specs.declared.types.Event.{Event}
use Rattle.expectations.specs.declared.types.Event.TheVariants.{Raising, Fulfilling, Violating}
use Rattle.expectations.specs.declared.types.Notice.{Notice}
use Rattle.expectations.specs.Expectations.{Labels, notices}
use Rattle.expectations.specs.Laws.{DatedAt, Before, HappensOnce, HasOneDate}
use Rattle.expectations.specs.Counted.{ToldHappens, ToldAtOnePoint}
use Rattle.expectations.proofs.Told.{told_happens, happens_told}
use Rattle.expectations.proofs.Order.{notices_in_order}

not_before_itself : (x : Notice) → Before x x → ⊥
not_before_itself x h = ⊎_elim (λ a. omega arith) (λ p. ⊎_elim (λ a. omega arith) (λ q. q.2 q.1) p.1) h

one_place : (labels : Labels) (rules : List Rule) (c j k : ℕ) (x : Notice) →
    slice_get (notices labels rules c) j ≡ Some x → slice_get (notices labels rules c) k ≡ Some x → j ≡ k
one_place labels rules c j k x e f =
    ⊎_elim (λ (a : j ≡ k). a)
    (λ d. absurd (⊎_elim
    (λ (a : j < k). not_before_itself x (notices_in_order labels rules c j k x x a e f))
    (λ (a : k < j). not_before_itself x (notices_in_order labels rules c k j x x a f e)) d))
    (cases_order j k)

pub happens_once : HappensOnce
happens_once n labels rules o x c l = (
  (λ h. let p = happens_told labels c n rules x o h in (p.0, p.1, λ j e. one_place labels rules c j p.0 x e p.1)),
  (λ no k e. no (told_happens labels c n rules x k l e)),
)

one_date : (e : Event) (z : Label) (s c d : ℕ) → DatedAt e z s c → DatedAt e z s d → c ≡ d
one_date Raising z s c d h k = omega arith
one_date Fulfilling z s c d h k = let e : TrueFrom c ≡ TrueFrom d = sym h ∙ k in cc
one_date Violating z s c d h k = let e : FalseFrom c ≡ FalseFrom d = sym h ∙ k in cc

pub has_one_date_lem : HasOneDate
has_one_date_lem n labels rules x c d h k = one_date x.event _ x.from c d h.4 k.4

pub told_happens_lem : ToldHappens
told_happens_lem n labels rules x c k l e = told_happens labels c n rules x k l e

pub told_at_one_point_lem : ToldAtOnePoint
told_at_one_point_lem labels rules x c d j k e f =
    let point : c ≡ d = has_one_date_lem (c + d) labels rules x c d
    (told_happens labels c (c + d) rules x j (omega arith) e) (told_happens labels d (c + d) rules x k (omega arith) f) in
    (point, one_place labels rules d j k x (subst (λ i. slice_get (notices labels rules i) j ≡ Some x) point e) f)
