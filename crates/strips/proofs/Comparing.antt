-- The dates of labels of different reach.
use Rattle.std.proofs.Common.{◌≡◌, ℕ, ◌<◌, ◌≤◌, false, sym, ◌∙◌, ⊎_elim, arith}
use Rattle.std.proofs.lemmas.Bool.{both_ways, cases_lt}
use Rattle.labels.specs.Readings.{Reading, Same, DateOf}
use Rattle.labels.proofs.Dates.{date_only}
use Rattle.strips.specs.Masks.{TrueBy}

-- the date of f up to n is that of g up to m, where g is the same as f, and f does not become true after m
pub date_carried : (m n : ℕ) (f g : Reading) (d : ℕ) → 0 < m → m ≤ n → Same m f g → TrueBy m n f → DateOf n f d → DateOf m g d
date_carried m n f g d lo hi same by p =
    let in-m : d ≤ m =
    ⊎_elim
    (λ h. absurd (both_ways (f false m) (p.first m lo h) (by d (omega arith) p.within (p.holds (omega arith)))))
    (λ h. h)
    (cases_lt m d)
    in
    record {
      within = in-m;
      holds = λ z. sym (same false d z in-m) ∙ p.holds z;
      first = λ c z h. sym (same false c z (omega arith)) ∙ p.first c z h;
      never = λ z c k h. sym (same false c k h) ∙ p.never z c k (omega arith);
    }

pub dates_agree : (f g : Reading) (d e : ℕ) → DateOf 256 f d → DateOf 64 g e → Same 64 f g → TrueBy 64 256 f → d ≡ e
dates_agree f g d e p q same by = date_only 64 g d e (date_carried 64 256 f g d (omega arith) (omega arith) same by p) q
