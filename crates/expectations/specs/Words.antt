-- What the answers are called, in the product's words, with their dates.
use Rattle.std.specs.Prelude.{ℕ, List, ◌++◌, codes, decimal}
use Rattle.expectations.specs.declared.types.Verdict.{Verdict}
use Rattle.expectations.specs.declared.types.Verdict.TheVariants as is
use Rattle.expectations.specs.declared.types.Standing.{Standing}
use Rattle.expectations.specs.declared.types.Standing.TheVariants.{NotRaised, Pending, Fulfilled, Violated}
use Rattle.expectations.specs.declared.types.Notice.{Notice}
use Rattle.expectations.specs.declared.types.Tally.{Tally}
use Rattle.expectations.specs.declared.types.Event.{Event}
use Rattle.expectations.specs.declared.types.Event.TheVariants.{Raising, Fulfilling, Violating}

-- an answer: its number among the answers of its kind, its word, and the date that it gives, or 0
pub record Told : Type 0 where
  pub number : ℕ
  pub word : List ℕ
  pub date : ℕ

abbrev pub of_verdict : Verdict → Told
of_verdict is.True = record { number = 0; word = codes "true"; date = 0 }
of_verdict is.False = record { number = 1; word = codes "false"; date = 0 }
of_verdict is.Unknown = record { number = 2; word = codes "open"; date = 0 }

abbrev pub of_standing : Standing → Told
of_standing NotRaised = record { number = 0; word = codes "not raised"; date = 0 }
of_standing Pending = record { number = 1; word = codes "open"; date = 0 }
of_standing (Fulfilled d) = record { number = 2; word = codes "fulfilled"; date = d }
of_standing (Violated d) = record { number = 3; word = codes "violated"; date = d }

abbrev pub of_event : Event → Told
of_event Raising = record { number = 0; word = codes "raised"; date = 0 }
of_event Fulfilling = record { number = 1; word = codes "fulfilled"; date = 0 }
of_event Violating = record { number = 2; word = codes "violated"; date = 0 }

-- the bytes of a notice, and those of a tally
abbrev pub notice_text : Notice → List ℕ
notice_text x = codes "r=" ++ (decimal x.rule ++ (codes " from=" ++ (decimal x.from ++ (codes " is=" ++ (of_event x.event).word))))

abbrev pub tally_text : Tally → List ℕ
tally_text t =
    codes "raised=" ++ (decimal t.raised ++ (codes " fulfilled=" ++ (decimal t.fulfilled ++ (codes " violated=" ++ (decimal t.violated ++ (codes " open=" ++ decimal t.pending))))))
