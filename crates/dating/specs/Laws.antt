-- What the labels are.
use Rattle.std.specs.Prelude.{◌≡◌, ℕ, ◌<◌, ◌≤◌, min, Bool, ◌⊎◌, ℤ, pos, Decides}
use Rattle.logic.specs.States.{Trace}
use Rattle.logic.specs.Lawful.{LawfulTo}
use Rattle.logic.specs.Logic.{Tree, Reads}
use Rattle.labels.specs.Dated.{dated}
use Rattle.dating.specs.Dated.{true_from, false_from}
use Rattle.dating.specs.Labels.{label}

-- A label over n lawful states gives both readings at every truncation point up to 256; points after n read as n does.
abbrev pub LabelsRead : Type 0
LabelsRead = (s : Trace) (n v i : ℕ) (f : Tree) → n ≤ 256 → LawfulTo n s → 1 ≤ i → i ≤ n →
    (r : Bool) (c : ℕ) → 0 < c → c ≤ 256 → Decides (dated (label s n v i f) r c) (Reads r s (min c n) v i f)

-- z is unknown, or true or false from a truncation point from i to n
abbrev pub HasDate : (n i : ℕ) → ℤ → Type 0
HasDate n i z = (z ≡ pos 0) ⊎ ((d : ℕ) × (i ≤ d) × (d ≤ n) × ((z ≡ true_from d) ⊎ (z ≡ false_from d)))

abbrev pub LabelsHaveDates : Type 0
LabelsHaveDates = (s : Trace) (n v i : ℕ) (f : Tree) → n ≤ 256 → 1 ≤ i → i ≤ n → HasDate n i (label s n v i f)
