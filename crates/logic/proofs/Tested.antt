-- The tests of references mean what they are named for. Assumes nothing.
use Rattle.std.proofs.Common.{ℕ, ◌≤◌, ◌⊎◌, leb, Decides}
use Rattle.std.proofs.lemmas.Bool.{leb-true, le-leb}
use Rattle.std.proofs.lemmas.Bool.Decides.{Decides-and, Decides-or, Decides-ltb, Decides-eqb}
use Rattle.logic.specs.declared.types.Reference.{Reference}
use Rattle.logic.specs.declared.types.State.{State}
use Rattle.logic.specs.Lawful.{Unfit}
use Rattle.logic.specs.Tests.{unfit, either_unfit}

decides_leb : (a b : ℕ) → Decides (leb a b) (a ≤ b)
decides_leb a b = (leb-true a b, le-leb a b)

unfit_decides : (l : Reference) (i : ℕ) → Decides (unfit l i) (Unfit l i)
unfit_decides l i =
    Decides-or _ _ (Decides-ltb 15 l.kind)
    (Decides-or _ _ (Decides-and _ _ (Decides-eqb l.kind 0) (Decides-ltb 0 l.target))
    (Decides-and _ _ (Decides-ltb 0 l.kind) (Decides-or _ _ (Decides-eqb l.target 0) (decides_leb i l.target))))

pub either_unfit_decides : (x : State) (i : ℕ) → Decides (either_unfit x i) (Unfit x.first i ⊎ Unfit x.second i)
either_unfit_decides x i = Decides-or _ _ (unfit_decides x.first i) (unfit_decides x.second i)
