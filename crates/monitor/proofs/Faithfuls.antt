-- A memory that is right of its states tells what their labels do. Assumes nothing.
use Rattle.std.proofs.Common.{◌≡◌, ℕ, ◌<◌, ◌≤◌, false, List, length, get_or, ap, ◌∙◌, arith}
use Rattle.logic.specs.declared.types.State.{State}
use Rattle.logic.specs.Tables.{no_rule, loose}
use Rattle.table.specs.Tables.{InOrder}
use Rattle.expectations.specs.Expectations.{no_tally, tallied, notices}
use Rattle.growth.specs.Growth.{labels_of}
use Rattle.monitor.specs.declared.book.Book.{Book}
use Rattle.monitor.specs.Book.{formulas_in, rules_in, held, Right}
use Rattle.monitor.proofs.Likes.{tallied_like, notices_like}

module _ (xs : List State) (b : Book) (order : InOrder (formulas_in b) (rules_in b)) (e : b.count ≡ length xs) (right : Right xs b) where
  abbrev Known : ℕ → Type 0
  Known f = (f < length (formulas_in b)) × (loose (formulas_in b) f ≡ false)

  alike : (f i : ℕ) → Known f → 1 ≤ i → i ≤ length xs → held b f i ≡ labels_of (formulas_in b) xs f i
  alike f i k a h = right.labels f i k.0 k.1 a h

  known : (r : ℕ) → r < length (rules_in b) → Known (get_or (rules_in b) r no_rule).condition × Known (get_or (rules_in b) r no_rule).content
  known r h = let o = order.ruled r h in ((o.0.0, o.1), (o.0.1, o.2))

  pub tally_right : (r : ℕ) → r < length (rules_in b) → get_or b.tallies r no_tally ≡ tallied (labels_of (formulas_in b) xs) (get_or (rules_in b) r no_rule) (length xs) (length xs)
  tally_right r h =
      right.tallies r h
      ∙ ap (λ n. tallied (held b) (get_or (rules_in b) r no_rule) n n) e
      ∙ tallied_like (held b) (labels_of (formulas_in b) xs) Known (length xs) alike (get_or (rules_in b) r no_rule) (length xs) (length xs) (known r h) (omega arith)

  pub notices_right : (c : ℕ) → c ≤ length xs → notices (held b) (rules_in b) c ≡ notices (labels_of (formulas_in b) xs) (rules_in b) c
  notices_right c h = notices_like (held b) (labels_of (formulas_in b) xs) Known (length xs) alike c 0 (rules_in b) known h
