-- Rows in one list of cells. Assumes nothing.
use Rattle.std.proofs.Common.{◌≡◌, ℕ, ◌+◌, ◌-◌, ◌*◌, ◌<◌, ◌≤◌, List, [], ◌++◌, length, take, drop, sym, ap, ◌∙◌, ⊎_elim, arith, length-drop, length-take, length-take-le}
use Rattle.std.proofs.Math.Seq.{drop-append_seam, drop-append-add, take-append_seam}
use Rattle.std.proofs.lemmas.Bool.{cases_lt}
use Rattle.std.proofs.lemmas.List.{take-append-le, drop-append-le, take-append-drop}
use Rattle.std.proofs.lemmas.Slice.{drop-append-drop, drop-put_mid}
use borrow.Rule.Slice.PartMut.{put_mid, post_of}
use Rattle.labelling.specs.Rows.{row}
use Rattle.labelling.proofs.Nodes.{row_below}

module _ {K : Type 0} (n : ℕ) where
  pub length_row : (f : ℕ) (xs : List K) → f * n + n ≤ length xs → length (row n f xs) ≡ n
  length_row f xs h = simp (length-take, length-drop) (omega arith)

  pub row_front : (g : ℕ) (xs ys : List K) → g * n + n ≤ length xs → row n g (xs ++ ys) ≡ row n g xs
  row_front g xs ys h = ap (take n) (drop-append-le (g * n) xs ys (omega arith)) ∙ take-append-le n (drop (g * n) xs) ys (simp length-drop (omega arith))

  -- the cells are those before row f, that row, and the rest
  module _ (f : ℕ) (low own rest : List K) (before : length low ≡ f * n) (long : length own ≡ n) where
    pub row_own : (tail : List K) → row n f (low ++ (own ++ tail)) ≡ own
    row_own tail =
        ap (λ k. take n (drop k (low ++ (own ++ tail)))) (sym before) ∙ ap (take n) (drop-append_seam low (own ++ tail))
        ∙ ap (λ k. take k (own ++ tail)) (sym long) ∙ take-append_seam own tail

    row_back : (g : ℕ) → f < g → row n g (low ++ (own ++ drop n rest)) ≡ row n g (low ++ rest)
    row_back g past =
        let k = g * n - length low in
        let at : g * n ≡ length low + k = omega (arith, before, row_below f g n past) in
        let here : (xs : List K) → drop (g * n) (low ++ xs) ≡ drop k xs = λ xs. ap (λ j. drop j (low ++ xs)) at ∙ drop-append-add low xs k in
        ap (take n) (here (own ++ drop n rest) ∙ drop-append-drop n rest own k (omega (arith, before, row_below f g n past)) long ∙ sym (here rest))

    -- another row than row f is as it was
    pub other_row : (g : ℕ) → (g ≡ f → ⊥) → row n g (low ++ (own ++ drop n rest)) ≡ row n g (low ++ rest)
    other_row g ne =
        ⊎_elim
        (λ (w : g < f). let fits : g * n + n ≤ length low = omega (arith, before, row_below g f n w) in row_front g low (own ++ drop n rest) fits ∙ sym (row_front g low rest fits))
        (λ (w : f ≤ g). row_back g (omega (arith, ne)))
        (cases_lt g f)

  -- row f written anew where it stands; k is the length that it has
  module _ (f k : ℕ) (xs own : List K) (is : k ≡ n) (room : f * n + n ≤ length xs) (long : length own ≡ n) where
    pub put_own : row n f (put_mid (f * n) k xs own) ≡ own
    put_own = row_own f (take (f * n) xs) own [] (length-take-le (f * n) xs (omega arith)) long (post_of (f * n) k xs)

    pub put_other : (g : ℕ) → (g ≡ f → ⊥) → row n g (put_mid (f * n) k xs own) ≡ row n g xs
    put_other g ne =
        ⊎_elim
        (λ (w : g < f).
        let low = take (f * n) xs in
        let fits : g * n + n ≤ length low = omega (arith, length-take-le (f * n) xs (omega arith), row_below g f n w) in
        row_front g low (own ++ post_of (f * n) k xs) fits ∙ sym (row_front g low (drop (f * n) xs) fits) ∙ ap (row n g) (take-append-drop (f * n) xs))
        (λ (w : f ≤ g). ap (take n) (drop-put_mid (f * n) k xs own (g * n) (omega (arith, row_below f g n (omega (arith, ne)))) (omega arith) (long ∙ sym is)))
        (cases_lt g f)
