use Rattle.std.proofs.Common.{◌≡◌, ℕ, ◌+◌, ◌<◌, ◌≤◌, ◌⊎◌, List, [], ◌∷◌, ◌++◌, length, take, sym, refl, ap, ◌∙◌, subst, inl, inr, ⊎_elim, arith}
use Rattle.fields.specs.Runs.{Run}

module _ {A : Type 0} (Line : ℕ → A → List ℕ → List ℕ → Type 0) where
  -- one line more
  pub run_more : (k : ℕ) (xs : List A) (x : A) (m : ℕ) (text middle rest : List ℕ) → m ≡ k + length xs → Run Line k xs text middle → Line m x middle rest → Run Line k (xs ++ (x ∷ [])) text rest
  run_more k [] x m text middle rest e r l =
      let h : m ≡ k = omega arith in
      (rest, subst (λ z. Line k x z rest) (sym r) (subst (λ z. Line z x middle rest) h l), refl)
  run_more k (y ∷ ys) x m text middle rest e (u, here, later) l =
      (u, here, run_more (k + 1) ys x m u middle rest (omega arith) later l)

  -- a line is read in one way only
  abbrev pub OneWay : Type 0
  OneWay = (k : ℕ) (x y : A) (text r s : List ℕ) → Line k x text r → Line k y text s → (x ≡ y) × (r ≡ s)

  -- the first run ends where the second has another line
  pub record Shorter (k : ℕ) (xs ys : List A) (rest : List ℕ) : Type 0 where
    pub fewer : length xs < length ys
    pub next : A
    pub after : List ℕ
    pub line : Line (k + length xs) next rest after

  shorter_by : (k : ℕ) (x y : A) (xs ys : List A) (rest : List ℕ) → Shorter (k + 1) xs ys rest → Shorter k (x ∷ xs) (y ∷ ys) rest
  shorter_by k x y xs ys rest s =
      let e : k + 1 + length xs ≡ k + length (x ∷ xs) = omega arith in
      record { fewer = omega (arith, s.fewer); next = s.next; after = s.after; line = subst (λ z. Line z s.next rest s.after) e s.line }

  none_yet : (k : ℕ) (y : A) (ys : List A) (text rest u : List ℕ) → text ≡ rest → Line k y text u → Shorter k [] (y ∷ ys) rest
  none_yet k y ys text rest u e l =
      let z : k ≡ k + length {A = A} [] = omega arith in
      record { fewer = omega arith; next = y; after = u; line = subst (λ m. Line m y rest u) z (subst (λ t. Line k y t u) e l) }

  -- two runs over one text are the same, or one of them is shorter
  pub compared : OneWay → (k : ℕ) (xs ys : List A) (text r s : List ℕ) → Run Line k xs text r → Run Line k ys text s
      → ((xs ≡ ys) × (r ≡ s)) ⊎ (Shorter k xs ys r ⊎ Shorter k ys xs s)
  compared one k [] [] text r s p q = inl (refl, sym p ∙ q)
  compared one k [] (y ∷ ys) text r s p (u, l, q) = inr (inl (none_yet k y ys text r u p l))
  compared one k (x ∷ xs) [] text r s (u, l, p) q = inr (inr (none_yet k x xs text s u q l))
  compared one k (x ∷ xs) (y ∷ ys) text r s (u, l, p) (v, m, q) =
      let d = one k x y text u v l m in
      ⊎_elim
      (λ (h : (xs ≡ ys) × (r ≡ s)). inl (cc (d.0, h.0), h.1))
      (λ (h : Shorter (k + 1) xs ys r ⊎ Shorter (k + 1) ys xs s).
      inr (⊎_elim (λ (w : Shorter (k + 1) xs ys r). inl (shorter_by k x y xs ys r w)) (λ (w : Shorter (k + 1) ys xs s). inr (shorter_by k y x ys xs s w)) h))
      (compared one (k + 1) xs ys u r s p (subst (λ z. Run Line (k + 1) ys z s) (sym d.1) q))

  -- a run that is no longer is the beginning of the other
  pub beginning : OneWay → (k : ℕ) (xs ys : List A) (text r s : List ℕ) → Run Line k xs text r → Run Line k ys text s → length xs ≤ length ys → take (length xs) ys ≡ xs
  beginning one k [] [] text r s p q h = refl
  beginning one k [] (y ∷ ys) text r s p q h = refl
  beginning one k (x ∷ xs) [] text r s p q h = absurd (omega arith)
  beginning one k (x ∷ xs) (y ∷ ys) text r s (u, l, p) (v, m, q) h =
      let d = one k x y text u v l m in
      let t : take (length xs) ys ≡ xs = beginning one (k + 1) xs ys u r s p (subst (λ z. Run Line (k + 1) ys z s) (sym d.1) q) (omega arith) in
      ap (λ z. z ∷ take (length xs) ys) (sym d.0) ∙ ap (λ z. x ∷ z) t
