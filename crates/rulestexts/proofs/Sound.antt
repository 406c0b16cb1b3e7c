use Rattle.std.proofs.Common.{◌≡◌, ℕ, ◌+◌, ◌⊎◌, List, length, sym, ap, subst, ⊎_elim, arith}
use Rattle.faults.specs.declared.read.ReadFault.{ReadFault}
use Rattle.fields.specs.Runs.{Run}
use Rattle.fields.proofs.Follow.{OneWay, Shorter, compared}
use Rattle.rulestexts.specs.Blocks.{Block, Begins, Stops, at_count, at_line}

-- a block each line of which is taken in one way, or refused with one fault, and never both
pub record Clear {A : Type 0} (B : Block A) : Type 0 where
  pub one_count : (m n : ℕ) (t r s : List ℕ) → B.Counts m t r → B.Counts n t s → (m ≡ n) × (r ≡ s)
  pub count_or : (n : ℕ) (t r : List ℕ) (p : ℕ) (e : ReadFault) → B.Counts n t r → B.CountRefused t p e → ⊥
  pub count_fault : (t : List ℕ) (p : ℕ) (e f : ReadFault) → B.CountRefused t p e → B.CountRefused t p f → e ≡ f
  pub one_line : OneWay B.Line
  pub line_or : (k : ℕ) (x : A) (t r : List ℕ) (p : ℕ) (e : ReadFault) → B.Line k x t r → B.LineRefused k t p e → ⊥
  pub line_fault : (k : ℕ) (t : List ℕ) (p : ℕ) (e f : ReadFault) → B.LineRefused k t p e → B.LineRefused k t p f → e ≡ f

module _ {A : Type 0} (B : Block A) (clear : Clear B) (text : List ℕ) where
  -- two beginnings: one count, and one run over the lines, or one of them is shorter
  both : (m n : ℕ) (xs ys : List A) (r s : List ℕ) → Begins B m xs text r → Begins B n ys text s
      → (m ≡ n) × (((xs ≡ ys) × (r ≡ s)) ⊎ (Shorter B.Line 0 xs ys r ⊎ Shorter B.Line 0 ys xs s))
  both m n xs ys r s a b =
      let d = clear.one_count m n text a.middle b.middle a.counts b.counts in
      (d.0, compared B.Line clear.one_line 0 xs ys a.middle r s a.run (subst (λ z. Run B.Line 0 ys z s) (sym d.1) b.run))

  pub one_whole : (xs ys : List A) (r s : List ℕ) → Begins B (length xs) xs text r → Begins B (length ys) ys text s → (xs ≡ ys) × (r ≡ s)
  one_whole xs ys r s a b =
      let d = both (length xs) (length ys) xs ys r s a b in
      ⊎_elim
      (λ (h : (xs ≡ ys) × (r ≡ s)). h)
      (λ (h : Shorter B.Line 0 xs ys r ⊎ Shorter B.Line 0 ys xs s).
      absurd (⊎_elim (λ (w : Shorter B.Line 0 xs ys r). omega (arith, d.0, w.fewer)) (λ (w : Shorter B.Line 0 ys xs s). omega (arith, d.0, w.fewer)) h))
      d.1

  -- a refused line is not followed by more
  last : (xs ys : List A) (rest : List ℕ) (p : ℕ) (e : ReadFault) → B.LineRefused (length xs) rest p e → Shorter B.Line 0 xs ys rest → ⊥
  last xs ys rest p e x w = clear.line_or (0 + length xs) w.next rest w.after p e w.line (let q : length xs ≡ 0 + length xs = omega arith in subst (λ z. B.LineRefused z rest p e) q x)

  pub whole_or_stops : (xs : List A) (r : List ℕ) (p : ℕ) (e : ReadFault) → Begins B (length xs) xs text r → Stops B text p e → ⊥
  whole_or_stops xs r p e a (at_count x) = clear.count_or (length xs) text a.middle p e a.counts x
  whole_or_stops xs r p e a (at_line n ys s b lt x) =
      let d = both (length xs) n xs ys r s a b in
      ⊎_elim
      (λ (h : (xs ≡ ys) × (r ≡ s)). omega (arith, d.0, ap length h.0))
      (λ (h : Shorter B.Line 0 xs ys r ⊎ Shorter B.Line 0 ys xs s).
      ⊎_elim (λ (w : Shorter B.Line 0 xs ys r). omega (arith, d.0, w.fewer)) (λ (w : Shorter B.Line 0 ys xs s). last ys xs s _ e x w) h)
      d.1

  pub one_stop : (p : ℕ) (e f : ReadFault) → Stops B text p e → Stops B text p f → e ≡ f
  one_stop p e f (at_count x) (at_count y) = clear.count_fault text p e f x y
  one_stop p e f (at_count x) (at_line n ys s b lt y) = absurd (clear.count_or n text b.middle p e b.counts x)
  one_stop p e f (at_line m xs r a lt x) (at_count y) = absurd (clear.count_or m text a.middle p f a.counts y)
  one_stop p e f (at_line m xs r a lt x) (at_line n ys s b lu y) =
      let d = both m n xs ys r s a b in
      ⊎_elim
      (λ (h : (xs ≡ ys) × (r ≡ s)).
      clear.line_fault (length xs) r (p + 1 + length xs) e f x
      (subst (λ z. B.LineRefused (length z) r (p + 1 + length z) f) (sym h.0) (subst (λ z. B.LineRefused (length ys) z (p + 1 + length ys) f) (sym h.1) y)))
      (λ (h : Shorter B.Line 0 xs ys r ⊎ Shorter B.Line 0 ys xs s).
      absurd (⊎_elim (λ (w : Shorter B.Line 0 xs ys r). last xs ys r _ e x w) (λ (w : Shorter B.Line 0 ys xs s). last ys xs s _ f y w) h))
      d.1
