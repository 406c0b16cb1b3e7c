-- Memory that is written over item by item. Assumes nothing.
use Rattle.std.proofs.Common.{◌≡◌, ℕ, zero, suc, ◌+◌, ◌<◌, ◌≤◌, min, List, [], ◌∷◌, ◌++◌, map, length, get_or, set, take, drop, refl, sym, ap, ◌∙◌, arith}
use Rattle.std.proofs.lemmas.List.{length-map, length-take-le, get_or-map, get_or-take}
use Rattle.bench_calls.specs.Memory.{over}

-- one item more
pub over_more : {X A : Type 0} (f : X → A) (xs : List X) (ys : List A) (k : ℕ) (d : X) → k < length xs → k < length ys
    → set (over (map f (take k xs)) ys) k (f (get_or xs k d)) ≡ over (map f (take (suc k) xs)) ys
over_more f [] ys k d h g = absurd (omega arith)
over_more f (x ∷ xs) [] k d h g = absurd (omega arith)
over_more f (x ∷ xs) (y ∷ ys) zero d h g = refl
over_more f (x ∷ xs) (y ∷ ys) (suc k) d h g = ap (λ z. f x ∷ z) (over_more f xs ys k d (omega arith) (omega arith))

-- no more than the memory has room for
pub over_room : {A : Type 0} (xs ys : List A) (k : ℕ) → min (length xs) (length ys) ≤ k → over (take k xs) ys ≡ over xs ys
over_room [] ys zero h = refl
over_room [] ys (suc k) h = refl
over_room (x ∷ xs) [] zero h = refl
over_room (x ∷ xs) [] (suc k) h = refl
over_room (x ∷ xs) (y ∷ ys) zero h = absurd (omega arith)
over_room (x ∷ xs) (y ∷ ys) (suc k) h = ap (λ z. x ∷ z) (over_room xs ys k (omega arith))

-- where there is room for all
pub over_all : {A : Type 0} (xs ys : List A) → length xs ≤ length ys → xs ++ drop (length xs) ys ≡ over xs ys
over_all [] ys h = refl
over_all (x ∷ xs) [] h = absurd (omega arith)
over_all (x ∷ xs) (y ∷ ys) h = ap (λ z. x ∷ z) (over_all xs ys (omega arith))

-- the same of memory that was written so far
pub over_step : {X A : Type 0} (f : X → A) (xs : List X) (ys now : List A) (k : ℕ) (d : X) (v : A) → k < length xs → k < length ys
    → now ≡ over (map f (take k xs)) ys → v ≡ f (get_or xs k d) → set now k v ≡ over (map f (take (k + 1) xs)) ys
over_step f xs ys now k d v h g is e =
    let n : suc k ≡ k + 1 = omega arith in
    ap (λ z. set z k v) is ∙ ap (set (over (map f (take k xs)) ys) k) e ∙ over_more f xs ys k d h g ∙ ap (λ j. over (map f (take j xs)) ys) n

-- its first items are those that were written, and the later ones as they were
get_or-over : {A : Type 0} (xs ys : List A) (k : ℕ) (z : A) → k < length xs → k < length ys → get_or (over xs ys) k z ≡ get_or xs k z
get_or-over [] ys k z h g = absurd (omega arith)
get_or-over (x ∷ xs) [] k z h g = absurd (omega arith)
get_or-over (x ∷ xs) (y ∷ ys) zero z h g = refl
get_or-over (x ∷ xs) (y ∷ ys) (suc k) z h g = get_or-over xs ys k z (omega arith) (omega arith)

drop-over : {A : Type 0} (xs ys : List A) → drop (length xs) (over xs ys) ≡ drop (length xs) ys
drop-over [] ys = refl
drop-over (x ∷ xs) [] = refl
drop-over (x ∷ xs) (y ∷ ys) = drop-over xs ys

length-over : {A : Type 0} (xs ys : List A) → length (over xs ys) ≡ length ys
length-over [] ys = refl
length-over (x ∷ xs) [] = refl
length-over (x ∷ xs) (y ∷ ys) = ap suc (length-over xs ys)

-- what f tells of the first n cells, written over memory that has room for it
module _ {K A : Type 0} (f : K → A) (cells : List K) (old now : List A) (n : ℕ) (put : now ≡ over (map f (take n cells)) old) (there : n ≤ length cells) where
  many : length (map f (take n cells)) ≡ n
  many = length-map (take n cells) f ∙ length-take-le n cells there

  -- the cells are told in its first items
  pub put_cell : (k : ℕ) (d : K) (z : A) → k < n → n ≤ length old → get_or now k z ≡ f (get_or cells k d)
  put_cell k d z h room =
      ap (λ ys. get_or ys k z) put ∙ get_or-over (map f (take n cells)) old k z (omega (arith, many)) (omega arith)
      ∙ get_or-map f (take n cells) k d z (omega (arith, length-take-le n cells there)) ∙ ap f (get_or-take n cells k d h)

  -- its later items are as they were
  pub put_later : drop n now ≡ drop n old
  put_later =
      ap (drop n) put ∙ ap (λ j. drop j (over (map f (take n cells)) old)) (sym many) ∙ drop-over (map f (take n cells)) old ∙ ap (λ j. drop j old) many

  -- the memory keeps its length
  pub put_length : length now ≡ length old
  put_length = ap length put ∙ length-over (map f (take n cells)) old
