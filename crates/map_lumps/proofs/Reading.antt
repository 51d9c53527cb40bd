-- Lists by record number, and the line of a record.
use Rattle.std.proofs.Common.{◌≡◌, ℕ, zero, suc, ◌+◌, ◌*◌, ◌<◌, List, [], ◌∷◌, ◌++◌, map, Option, Some, None, true, false, ◌==◌, not, is_some, bit_and, refl, sym, ap, ap₂, ◌∙◌, subst, arith}
use Rattle.std.specs.Int.{bit_at}
use Rattle.std.proofs.lemmas.Nat.Bits.{and_pow, bit_at-lt}
use Rattle.sight_names.specs.declared.faults.LumpFault.{LumpFault}
use Rattle.sight_names.specs.Lumps.{numbers_from, numbers_below, lines_fault, first_lump_fault}
use Rattle.math_base.proofs.Lists.{map_pushed}

-- one number more
numbers_from_push : (k n : ℕ) → numbers_from k (suc n) ≡ numbers_from k n ++ (k + n) ∷ []
numbers_from_push k zero = ap (λ (x : ℕ). x ∷ []) (omega arith)
numbers_from_push k (suc n) = ap (λ (xs : List ℕ). k ∷ xs) (numbers_from_push (k + 1) n ∙ ap (λ (x : ℕ). numbers_from (k + 1) n ++ x ∷ []) (omega arith))

pub numbers_push : (n : ℕ) → numbers_below (n + 1) ≡ numbers_below n ++ n ∷ []
numbers_push n = let e : n + 1 ≡ suc n = omega arith in rw e (numbers_from_push 0 n ∙ ap (λ (x : ℕ). numbers_below n ++ x ∷ []) (omega arith))

-- a list that is made number by number, one further
pub mapped_more : {X Y : Type 0} (f : X → Y) (g : ℕ → Y) (xs : List X) (x : X) (n : ℕ) → map f xs ≡ map g (numbers_below n) → f x ≡ g n → map f (xs ++ x ∷ []) ≡ map g (numbers_below (n + 1))
mapped_more f g xs x n h e = map_pushed f xs x ∙ ap₂ (λ ys y. ys ++ y ∷ []) h e ∙ sym (map_pushed g (numbers_below n) n) ∙ ap (map g) (sym (numbers_push n))

-- the first line with a fault, none before it having one
first_from : (fault : ℕ → Option LumpFault) (k n m : ℕ) (rest : Option LumpFault) (f : LumpFault) → m < n → ((j : ℕ) → j < m → fault (k + j) ≡ None) → fault (k + m) ≡ Some f → lines_fault fault (numbers_from k n) rest ≡ Some f
first_from fault k zero m rest f h none e = absurd (omega arith)
first_from fault k (suc n) zero rest f h none e = let q : fault k ≡ Some f = subst (λ (j : ℕ). fault j ≡ Some f) (omega arith) e in ap (λ o. first_lump_fault o (lines_fault fault (numbers_from (k + 1) n) rest)) q
first_from fault k (suc n) (suc m) rest f h none e =
    let q : fault k ≡ None = subst (λ (j : ℕ). fault j ≡ None) (omega arith) (none 0 (omega arith)) in
    ap (λ o. first_lump_fault o (lines_fault fault (numbers_from (k + 1) n) rest)) q ∙ first_from fault (k + 1) n m rest f (omega arith) (λ j l. subst (λ (i : ℕ). fault i ≡ None) (omega arith) (none (suc j) (omega arith))) (subst (λ (i : ℕ). fault i ≡ Some f) (omega arith) e)

pub first_found : (fault : ℕ → Option LumpFault) (n m : ℕ) (rest : Option LumpFault) (f : LumpFault) → m < n → ((j : ℕ) → j < m → fault j ≡ None) → fault m ≡ Some f → lines_fault fault (numbers_below n) rest ≡ Some f
first_found fault n m rest f h none e = first_from fault 0 n m rest f h (λ j l. subst (λ (i : ℕ). fault i ≡ None) (omega arith) (none j l)) (subst (λ (i : ℕ). fault i ≡ Some f) (omega arith) e)

-- the fault that a loop stops at
pub first_some : (fault : ℕ → Option LumpFault) (n m : ℕ) (o : Option LumpFault) → m < n → ((j : ℕ) → j < m → fault j ≡ None) → o ≡ fault m → true ≡ is_some o → o ≡ lines_fault fault (numbers_below n) None
first_some fault n m None h none e s = absurd (no s)
  where
    no : true ≡ false → ⊥
    no e = cc
first_some fault n m (Some f) h none e s = sym (first_found fault n m None f h none (sym e))

pub is_none_of : (o : Option LumpFault) → false ≡ is_some o → o ≡ None
is_none_of None s = refl
is_none_of (Some f) s = absurd (no s)
  where
    no : false ≡ true → ⊥
    no e = cc

-- a fault of a line stands, whatever comes after all lines
pub stands : (fault : ℕ → Option LumpFault) (ks : List ℕ) (rest : Option LumpFault) (f : LumpFault) → lines_fault fault ks None ≡ Some f → lines_fault fault ks rest ≡ Some f
stands fault [] rest f e = absurd (no e)
  where
    no : ◌≡◌ {A = Option LumpFault} None (Some f) → ⊥
    no e = cc
stands fault (k ∷ ks) rest f e = go (stands fault ks rest f) (fault k) e
  where
    go : (lines_fault fault ks None ≡ Some f → lines_fault fault ks rest ≡ Some f) → (o : Option LumpFault) → first_lump_fault o (lines_fault fault ks None) ≡ Some f → first_lump_fault o (lines_fault fault ks rest) ≡ Some f
    go rec None e = rec e
    go rec (Some g) e = e

none_from : (fault : ℕ → Option LumpFault) (k n : ℕ) (rest : Option LumpFault) → ((j : ℕ) → j < n → fault (k + j) ≡ None) → lines_fault fault (numbers_from k n) rest ≡ rest
none_from fault k zero rest none = refl
none_from fault k (suc n) rest none =
    let q : fault k ≡ None = subst (λ (j : ℕ). fault j ≡ None) (omega arith) (none 0 (omega arith)) in
    ap (λ o. first_lump_fault o (lines_fault fault (numbers_from (k + 1) n) rest)) q ∙ none_from fault (k + 1) n rest (λ j l. subst (λ (i : ℕ). fault i ≡ None) (omega arith) (none (suc j) (omega arith)))

pub none_found : (fault : ℕ → Option LumpFault) (n : ℕ) (rest : Option LumpFault) → ((j : ℕ) → j < n → fault j ≡ None) → lines_fault fault (numbers_below n) rest ≡ rest
none_found fault n rest none = none_from fault 0 n rest (λ j l. subst (λ (i : ℕ). fault i ≡ None) (omega arith) (none j l))

-- the two-sided flag is the third bit
third_bit : (x : ℕ) → x < 2 → not (x * 4 == 0) ≡ (x == 1)
third_bit zero h = refl
third_bit (suc zero) h = refl
third_bit (suc (suc x)) h = absurd (omega arith)

pub is_flag_set : (n : ℕ) → not (bit_and n 4 == 0) ≡ (bit_at n 2 == 1)
is_flag_set n = ap (λ x. not (x == 0)) (and_pow n 2) ∙ third_bit (bit_at n 2) (bit_at-lt n 2)
