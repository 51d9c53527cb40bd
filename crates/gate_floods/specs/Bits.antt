-- Rows of bits, by which a walk is told where to go on; and the ranks by which claims are owned.
use Rattle.std.specs.Prelude.{◌≡◌, ℕ, zero, suc, ◌+◌, ◌↔◌, List, [], ◌∷◌, Some, slice_get, get_or, nat_lt, Bool, true, false, not, ◌==◌, ◌&&◌, ◌||◌}
use Rattle.sight_names.specs.declared.names.PairRay.{PairRay}

-- bit c of the row is set exactly where P holds of c
abbrev pub IsRowOf : List Bool → (ℕ → Type 0) → Type 0
IsRowOf row P = (c : ℕ) → (slice_get row c ≡ Some true) ↔ P c

-- the bits that both rows have
abbrev pub both_rows : List Bool → List Bool → List Bool
both_rows [] ys = []
both_rows (x ∷ xs) [] = []
both_rows (x ∷ xs) (y ∷ ys) = (x && y) ∷ both_rows xs ys

-- some bit is set
abbrev pub has_bit_in_list : List Bool → Bool
has_bit_in_list [] = false
has_bit_in_list (x ∷ xs) = x || has_bit_in_list xs

-- how many bits are set
abbrev pub count_bits : List Bool → ℕ
count_bits [] = 0
count_bits (true ∷ xs) = 1 + count_bits xs
count_bits (false ∷ xs) = count_bits xs

-- ---- the groups that are joined with one

-- one of the rays is for the pair
abbrev pub has_ray : List PairRay → ℕ → ℕ → Bool
has_ray [] f k = false
has_ray (r ∷ rs) f k = (r.pair.a == f && r.pair.b == k) || has_ray rs f k

-- they are one, or there is a ray between them
abbrev pub is_joined : List PairRay → ℕ → ℕ → Bool
is_joined rs f k = f == k || (has_ray rs f k || has_ray rs k f)

-- of n groups from one on, whether each passes the test
abbrev pub bits_from : (ℕ → Bool) → ℕ → ℕ → List Bool
bits_from test k zero = []
bits_from test k (suc n) = test k ∷ bits_from test (suc k) n

-- the row of a group: of n groups those that are joined with it
abbrev pub joined_row : List PairRay → ℕ → ℕ → List Bool
joined_row rs n f = bits_from (is_joined rs f) 0 n

-- the rank of a group: how many of the n groups it is joined with, so that those which see few rank first
abbrev pub rank_of : List PairRay → ℕ → ℕ → ℕ
rank_of rs n f = count_bits (joined_row rs n f)

-- ---- what a group owns

-- by the rank, and by the number among those of one rank
abbrev pub ranks_before : (ℕ → ℕ) → ℕ → ℕ → Bool
ranks_before rank f k = nat_lt (rank f) (rank k) || (rank f == rank k && nat_lt f k)

-- of one component, ranking behind f, and not joined with it
abbrev pub is_owned : List PairRay → List ℕ → (ℕ → ℕ) → ℕ → ℕ → Bool
is_owned rs components rank f k = get_or components f 0 == get_or components k 0 && (ranks_before rank f k && not (is_joined rs f k))

-- the row of what a group owns, of n groups
abbrev pub owned_row : List PairRay → List ℕ → (ℕ → ℕ) → ℕ → ℕ → List Bool
owned_row rs components rank n f = bits_from (is_owned rs components rank f) 0 n
