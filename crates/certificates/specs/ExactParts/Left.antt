-- What parts are still to come, of a reader that some bytes were given to.
use Rattle.std.specs.Prelude.{ℕ, zero, suc, ◌+◌, ◌-◌, ◌<◌, ◌^◌, List, [], ◌∷◌, ◌++◌, map, length, Option, Some, None, Result, Ok, ◌==◌}
use Rattle.sight_names.specs.declared.faults.CertFault.{CertFault}
use Rattle.sight_names.specs.declared.faults.CertFault.TheVariants as faults
use Rattle.cert_format.specs.Reading.{◌>>=◌, begins_at, passed, triangles_at, rays_at}
use Rattle.certificates.specs.CertExact.Reading.{lengths_at, trees_at}
use Rattle.certificates.specs.declared.exact_parts.awaited.Awaited.{Awaited}
use Rattle.certificates.specs.declared.exact_parts.part.Part.{Part}
use Rattle.certificates.specs.declared.exact_parts.part.Part.TheVariants as parts
use Rattle.certificates.specs.ExactParts.Parts.{tree_parts}

-- ---- how many bytes are left of trees

-- from the tree of this number on, those whose length has come: so many bytes are left of each
pub record TreesLeft : Type 0 where
  pub source : ℕ
  pub lengths : List ℕ

-- of the first, 0 where there is none
abbrev pub first_or_zero : List ℕ → ℕ
first_or_zero [] = 0
first_or_zero (n ∷ ns) = n

-- one more length
abbrev pub put_length : ℕ → TreesLeft → TreesLeft
put_length n t = record { source = t.source; lengths = t.lengths ++ n ∷ [] }

-- so many bytes less of the first
abbrev pub less_first : ℕ → List ℕ → List ℕ
less_first k [] = []
less_first k (n ∷ ns) = (n - k) ∷ ns

abbrev pub shorter : ℕ → TreesLeft → TreesLeft
shorter k t = record { source = t.source; lengths = less_first k t.lengths }

-- behind the trees of which nothing is left
abbrev pub settled_from : ℕ → List ℕ → TreesLeft
settled_from f [] = record { source = f; lengths = [] }
settled_from f (zero ∷ ns) = settled_from (suc f) ns
settled_from f (suc n ∷ ns) = record { source = f; lengths = suc n ∷ ns }

abbrev pub settled : TreesLeft → TreesLeft
settled t = settled_from t.source t.lengths

-- something is left of the first tree
abbrev pub IsFirstTreeLeft : List ℕ → Type 0
IsFirstTreeLeft [] = Unit {0}
IsFirstTreeLeft (n ∷ ns) = 0 < n

-- ---- of records that are awaited, read from the bytes that are left

-- the nodes of these trees; behind them no byte is left
unfoldable pub trees_left : ℕ → List ℕ → ℕ → List ℕ → Result (List Part) CertFault
trees_left f lengths total bytes = do
  trees ← trees_at total lengths bytes
  passed (length trees.1 == 0) (faults.Trailing (begins_at total trees.1)) (tree_parts f trees.0)

-- lengths, and then the trees
unfoldable pub lengths_left : Awaited → TreesLeft → ℕ → List ℕ → Result (List Part) CertFault
lengths_left a t total bytes = do
  lengths ← lengths_at total a.lengths bytes
  others ← trees_left t.source (t.lengths ++ lengths.0) total lengths.1
  Ok (map (λ (n : ℕ). parts.Length) lengths.0 ++ others)

unfoldable pub rays_left : Awaited → TreesLeft → ℕ → List ℕ → Result (List Part) CertFault
rays_left a t total bytes = do
  rays ← rays_at a.sizes total a.last_ray a.rays bytes
  others ← lengths_left a t total rays.1
  Ok (map (λ r. parts.Ray r) rays.0 ++ others)

unfoldable pub left_at : Awaited → TreesLeft → ℕ → List ℕ → Result (List Part) CertFault
left_at a t total bytes = do
  triangles ← triangles_at a.sizes total a.last_triangle a.triangles bytes
  others ← rays_left a t total triangles.1
  Ok (map (λ t. parts.Triangle t) triangles.0 ++ others)

-- ---- of a reader

-- what it awaits, how many bytes it was given, and which of them it keeps, of a record that is cut
pub record ReaderState : Type 0 where
  pub awaited : Awaited
  pub trees : TreesLeft
  pub given : ℕ
  pub kept : List ℕ

-- the parts that are still to come, or the fault, where these are all bytes that are still to come
unfoldable pub parts_left : ReaderState → List ℕ → Result (List Part) CertFault
parts_left s bytes = left_at s.awaited s.trees (s.given + length bytes) (s.kept ++ bytes)

-- a part, if there is one, and what is still to come behind it
abbrev pub put_before : Option Part → Result (List Part) CertFault → Result (List Part) CertFault
put_before None left = left
put_before (Some part) left = left >>= λ others. Ok (part ∷ others)

-- a count of the bytes with this piece doesn't pass its type's end
abbrev pub IsCountable : ReaderState → List ℕ → Type 0
IsCountable s piece = s.given + length piece < 2 ^ 64
