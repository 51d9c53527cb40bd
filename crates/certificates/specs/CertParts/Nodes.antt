-- Nodes that are taken from a piece one by one, while the reader stays where the first of them began.
use Rattle.std.specs.Prelude.{◌≡◌, ℕ, ◌+◌, List, [], ◌∷◌, Ok, length, true}
use Rattle.block_evidence.specs.declared.sight_tree.Node.{Node}
use Rattle.cert_format.specs.Reading.{node_at}
use Rattle.certificates.specs.CertParts.Left.{ReaderState}
use Rattle.certificates.specs.CertParts.Steps.{is_in_tree}

-- these bytes are these nodes, one behind the other, and then the rest
abbrev pub ReadsNodes : List ℕ → List Node → List ℕ → Type 0
ReadsNodes bytes [] rest = bytes ≡ rest
ReadsNodes bytes (n ∷ ns) rest = (behind : List ℕ) × ((total : ℕ) → node_at total bytes ≡ Ok (n, behind)) × ReadsNodes behind ns rest

-- of so many nodes that are to come the first were read from the bytes, and this holds of them; the rest of the bytes is
-- behind them, and so many are left
pub record TakesNodes (bytes : List ℕ) (count : ℕ) (rest : List ℕ) (left : ℕ) (Holds : List Node → Type 0) : Type 0 where
  pub nodes : List Node
  pub read : ReadsNodes bytes nodes rest
  pub counted : length nodes + left ≡ count
  pub holds : Holds nodes

-- so many nodes come next, and no byte of them is kept
pub record AwaitsNodes (s : ReaderState) (count : ℕ) : Type 0 where
  pub uncut : s.kept ≡ []
  pub in_tree : is_in_tree s.awaited ≡ true
  pub counted : s.awaited.nodes ≡ count

-- the reader once nodes of so many bytes were taken, and so many are left
abbrev pub behind_nodes : ReaderState → ℕ → ℕ → ReaderState
behind_nodes s left bytes = record s { awaited = record s.awaited { nodes = left }; given = s.given + bytes }
