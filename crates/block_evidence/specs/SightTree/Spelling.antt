-- The spelling of nodes, and the nodes that bytes spell.
use Rattle.std.specs.Prelude.{◌≡◌, ℕ, zero, suc, ◌-◌, ◌*◌, ◌^◌, ◌<◌, ◌≤◌, List, [], ◌∷◌, ◌++◌, take, drop, replicate, length, flat_map}
use Rattle.std.specs.List.{AllByRecursion}
use Rattle.std.specs.Int.{to_le_bytes, from_le_bytes, w16}
use Rattle.block_evidence.specs.Stuck.{end_codes}
use Rattle.block_evidence.specs.declared.sight_tree.Node.{Node}
use Rattle.block_evidence.specs.declared.sight_tree.Node.TheVariants.{Open, Blocked}

abbrev pub u16 : ℕ → List ℕ
u16 n = to_le_bytes w16 n

-- an open node is a byte 0; a blocked one is how many ends it names, and then those, two bytes an end
abbrev pub node_bytes : Node → List ℕ
node_bytes Open = 0 ∷ []
node_bytes (Blocked e) = e.count ∷ flat_map u16 (end_codes e)

-- nothing of the node is lost: a blocked one names one to four ends, and the places left over are 0
abbrev pub IsPackable : Node → Type 0
IsPackable Open = Unit {0}
IsPackable (Blocked e) = (1 ≤ e.count) × (e.count ≤ 4) × (drop e.count e.ends ≡ replicate (4 - e.count) 0)

-- the numbers fit their fields; at a value of the program this is so by the fields' types
abbrev pub FitsNode : Node → Type 0
FitsNode Open = Unit {0}
FitsNode (Blocked e) = (length e.ends ≡ 4) × AllByRecursion (λ x. x < 2 ^ 16) e.ends

-- the bytes spell these nodes one behind the other
pub record SpellNodes (bytes : List ℕ) (ns : List Node) : Type 0 where
  pub spelled : bytes ≡ flat_map node_bytes ns
  pub packable : AllByRecursion IsPackable ns
  pub fit : AllByRecursion FitsNode ns

-- they spell so many nodes
abbrev pub SpellSoMany : List ℕ → ℕ → Type 0
SpellSoMany bytes count = (ns : List Node) × SpellNodes bytes ns × (length ns ≡ count)

-- ---- the nodes that bytes spell, read from the front

-- the first k ends
abbrev pub first_ends : ℕ → List ℕ → List ℕ
first_ends zero bytes = []
first_ends (suc k) bytes = from_le_bytes w16 (take 2 bytes) ∷ first_ends k (drop 2 bytes)

-- the node that names k ends, which come first
abbrev pub first_node : ℕ → List ℕ → Node
first_node zero bytes = Open
first_node (suc k) bytes = Blocked (record { count = suc k; ends = first_ends (suc k) bytes ++ replicate (4 - suc k) 0 })

-- so many nodes, or fewer where the bytes end
abbrev pub nodes_within : ℕ → List ℕ → List Node
nodes_within zero bytes = []
nodes_within (suc n) [] = []
nodes_within (suc n) (k ∷ bytes) = first_node k bytes ∷ nodes_within n (drop (2 * k) bytes)

-- all of them: each takes at least one byte
abbrev pub nodes_in_bytes : List ℕ → List Node
nodes_in_bytes bytes = nodes_within (length bytes) bytes
