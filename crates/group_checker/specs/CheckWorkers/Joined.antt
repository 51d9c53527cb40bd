-- What was found of parts of the trees, put together.
use Rattle.std.specs.Prelude.{◌≡◌, ℕ, ◌<◌, ◌⊎◌, ◌↔◌, List, length, flat_map, Bool}
use Rattle.std.specs.List.{AllZip}
use Rattle.sight_names.specs.declared.names.Triangle.{Triangle}
use Rattle.sight_names.specs.Map.{Map}
use Rattle.block_evidence.specs.declared.sight_tree.Tree.{Tree}
use Rattle.mesh_shape.specs.declared.half_edges.table.HalfEdge.{HalfEdge}
use Rattle.reject_bits.specs.Parts.{TableParts, Rejects}
use Rattle.cert_checker.specs.declared.tree_judge.judge.TreeVerdict.{TreeVerdict}
use Rattle.cert_checker.specs.TreeJudge.Marks.{IsFlagSet}
use Rattle.cert_checker.specs.TreeJudge.Part.{TellsPart}

-- each bit of the source and a sector below k that is set in the other table is set too, and no other
pub record SetsRow (source k : ℕ) (more old new : TableParts) : Type 0 where
  pub size : new.n ≡ old.n
  pub bits : (a b : ℕ) → a < old.n → b < old.n → Rejects new a b ↔ (Rejects old a b ⊎ ((a ≡ source) × (b < k) × Rejects more a b))

-- the flag of each source below k that has one in the part is set too, and the bits of its pairs there, and nothing else
pub record TakesIn (k : ℕ) (part : List Bool) (bits_there : TableParts) (walked walked_new : List Bool) (reached reached_new : TableParts) : Type 0 where
  pub len : length walked_new ≡ length walked
  pub size : reached_new.n ≡ reached.n
  pub flags : (a : ℕ) → a < length walked → IsFlagSet walked_new a ↔ (IsFlagSet walked a ⊎ ((a < k) × IsFlagSet part a))
  pub bits : (a b : ℕ) → a < reached.n → b < reached.n → Rejects reached_new a b ↔ (Rejects reached a b ⊎ ((a < k) × IsFlagSet part a × (b < bits_there.n) × Rejects bits_there a b))

-- the trees one behind the other in parts, and what is told of each part
abbrev pub TellParts : Map → List Triangle → List HalfEdge → List Tree → List TreeVerdict → Type 0
TellParts m ts xs trees verdicts = (lists : List (List Tree)) × (flat_map (λ l. l) lists ≡ trees) × AllZip (TellsPart m ts xs) lists verdicts

-- the bit of the pair is set too where it is set in the other table, and no other
pub record CopiesBit (a b : ℕ) (more old new : TableParts) : Type 0 where
  pub size : new.n ≡ old.n
  pub bits : (c d : ℕ) → c < old.n → d < old.n → Rejects new c d ↔ (Rejects old c d ⊎ ((c ≡ a) × (d ≡ b) × Rejects more a b))

-- the flag of the source is set too where it is in the part, and the bits of its pairs there, and nothing else
pub record TakesSource (a : ℕ) (part : List Bool) (bits_there : TableParts) (walked walked_new : List Bool) (reached reached_new : TableParts) : Type 0 where
  pub len : length walked_new ≡ length walked
  pub size : reached_new.n ≡ reached.n
  pub flags : (c : ℕ) → c < length walked → IsFlagSet walked_new c ↔ (IsFlagSet walked c ⊎ ((c ≡ a) × IsFlagSet part c))
  pub bits : (c d : ℕ) → c < reached.n → d < reached.n → Rejects reached_new c d ↔ (Rejects reached c d ⊎ ((c ≡ a) × IsFlagSet part c × (d < bits_there.n) × Rejects bits_there c d))
