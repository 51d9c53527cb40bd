use Rattle.std.proofs.Common.{◌≡◌, ◌<◌, ℕ, length}
use Rattle.face_groups.specs.TriSectors.Classes.{class_of}
use Rattle.face_groups.proofs.tri_sectors.classes.singles.Given as goal

abbrev pub invariant-loop-k : goal.invariant-loop-k
invariant-loop-k l = record { len : length l.parents.items ≡ l.k; alone : (k : ℕ) → k < l.k → class_of l.parents.items k ≡ k }
