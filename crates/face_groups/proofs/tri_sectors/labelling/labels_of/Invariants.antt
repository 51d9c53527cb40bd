use Rattle.std.proofs.Common.{◌≡◌, ◌<◌, ℕ, length, slice_index_or, None}
use Rattle.face_groups.specs.TriSectors.Classes.{class_of}
use Rattle.face_groups.proofs.tri_sectors.labelling.labels_of.Given as goal

abbrev pub invariant-loop-face : goal.invariant-loop-face
invariant-loop-face l = record { len : length l.labels.items ≡ l.face-index; each : (k : ℕ) → k < l.face-index → slice_index_or l.labels.items k None ≡ slice_index_or l.names (class_of l.faces k) None }
