use Rattle.std.proofs.Common.{◌≡◌, [], map, string_bytes, vec_len}
use Rattle.shelf_io.specs.Shelf.{BeginsAmong}
use Rattle.shelf_io.proofs.begun.take_out.Given as goal

-- nothing was begun
abbrev pub invariant-loop-i : goal.invariant-loop-i
invariant-loop-i g l = BeginsAmong (map (λ b. string_bytes b.name) l.fn.begun.items) (map (λ b. string_bytes b.name) l.begun.items) []

abbrev pub decreases-loop-i : goal.decreases-loop-i
decreases-loop-i g l = vec_len l.begun
