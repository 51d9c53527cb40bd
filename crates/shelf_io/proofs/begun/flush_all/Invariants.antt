use Rattle.std.proofs.Common.{◌≡◌, map, string_bytes}
use Rattle.shelf_io.proofs.begun.flush_all.Given as goal

-- the names are as before
abbrev pub invariant-loop-i : goal.invariant-loop-i
invariant-loop-i g l = map (λ b. string_bytes b.name) l.begun ≡ map (λ b. string_bytes b.name) l.fn.begun
