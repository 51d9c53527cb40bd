use Rattle.std.proofs.Common.{◌≡◌, drop, string_bytes}
use Rattle.shelf_io.specs.Shelf.{is_named}
use Rattle.shelf_io.proofs.begun.index_of.Given as goal

-- the name is none of those so far
abbrev pub invariant-loop-i : goal.invariant-loop-i
invariant-loop-i g l = is_named (λ b. string_bytes b.name) l.begun l.name ≡ is_named (λ b. string_bytes b.name) (drop l.i l.begun) l.name
