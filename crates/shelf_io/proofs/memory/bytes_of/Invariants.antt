use Rattle.std.proofs.Common.{◌≡◌, drop}
use Rattle.shelf_io.specs.Fakes.{files_of}
use Rattle.shelf_io.proofs.memory.bytes_of.Given as goal

-- the name is none of those so far
abbrev pub invariant-loop-file : goal.invariant-loop-file
invariant-loop-file l = files_of l.files l.name ≡ files_of (drop l.file-index l.files) l.name
