use Rattle.std.proofs.Common.{◌≡◌, ◌++◌, drop}
use Rattle.map_picture.specs.Bytes.{names_text}
use Rattle.map_picture.proofs.faces.push_names.Given as goal

abbrev pub invariant-loop-name : goal.invariant-loop-name
invariant-loop-name l = l.out.items ++ names_text (drop l.name-index l.names) ≡ l.fn.out.items ++ names_text l.names
