use Rattle.std.proofs.Common.{◌≡◌, ◌++◌, drop}
use Rattle.map_picture.specs.Bytes.{escaped_text}
use Rattle.map_picture.proofs.words.push_escaped.Given as goal

abbrev pub invariant-loop-c : goal.invariant-loop-c
invariant-loop-c l = l.out.items ++ escaped_text (drop l.c-index l.text) ≡ l.fn.out.items ++ escaped_text l.text
