use Rattle.std.proofs.Common.{◌≡◌, ◌≤◌, ◌+◌, [], ◌++◌, length, take}
use Rattle.cert_format.proofs.cert_groups.writing.all_pieces.Given as goal

-- what was written, the piece in hand and what is still to come
abbrev pub invariant-loop-count : goal.invariant-loop-count
invariant-loop-count l =
    record {
      all : l.fn.printer ≡ l.out.items ++ (take l.count l.piece ++ l.left);
      last : l.count ≡ 0 → l.left ≡ [];
      room : length l.piece ≡ 4096;
      within : l.count ≤ 4096;
    }

abbrev pub decreases-loop-count : goal.decreases-loop-count
decreases-loop-count l = l.count + length l.left
