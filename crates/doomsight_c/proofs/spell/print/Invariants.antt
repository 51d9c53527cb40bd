use Rattle.std.proofs.Common.{◌≡◌, ◌≤◌, ◌+◌, [], ◌++◌, length, take}
use Rattle.certificates.specs.Grammar.{Spells, sizes_of_certificate}
use Rattle.doomsight_c.proofs.spell.print.Given as goal

-- what was written, the piece in hand and what is still to come
abbrev pub invariant-loop-count : goal.invariant-loop-count
invariant-loop-count l =
    record {
      spelled : Spells (sizes_of_certificate l.cert) (l.out.items ++ (take l.count l.piece ++ l.printer)) l.cert;
      last : l.count ≡ 0 → l.printer ≡ [];
      room : length l.piece ≡ 4096;
      within : l.count ≤ 4096;
    }

abbrev pub decreases-loop-count : goal.decreases-loop-count
decreases-loop-count l = l.count + length l.printer
