use Rattle.std.proofs.Common.{◌≡◌, ◌≤◌, ◌-◌, ◌++◌, length, take, drop}
use Rattle.cert_format.specs.CertGroups.Pieces.{front_left}
use Rattle.cert_format.proofs.cert_groups.front.Front.fill.Given as goal

abbrev pub invariant-loop-given : goal.invariant-loop-given
invariant-loop-given l =
    record {
      within : l.given ≤ length l.buf;
      room : length l.buf ≡ length l.fn.buf;
      spelled : front_left l.fn.self ≡ take l.given l.buf ++ front_left l.self;
      others : drop l.given l.buf ≡ drop l.given l.fn.buf;
    }

abbrev pub decreases-loop-given : goal.decreases-loop-given
decreases-loop-given l = length l.buf - l.given
