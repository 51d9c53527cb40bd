use Rattle.std.proofs.Common.{◌≡◌, ◌-◌, Some, None}
use Rattle.cert_format.specs.Reading.{records_at}
use Rattle.cert_format.proofs.Loop.{with_front}
use Rattle.cert_format.specs.CertGroups.Reading.{sector_at, sectors_at}
use Rattle.cert_format.proofs.cert_groups.groups.sectors_of.Given as goal

abbrev pub invariant-loop : goal.invariant-loop
invariant-loop l = with_front l.group.items (records_at (sector_at l.sectors l.total) (λ t. Some t) l.last (l.count - l.counter) l.rest) ≡ sectors_at l.sectors l.total None l.count l.bytes
