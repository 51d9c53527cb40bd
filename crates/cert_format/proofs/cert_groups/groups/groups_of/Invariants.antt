use Rattle.std.proofs.Common.{◌≡◌, ◌-◌, Some, None}
use Rattle.cert_format.specs.Reading.{records_at}
use Rattle.cert_format.proofs.Loop.{with_front}
use Rattle.cert_format.specs.CertGroups.Reading.{group_at, groups_at, last_of}
use Rattle.cert_format.proofs.cert_groups.groups.groups_of.Given as goal

abbrev pub invariant-loop : goal.invariant-loop
invariant-loop l = with_front l.groups.items (records_at (group_at l.sectors l.total) (λ g. Some g) (last_of l.groups.items) (l.count - l.counter) l.rest) ≡ groups_at l.sectors l.total None l.count l.bytes
