use Rattle.std.proofs.Common.{◌≡◌, length}
use Rattle.certificates.specs.CertParts.Gathered.{gathered_from, nothing_gathered}
use Rattle.certificates.specs.CertParts.Left.{IsCountable}
use Rattle.certificates.proofs.cert_parts.gathered.gather.Given as goal

abbrev pub decreases-rest : goal.decreases-rest
decreases-rest l = length l.rest

abbrev pub invariant-rest : goal.invariant-rest
invariant-rest l = record {
  countable : IsCountable l.reader l.rest;
  same : gathered_from nothing_gathered l.initial.reader l.bytes ≡ gathered_from l.parts l.reader l.rest;
}
