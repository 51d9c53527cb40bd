use Rattle.std.proofs.Common.{arith}
use Rattle.certificates.proofs.CertParts.First.{most_width}
use Rattle.certificates.proofs.cert_parts.reader.Reader.copied.Goals as goal

pub with-requires : goal.with-requires
with-requires c = omega (arith, c.self.invariant, most_width c.self.inside.awaited c.self.inside.kept)
