use Rattle.certificates.proofs.CertParts.UsualNodes.{four_read}
use Rattle.certificates.proofs.cert_parts.records.usual_ends.Goals as goal

pub returns-then-c-d-clause-read : goal.returns-then-c-d-clause-read
returns-then-c-d-clause-read c = λ total.
    four_read total c.from_le_bytes-a.result c.from_le_bytes-b.result c.from_le_bytes-c.result c.from_le_bytes-d.result c.args.bytes.now c.in-len8-up.len_at_least c.from_le_bytes-a.ensures c.from_le_bytes-b.ensures c.from_le_bytes-c.ensures c.from_le_bytes-d.ensures
    c.if-a-b.true c.if-b-c.true c.if-c-d.true
