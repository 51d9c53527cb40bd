use Rattle.std.proofs.Common.{IsTrue}
use Rattle.triangulate.proofs.GroupLaws.WholeLaws.{bits_by_groups as lemma_bits}
use Rattle.triangulate.proofs.group_laws.laws.bits_by_groups.Goals as goal

pub returns : goal.returns
returns c = λ p ts h groups g its ls labelled budget seen bit bits. lemma_bits p h.plan h.faces ts h.mesh groups its.are g its.is ls labelled budget seen (λ f k. IsTrue (bit f k)) bits
