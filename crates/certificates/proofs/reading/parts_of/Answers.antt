use Rattle.std.proofs.Common.{List, Result, subst}
use Rattle.sight_names.specs.declared.faults.CertFault.{CertFault}
use Rattle.cert_format.specs.Reading.{GivesCert}
use Rattle.certificates.specs.declared.cert_parts.part.Part.{Part}
use Rattle.certificates.specs.CertParts.Gathered.{all_with, nothing_gathered}
use Rattle.certificates.proofs.reading.parts_of.Goals as goal

pub returns-clause-all : goal.returns-clause-all
returns-clause-all c = subst (λ (left : Result (List Part) CertFault). GivesCert (λ g. g) c.gather.result (all_with nothing_gathered left)) (c.new.ensures.parts c.args.bytes.now) c.gather.ensures
