-- What comes before the parts of a certificate of version 3.
use Rattle.std.specs.Prelude.{ℕ, List, None, Result, Ok}
use Rattle.sight_names.specs.declared.faults.CertFault.{CertFault}
use Rattle.cert_format.specs.declared.cert.Sizes.{Sizes}
use Rattle.cert_format.specs.Reading.{◌>>=◌}
use Rattle.cert_format.specs.CertGroups.Reading.{sizes_at, groups_at}
use Rattle.certificates.specs.CertExact.Reading.{version_at, counts_at, with_sectors}
use Rattle.certificates.specs.declared.exact_parts.front.FrontThree.{FrontThree}

-- the header and the groups; the sizes have the groups as sectors
unfoldable pub front_at : Sizes → ℕ → List ℕ → Result (FrontThree × List ℕ) CertFault
front_at sizes total bytes = do
  version ← version_at total bytes
  front ← sizes_at sizes total version
  counts ← counts_at sizes.points total front
  groups ← groups_at sizes.sectors total None counts.0.groups counts.1
  Ok (record { sizes = with_sectors sizes counts.0.groups; groups = groups.0; counts = counts.0 }, groups.1)
