-- The sizes of a certificate that is of version 2.
use Rattle.std.proofs.Common.{◌≡◌}
use Rattle.cert_format.specs.declared.cert.Sizes.{Sizes}
use Rattle.cert_format.specs.declared.cert_groups.cert.AnyCert.{AnyCert}
use Rattle.cert_format.specs.declared.cert_groups.cert.AnyCert.TheVariants.{One, Two}
use Rattle.cert_format.specs.CertGroups.Grammar.{sizes_of_listing}
use Rattle.group_job.specs.Built.{IsTwoOfSizes}

-- for a map of these sizes it has them
pub sizes_are : (s : Sizes) (cert : AnyCert) → IsTwoOfSizes s cert → sizes_of_listing cert ≡ s
sizes_are s (One c) h = absurd h
sizes_are s (Two c own) h = h
