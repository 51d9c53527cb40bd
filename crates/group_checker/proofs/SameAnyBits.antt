-- What is said of the pairs of sectors goes by the bits of the table alone.
use Rattle.sight_names.specs.Groups.{IsInGroup}
use Rattle.sight_names.specs.Map.{Map}
use Rattle.reject_bits.specs.Parts.{TableParts}
use Rattle.cert_format.specs.declared.cert_groups.cert.CertTwo.{CertTwo}
use Rattle.cert_checker.specs.declared.verdict.Verdict.TheVariants.{Yes as YesOne, No as NoOne}
use Rattle.cert_checker.proofs.SameBits.{HaveOneBits, promised_same}
use Rattle.group_checker.specs.declared.verdict.AnyFault.TheVariants.{Check, Group, Unused}
use Rattle.group_checker.specs.declared.verdict.AnyVerdict.{AnyVerdict}
use Rattle.group_checker.specs.declared.verdict.AnyVerdict.TheVariants.{Yes, No}
use Rattle.group_checker.specs.Judged.{InWordsOfOne, TellsPairsOfTwo}

-- the same is promised of both
pub told_same : (m g : Map) (c : CertTwo) (t u : TableParts) → HaveOneBits m t u → (v : AnyVerdict) → InWordsOfOne (TellsPairsOfTwo g t c) v → InWordsOfOne (TellsPairsOfTwo g u c) v
told_same m g c t u same (Yes totals) h = promised_same m g (IsInGroup c.groups) c.listed c.cert t u same (YesOne totals) h
told_same m g c t u same (No (Check f)) h = promised_same m g (IsInGroup c.groups) c.listed c.cert t u same (NoOne f) h
told_same m g c t u same (No (Group k)) h = h
told_same m g c t u same (No (Unused f)) h = h
