-- What is judged of a table by a certificate of any version.
use Rattle.std.specs.Prelude.{◌↔◌, List, ℕ}
use Rattle.sight_names.specs.Map.{Map}
use Rattle.reject_bits.specs.Parts.{TableParts}
use Rattle.cert_format.specs.Accepted.{labels_of, triangles_of}
use Rattle.cert_format.specs.declared.cert_groups.cert.CertTwo.{CertTwo}
use Rattle.cert_format.specs.declared.cert_groups.cert.AnyCert.{AnyCert}
use Rattle.cert_format.specs.declared.cert_groups.cert.AnyCert.TheVariants.{One, Two}
use Rattle.certificates.specs.declared.cert_exact.cert.ExactParts.{ExactParts}
use Rattle.certificates.specs.CertExact.Grammar.{as_two}
use Rattle.certificates.specs.declared.certificate.Certificate.{Certificate}
use Rattle.certificates.specs.declared.certificate.Certificate.TheVariants.{Listing, Exact}
use Rattle.certificates.specs.Reading.{certificate_at}
use Rattle.face_groups.specs.GroupsBase.Table.{NamesTheLabels}
use Rattle.cert_checker.specs.Judged.{JudgesRays, JudgesTrees}
use Rattle.cert_judge.specs.declared.judged.Judged.{Judged}
use Rattle.cert_judge.specs.Judged.{JudgedBy}
use Rattle.group_checker.specs.declared.verdict.AnyVerdict.{AnyVerdict}
use Rattle.group_checker.specs.Judged.{InWordsOfOne, IsYesAny, JudgesOne, TellsGroups, TellsMesh, TellsPairsOfTwo}
use Rattle.exact_checker.specs.Judged.{JudgesTreesOfThree, TellsPairsOfThree}
use Rattle.any_judge.specs.Accepted.{IsAccepted, TellsSight}
use Rattle.whole_wad.specs.Sizes.{sizes_of_map}

-- Of a certificate of version 2: the first fault in the order of mesh, groups, rays, trees and pairs, over the map with the same
-- lines whose sectors are the groups and whose sides name the labels of their triangles.
pub record JudgesTwoOf (m : Map) (t : TableParts) (c : CertTwo) (v : AnyVerdict) : Type 0 where
  pub g : Map
  pub names : NamesTheLabels m (triangles_of c.cert) c.groups (labels_of c.cert) g
  pub mesh : TellsMesh m g c v
  pub groups : TellsGroups m c v
  pub rays : InWordsOfOne (JudgesRays g c.cert) v
  pub trees : InWordsOfOne (JudgesTrees g c.cert) v
  pub pairs : InWordsOfOne (TellsPairsOfTwo g t c) v

-- .. of one of version 3, in the same order
pub record JudgesThreeOf (m : Map) (t : TableParts) (c : ExactParts) (v : AnyVerdict) : Type 0 where
  pub g : Map
  pub names : NamesTheLabels m (triangles_of (as_two c).cert) c.groups (labels_of (as_two c).cert) g
  pub mesh : TellsMesh m g (as_two c) v
  pub groups : TellsGroups m (as_two c) v
  pub rays : InWordsOfOne (JudgesRays g (as_two c).cert) v
  pub trees : InWordsOfOne (JudgesTreesOfThree g c) v
  pub pairs : InWordsOfOne (TellsPairsOfThree t (as_two c)) v

-- .. of one that lists pairs
abbrev pub JudgesListingOf : Map → TableParts → AnyCert → AnyVerdict → Type 0
JudgesListingOf m t (One c) v = JudgesOne m t c v
JudgesListingOf m t (Two c sizes) v = JudgesTwoOf m t c v

-- .. of one of any version
abbrev pub JudgesOf : Map → TableParts → Certificate → AnyVerdict → Type 0
JudgesOf m t (Listing c) v = JudgesListingOf m t c v
JudgesOf m t (Exact c) v = JudgesThreeOf m t c v

-- what is promised of a verdict on a table by a certificate
pub record IsJudgedOnMap (m : Map) (table : TableParts) (cert : Certificate) (verdict : AnyVerdict) : Type 0 where
  pub exact : JudgesOf m table cert verdict
  -- it is yes exactly where the certificate is accepted for the table, and then the table tells of sight
  pub accepted : IsYesAny verdict ↔ IsAccepted m table.bytes cert
  pub sight : IsYesAny verdict → TellsSight m table cert

-- the verdict by the certificate that the bytes spell for the map, or the first fault where they spell none
abbrev pub IsJudgementOnMap : Map → TableParts → List ℕ → Judged → Type 0
IsJudgementOnMap m table bytes given = JudgedBy (certificate_at (sizes_of_map m) bytes) (IsJudgedOnMap m table) given
