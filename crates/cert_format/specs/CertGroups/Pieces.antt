-- What a printer still has to give of the front of a certificate of version 2.
use Rattle.std.specs.Prelude.{ℕ, List, ◌++◌, flat_map}
use Rattle.block_evidence.specs.SightTree.Spelling.{u16}
use Rattle.cert_format.specs.CertGroups.Grammar.{group_bytes}

-- bytes of a record, sectors of a group, and whole groups
pub record FrontParts : Type 0 where
  pub begun : List ℕ
  pub sectors : List ℕ
  pub groups : List (List ℕ)

abbrev pub front_left : FrontParts → List ℕ
front_left f = f.begun ++ flat_map u16 f.sectors ++ flat_map group_bytes f.groups
