-- What is read of a WAD that was written with another REJECT.
use Rattle.std.specs.Prelude.{◌≡◌, ℕ, ◌^◌, ◌<◌, List, length, false, Ok, codes}
use Rattle.wad_dir.specs.declared.parts.MapSpot.{MapSpot}
use Rattle.wad_dir.specs.Kept.{IsMapKept}
use Rattle.wad_dir.specs.Map.{same_name, spot_of}
use Rattle.wad_dir.specs.Print.{with_reject}
use Rattle.wad_dir.specs.Wad.{WadFile, names_of_lumps, wad_of}
use Rattle.wad_dir.specs.WadRewrite.Rewrite.{printed}

-- it is read as what was written, in which the map is found with the same lumps and this REJECT, and all else is as it was
pub record IsReadAgain (w : WadFile) (name : List ℕ) (spot : MapSpot) (table bytes : List ℕ) : Type 0 where
  pub read : wad_of bytes ≡ Ok (with_reject w spot table)
  pub short : length bytes < 2 ^ 31
  pub kept : IsMapKept name spot table w (with_reject w spot table)

-- Of every file, map and REJECT. A map that is itself called REJECT and has none is lost behind the one that is put in.
abbrev pub RewrittenIsRead : Type 0
RewrittenIsRead = (file : List ℕ) (w : WadFile) (name : List ℕ) (spot : MapSpot) (table bytes : List ℕ)
    → wad_of file ≡ Ok w → spot_of (names_of_lumps w) name ≡ Ok spot → same_name (codes "REJECT") name ≡ false
    → printed (with_reject w spot table) ≡ Ok bytes → IsReadAgain w name spot table bytes
