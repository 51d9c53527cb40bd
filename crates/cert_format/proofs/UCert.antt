-- The certificate of U has these 161 bytes.
use Rattle.std.proofs.Common.{◌≡◌, ℕ, List, [], ◌∷◌, refl, pos, negsuc, true, false}
use Rattle.block_evidence.proofs.SightTree.UTree.{tree}
use Rattle.cert_format.specs.declared.cert.Labelled.{Labelled}
use Rattle.cert_format.specs.Parts.{CertParts}
use Rattle.cert_format.specs.Grammar.{spelling}

abbrev pub labelled : ℕ → ℕ → ℕ → ℕ → Labelled
labelled p q r sector = record { triangle = record { p = p; q = q; r = r }; sector = sector }

abbrev pub cert : CertParts
cert = record {
  sizes = record { sectors = 3; points = 10; lines = 12 };
  triangles = labelled 0 3 4 0 ∷ labelled 0 4 1 0 ∷ labelled 1 4 2 1 ∷ labelled 2 4 6 1 ∷ labelled 2 6 9 1 ∷ labelled 5 7 8 2 ∷ labelled 5 8 6 2 ∷ labelled 6 8 9 1 ∷ [];
  rays = record { pair = record { a = 0; b = 1 }; ray = record { first = record { line = 5; left = true }; last = record { line = 5; left = false }; a = negsuc 0; b = pos 0; c = pos 32 } }
      ∷ record { pair = record { a = 1; b = 2 }; ray = record { first = record { line = 3; left = false }; last = record { line = 3; left = true }; a = pos 1; b = pos 0; c = negsuc 159 } } ∷ [];
  listed = [];
  trees = tree ∷ [];
}

abbrev pub bytes : List ℕ
bytes = 68 ∷ 83 ∷ 67 ∷ 84 ∷ 1 ∷ 0 ∷ 3 ∷ 0 ∷ 10 ∷ 0 ∷ 12 ∷ 0 ∷ 8 ∷ 0 ∷ 0 ∷ 0 ∷ 2 ∷ 0 ∷ 0 ∷ 0 ∷ 0 ∷ 0 ∷ 0 ∷ 0 ∷ 1 ∷ 0 ∷ 0 ∷ 0 ∷ 0 ∷ 0 ∷ 3 ∷ 0 ∷ 4 ∷ 0 ∷ 0 ∷ 0 ∷ 0 ∷ 0 ∷ 4 ∷ 0 ∷ 1 ∷ 0 ∷ 0 ∷ 0 ∷ 1 ∷ 0 ∷ 4 ∷ 0 ∷ 2 ∷ 0 ∷ 1 ∷ 0 ∷ 2 ∷ 0 ∷ 4 ∷ 0 ∷ 6 ∷ 0 ∷ 1 ∷ 0 ∷ 2 ∷ 0 ∷ 6 ∷ 0 ∷ 9 ∷ 0 ∷ 1 ∷ 0 ∷ 5 ∷ 0 ∷ 7 ∷ 0 ∷ 8 ∷ 0 ∷ 2 ∷ 0 ∷ 5 ∷ 0 ∷ 8 ∷ 0 ∷ 6 ∷ 0 ∷ 2 ∷ 0 ∷ 6 ∷ 0 ∷ 8 ∷ 0 ∷ 9 ∷ 0 ∷ 1 ∷ 0 ∷ 0 ∷ 0 ∷ 1 ∷ 0 ∷ 5 ∷ 128 ∷ 5 ∷ 0 ∷ 255 ∷ 255 ∷ 255 ∷ 255 ∷ 0 ∷ 0 ∷ 0 ∷ 0 ∷ 32 ∷ 0 ∷ 0 ∷ 0 ∷ 0 ∷ 0 ∷ 0 ∷ 0 ∷ 1 ∷ 0 ∷ 2 ∷ 0 ∷ 3 ∷ 0 ∷ 3 ∷ 128 ∷ 1 ∷ 0 ∷ 0 ∷ 0 ∷ 0 ∷ 0 ∷ 0 ∷ 0 ∷ 96 ∷ 255 ∷ 255 ∷ 255 ∷ 255 ∷ 255 ∷ 255 ∷ 255 ∷ 0 ∷ 0 ∷ 5 ∷ 0 ∷ 0 ∷ 0 ∷ 0 ∷ 0 ∷ 0 ∷ 0 ∷ 0 ∷ 0 ∷ 0 ∷ 0 ∷ 3 ∷ 0 ∷ 0 ∷ 4 ∷ 0 ∷ 0 ∷ 128 ∷ []

pub spelled : spelling cert ≡ bytes
unfolding spelling
spelled = refl
