-- The certificate of a square with a square sector inside, whose ring touches both: these 100 bytes of version 2.
use Rattle.std.proofs.Common.{◌≡◌, ℕ, List, [], ◌∷◌, refl}
use Rattle.cert_format.specs.declared.cert.Labelled.{Labelled}
use Rattle.cert_format.specs.declared.cert.Sizes.{Sizes}
use Rattle.cert_format.specs.declared.cert_groups.cert.CertTwo.{CertTwo}
use Rattle.cert_format.specs.CertGroups.Grammar.{spelling}

abbrev pub labelled : ℕ → ℕ → ℕ → Labelled
labelled p q r = record { triangle = record { p = p; q = q; r = r }; sector = 0 }

abbrev pub sizes : Sizes
sizes = record { sectors = 2; points = 8; lines = 8 }

-- one group of both sectors
abbrev pub cert : CertTwo
cert = record {
  groups = (0 ∷ 1 ∷ []) ∷ [];
  cert = record {
    sizes = record { sectors = 1; points = 8; lines = 8 };
    triangles = labelled 0 2 3 ∷ labelled 0 3 1 ∷ labelled 0 4 2 ∷ labelled 0 6 4 ∷ labelled 1 3 5 ∷ labelled 1 5 7 ∷ labelled 4 6 7 ∷ labelled 4 7 5 ∷ [];
    rays = [];
    listed = [];
    trees = [];
  };
  listed = [];
}

abbrev pub bytes : List ℕ
bytes = 68 ∷ 83 ∷ 67 ∷ 84 ∷ 2 ∷ 0 ∷ 2 ∷ 0 ∷ 8 ∷ 0 ∷ 8 ∷ 0 ∷ 1 ∷ 0 ∷ 8 ∷ 0 ∷ 0 ∷ 0 ∷ 0 ∷ 0 ∷ 0 ∷ 0 ∷ 0 ∷ 0 ∷ 0 ∷ 0 ∷ 0 ∷ 0 ∷ 0 ∷ 0 ∷ 2 ∷ 0 ∷ 0 ∷ 0 ∷ 1 ∷ 0 ∷ 0 ∷ 0 ∷ 2 ∷ 0 ∷ 3 ∷ 0 ∷ 0 ∷ 0 ∷ 0 ∷ 0 ∷ 3 ∷ 0 ∷ 1 ∷ 0 ∷ 0 ∷ 0 ∷ 0 ∷ 0 ∷ 4 ∷ 0 ∷ 2 ∷ 0 ∷ 0 ∷ 0 ∷ 0 ∷ 0 ∷ 6 ∷ 0 ∷ 4 ∷ 0 ∷ 0 ∷ 0 ∷ 1 ∷ 0 ∷ 3 ∷ 0 ∷ 5 ∷ 0 ∷ 0 ∷ 0 ∷ 1 ∷ 0 ∷ 5 ∷ 0 ∷ 7 ∷ 0 ∷ 0 ∷ 0 ∷ 4 ∷ 0 ∷ 6 ∷ 0 ∷ 7 ∷ 0 ∷ 0 ∷ 0 ∷ 4 ∷ 0 ∷ 7 ∷ 0 ∷ 5 ∷ 0 ∷ 0 ∷ 0 ∷ []

pub spelled : spelling sizes cert ≡ bytes
unfolding spelling
spelled = refl
