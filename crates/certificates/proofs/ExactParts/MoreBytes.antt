-- What is read of the front of version 3 is read of it with more bytes behind, and so is a fault, unless bytes are lacking.
use Rattle.std.proofs.Common.{ℕ, ◌+◌, ◌==◌, List, ◌++◌, length, Some, None, Result, Ok, refl}
use Rattle.std.specs.Int.{w16, w32}
use Rattle.sight_names.specs.declared.faults.CertFault.{CertFault}
use Rattle.sight_names.specs.declared.faults.CertFault.TheVariants as faults
use Rattle.cert_format.specs.declared.cert.Sizes.{Sizes}
use Rattle.cert_format.specs.Reading.{◌>>=◌, passed, number_at, magic_at, triangle_count_at}
use Rattle.cert_format.specs.CertGroups.Reading.{group_count_at, group_at, groups_at, sizes_at}
use Rattle.cert_format.proofs.CertGroups.MoreBytes.{Stays, longer, with_longer, stays_then, number_stays, known_field, magic_stays, sizes_stay, group_count_stays, triangle_count_stays, records_stay, group_stays}
use Rattle.certificates.specs.declared.cert_exact.cert.CountsThree.{CountsThree}
use Rattle.certificates.specs.CertExact.Reading.{version_at, counts_at, with_sectors}
use Rattle.certificates.specs.declared.exact_parts.front.FrontThree.{FrontThree}
use Rattle.certificates.specs.ExactParts.Front.{front_at}

module _ (more : List ℕ) where
  -- ---- the header of version 3

  version_stays : (total : ℕ) (bytes : List ℕ) → Stays (longer more) (version_at total bytes) (version_at (total + length more) (bytes ++ more))
  unfolding version_at
  version_stays total bytes =
      let next : ℕ → List ℕ → Result (List ℕ) CertFault = λ n m. number_at w16 n m >>= λ v. passed (v.0 == 3) faults.BadVersion v.1 in
      stays_then (longer more) (longer more) (magic_at total bytes) (magic_at (total + length more) (bytes ++ more)) (next total) (next (total + length more)) (magic_stays more total bytes)
      (λ m. known_field more w16 (λ n. n == 3) (λ at. faults.BadVersion) total m)

  abbrev counted : ℕ → ℕ → ℕ → CountsThree
  counted groups triangles rays = record { groups = groups; triangles = triangles; rays = rays }

  abbrev with_two : ℕ → ℕ → ℕ → List ℕ → Result (CountsThree × List ℕ) CertFault
  with_two g t total bytes = number_at w32 total bytes >>= λ r. Ok (counted g t r.0, r.1)

  abbrev with_one : ℕ → ℕ → ℕ → List ℕ → Result (CountsThree × List ℕ) CertFault
  with_one points g total bytes = triangle_count_at points total bytes >>= λ t. with_two g t.0 total t.1

  counts_stay : (points total : ℕ) (bytes : List ℕ) → Stays (with_longer more) (counts_at points total bytes) (counts_at points (total + length more) (bytes ++ more))
  unfolding counts_at
  counts_stay points total bytes =
      let long = total + length more in
      stays_then (with_longer more) (with_longer more) (group_count_at points total bytes) (group_count_at points long (bytes ++ more)) (λ g. with_one points g.0 total g.1) (λ g. with_one points g.0 long g.1) (group_count_stays more points total bytes) (λ g.
      stays_then (with_longer more) (with_longer more) (triangle_count_at points total g.1) (triangle_count_at points long (g.1 ++ more)) (λ t. with_two g.0 t.0 total t.1) (λ t. with_two g.0 t.0 long t.1) (triangle_count_stays more points total g.1) (λ t.
      stays_then (with_longer more) (with_longer more) (number_at w32 total t.1) (number_at w32 long (t.1 ++ more)) (λ r. Ok (counted g.0 t.0 r.0, r.1)) (λ r. Ok (counted g.0 t.0 r.0, r.1)) (number_stays more w32 total t.1) (λ r. refl)))

  -- ---- the front of version 3

  module _ (sizes : Sizes) where
    abbrev made : CountsThree → List (List ℕ) × List ℕ → Result (FrontThree × List ℕ) CertFault
    made counts groups = Ok (record { sizes = with_sectors sizes counts.groups; groups = groups.0; counts = counts }, groups.1)

    abbrev with_counts : ℕ → CountsThree × List ℕ → Result (FrontThree × List ℕ) CertFault
    with_counts total counts = groups_at sizes.sectors total None counts.0.groups counts.1 >>= made counts.0

    abbrev with_sizes : ℕ → List ℕ → Result (FrontThree × List ℕ) CertFault
    with_sizes total front = counts_at sizes.points total front >>= with_counts total

    abbrev with_version : ℕ → List ℕ → Result (FrontThree × List ℕ) CertFault
    with_version total version = sizes_at sizes total version >>= with_sizes total

    pub front_stays : (total : ℕ) (bytes : List ℕ) → Stays (with_longer more) (front_at sizes total bytes) (front_at sizes (total + length more) (bytes ++ more))
    unfolding front_at
    front_stays total bytes =
        let long = total + length more in
        stays_then (longer more) (with_longer more) (version_at total bytes) (version_at long (bytes ++ more)) (with_version total) (with_version long) (version_stays total bytes) (λ version.
        stays_then (longer more) (with_longer more) (sizes_at sizes total version) (sizes_at sizes long (version ++ more)) (with_sizes total) (with_sizes long) (sizes_stay more sizes total version) (λ front.
        stays_then (with_longer more) (with_longer more) (counts_at sizes.points total front) (counts_at sizes.points long (front ++ more)) (with_counts total) (with_counts long) (counts_stay sizes.points total front) (λ counts.
        stays_then (with_longer more) (with_longer more) (groups_at sizes.sectors total None counts.0.groups counts.1) (groups_at sizes.sectors long None counts.0.groups (counts.1 ++ more)) (made counts.0) (made counts.0)
        (records_stay more (group_at sizes.sectors total) (group_at sizes.sectors long) (λ g. Some g) (group_stays more sizes.sectors total) None counts.0.groups counts.1) (λ groups. refl))))
