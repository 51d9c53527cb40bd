-- The header is a whole record.
use Rattle.std.proofs.Common.{◌≡◌, ℕ, ◌+◌, Bool, true, false, ltb, not, ◌==◌, List, ◌++◌, length, Result, Ok, Err, refl, sym, ap, ◌∙◌}
use Rattle.std.specs.Int.{Width, w16, w32, byte_len}
use Rattle.sight_names.specs.Limits.{most_triangles}
use Rattle.sight_names.specs.declared.faults.CertFault.{CertFault}
use Rattle.sight_names.specs.declared.faults.CertFault.TheVariants as faults
use Rattle.cert_format.specs.declared.cert.Sizes.{Sizes}
use Rattle.cert_format.specs.Reading.{◌>>=◌, begins_at, passed, number_at, number_known, cert_magic, magic_at, version_at, front_at, triangle_count_at, RecordCounts, counts_at}
use Rattle.certificates.specs.CertParts.Left.{header_at}
use Rattle.certificates.proofs.CertParts.Whole.{longer, value, tested, IsWhole, whole_then, whole_value, whole_number, whole_field}

-- ---- readers that only give the bytes behind what they read

abbrev none : Unit {0}
none = tt

abbrev with_none : Result (List ℕ) CertFault → Result (Unit {0} × List ℕ) CertFault
with_none read = read >>= λ rest. value none rest

-- such a reader takes so many bytes
abbrev IsKnown : (ℕ → List ℕ → Result (List ℕ) CertFault) → ℕ → Type 0
IsKnown p w = IsWhole (λ start total bytes. with_none (p total bytes)) w

module _ {X : Type 0} (p : ℕ → List ℕ → Result (List ℕ) CertFault) (q : ℕ → List ℕ → Result (X × List ℕ) CertFault) (w v : ℕ) (first : IsKnown p w) (second : IsWhole (λ start total bytes. q total bytes) v) where
  same_read : (total : ℕ) (r : Result (List ℕ) CertFault) → (r >>= λ rest. q total rest) ≡ (with_none r >>= λ x. q total x.1)
  same_read total (Ok rest) = refl
  same_read total (Err f) = refl

  both : IsWhole (λ start total bytes. with_none (p total bytes) >>= λ x. q total x.1) (w + v)
  both = whole_then (λ start total bytes. with_none (p total bytes)) (λ x start total bytes. q total bytes) w v first (λ x. second)

  pub known_then : IsWhole (λ start total bytes. p total bytes >>= λ rest. q total rest) (w + v)
  known_then = record {
    grows = λ start total bytes more le.
        same_read (total + length more) (p (total + length more) (bytes ++ more)) ∙ both.grows start total bytes more le ∙ ap (longer more) (sym (same_read total (p total bytes)));
    takes = λ start total bytes x e. both.takes start total bytes x (sym (same_read total (p total bytes)) ∙ e);
  }

module _ (p q : ℕ → List ℕ → Result (List ℕ) CertFault) (w v : ℕ) (first : IsKnown p w) (second : IsKnown q v) where
  same_known : (total : ℕ) (r : Result (List ℕ) CertFault) → with_none (r >>= λ rest. q total rest) ≡ (r >>= λ rest. with_none (q total rest))
  same_known total (Ok rest) = refl
  same_known total (Err f) = refl

  both_known : IsWhole (λ start total bytes. p total bytes >>= λ rest. with_none (q total rest)) (w + v)
  both_known = known_then p (λ total bytes. with_none (q total bytes)) w v first second

  pub then_known : IsKnown (λ total bytes. p total bytes >>= λ rest. q total rest) (w + v)
  then_known = record {
    grows = λ start total bytes more le.
        same_known (total + length more) (p (total + length more) (bytes ++ more)) ∙ both_known.grows start total bytes more le ∙ ap (longer more) (sym (same_known total (p total bytes)));
    takes = λ start total bytes x e. both_known.takes start total bytes x (sym (same_known total (p total bytes)) ∙ e);
  }

-- a number that passes a test
module _ (w : Width) (test : ℕ → Bool) (fault : ℕ → CertFault) where
  abbrev known : ℕ → List ℕ → Result (List ℕ) CertFault
  known total bytes = number_at w total bytes >>= λ n. passed (test n.0) (fault (begins_at total bytes)) n.1

  abbrev field : ℕ → List ℕ → Result (Unit {0} × List ℕ) CertFault
  field total bytes = number_at w total bytes >>= λ n. tested (test n.0) (fault (begins_at total bytes)) none n.1

  by_test : (b : Bool) (f : CertFault) (rest : List ℕ) → with_none (passed b f rest) ≡ tested b f none rest
  by_test true f rest = refl
  by_test false f rest = refl

  by_number : (total : ℕ) (bytes : List ℕ) (r : Result (ℕ × List ℕ) CertFault)
      → with_none (r >>= λ n. passed (test n.0) (fault (begins_at total bytes)) n.1) ≡ (r >>= λ n. tested (test n.0) (fault (begins_at total bytes)) none n.1)
  by_number total bytes (Ok n) = by_test (test n.0) (fault (begins_at total bytes)) n.1
  by_number total bytes (Err f) = refl

  same_field : (total : ℕ) (bytes : List ℕ) → with_none (known total bytes) ≡ field total bytes
  same_field total bytes = by_number total bytes (number_at w total bytes)

  as_field : IsWhole (λ start total bytes. field total bytes) (byte_len w + 0)
  as_field = whole_field w test fault (λ n. none)

  pub known_field : IsKnown known (byte_len w + 0)
  known_field = record {
    grows = λ start total bytes more le. same_field (total + length more) (bytes ++ more) ∙ as_field.grows start total bytes more le ∙ ap (longer more) (sym (same_field total bytes));
    takes = λ start total bytes x e. as_field.takes start total bytes x (sym (same_field total bytes) ∙ e);
  }

-- ---- magic, version and sizes

magic_known : IsKnown magic_at 4
unfolding magic_at
magic_known = known_field w32 (λ n. n == cert_magic) (λ at. faults.BadMagic)

version_known : IsKnown version_at 2
unfolding version_at
version_known = known_field w16 (λ n. n == 1) (λ at. faults.BadVersion)

size_known : (known : ℕ) → IsKnown (number_known known) 2
unfolding number_known
size_known known = known_field w16 (λ n. n == known) (λ at. faults.OutOfRange at)

module _ (sizes : Sizes) where
  abbrev two_sizes : ℕ → List ℕ → Result (List ℕ) CertFault
  two_sizes total bytes = number_known sizes.points total bytes >>= λ rest. number_known sizes.lines total rest

  abbrev three_sizes : ℕ → List ℕ → Result (List ℕ) CertFault
  three_sizes total bytes = number_known sizes.sectors total bytes >>= λ rest. two_sizes total rest

  abbrev behind_magic : ℕ → List ℕ → Result (List ℕ) CertFault
  behind_magic total bytes = version_at total bytes >>= λ rest. three_sizes total rest

  front_known : IsKnown (front_at sizes) 12
  unfolding front_at
  front_known =
      then_known magic_at behind_magic 4 8 magic_known (
      then_known version_at three_sizes 2 6 version_known (
      then_known (number_known sizes.sectors) two_sizes 2 4 (size_known sizes.sectors)
      (then_known (number_known sizes.points) (number_known sizes.lines) 2 2 (size_known sizes.points) (size_known sizes.lines))
      )
      )

-- ---- the counts

abbrev Reader : Type 0
Reader = ℕ → ℕ → List ℕ → Result (RecordCounts × List ℕ) CertFault

abbrev counts : ℕ → ℕ → ℕ → ℕ → RecordCounts
counts triangles rays listed trees = record { triangles = triangles; rays = rays; listed = listed; trees = trees }

abbrev with_three : ℕ → ℕ → ℕ → Reader
with_three triangles rays listed start total bytes = number_at w32 total bytes >>= λ trees. Ok (counts triangles rays listed trees.0, trees.1)

abbrev with_two : ℕ → ℕ → Reader
with_two triangles rays start total bytes = number_at w32 total bytes >>= λ listed. with_three triangles rays listed.0 start total listed.1

abbrev with_one : ℕ → Reader
with_one triangles start total bytes = number_at w32 total bytes >>= λ rays. with_two triangles rays.0 start total rays.1

three_then : (triangles rays listed : ℕ) → IsWhole (with_three triangles rays listed) 4
three_then triangles rays listed =
    whole_then (λ start total bytes. number_at w32 total bytes) (λ trees start total bytes. value (counts triangles rays listed trees) bytes) 4 0 (whole_number w32) (λ trees. whole_value (counts triangles rays listed trees))

two_then : (triangles rays : ℕ) → IsWhole (with_two triangles rays) 8
two_then triangles rays = whole_then (λ start total bytes. number_at w32 total bytes) (with_three triangles rays) 4 4 (whole_number w32) (three_then triangles rays)

one_then : (triangles : ℕ) → IsWhole (with_one triangles) 12
one_then triangles = whole_then (λ start total bytes. number_at w32 total bytes) (with_two triangles) 4 8 (whole_number w32) (two_then triangles)

triangle_count_whole : (points : ℕ) → IsWhole (λ start total bytes. triangle_count_at points total bytes) 4
unfolding triangle_count_at
triangle_count_whole points = whole_field w32 (λ n. not (ltb (most_triangles points) n)) (λ at. faults.OutOfRange at) (λ n. n)

counts_whole : (points : ℕ) → IsWhole (λ start total bytes. counts_at points total bytes) 16
unfolding counts_at
counts_whole points = whole_then (λ start total bytes. triangle_count_at points total bytes) with_one 4 12 (triangle_count_whole points) one_then

-- ---- both

pub header_whole : (sizes : Sizes) → IsWhole (λ start total bytes. header_at sizes total bytes) 28
unfolding header_at
header_whole sizes = known_then (front_at sizes) (counts_at sizes.points) 12 16 (front_known sizes) (counts_whole sizes.points)
