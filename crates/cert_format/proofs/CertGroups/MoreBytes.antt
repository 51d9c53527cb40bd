-- What is read of bytes is read of them with more bytes behind, and so is a fault, unless bytes are lacking.
use Rattle.std.proofs.Common.{◌≡◌, ℕ, zero, suc, ◌+◌, Bool, true, false, not, ltb, ◌==◌, ◌||◌, List, ◌∷◌, ◌++◌, length, Option, Some, None, Result, Ok, Err, refl, sym, subst, inl, inr, arith}
use Rattle.std.specs.Int.{Width, w16, w32, byte_len}
use Rattle.std.proofs.lemmas.Bool.{cases_lt, le-ltb, lt-ltb}
use Rattle.std.proofs.lemmas.List.{length-append, take-append-le, drop-append-le}
use Rattle.sight_names.specs.Limits.{most_triangles}
use Rattle.sight_names.specs.declared.faults.CertFault.{CertFault}
use Rattle.sight_names.specs.declared.faults.CertFault.TheVariants as faults
use Rattle.cert_format.specs.declared.cert.Sizes.{Sizes}
use Rattle.cert_format.specs.Reading.{◌>>=◌, RecordCounts, begins_at, passed, number_at, number_below, number_known, cert_magic, magic_at, comes_after, triangle_count_at, counts_at, records_at}
use Rattle.cert_format.specs.declared.cert_groups.cert.FrontTwo.{FrontTwo}
use Rattle.cert_format.specs.CertGroups.Reading.{version_at, group_count_at, size_at, sector_at, sectors_at, group_after, group_at, groups_at, sizes_at, front_two_at}

-- a fault that is told again, unless it is that bytes are lacking
abbrev pub IsToldAgain : {A : Type 0} → CertFault → Result A CertFault → Type 0
IsToldAgain (faults.Short at) read = Unit {0}
IsToldAgain f read = read ≡ Err f

-- the other reading gives the same, with the bytes behind it turned so
abbrev pub Stays : {A : Type 0} → (A → A) → Result A CertFault → Result A CertFault → Type 0
Stays turned (Ok x) read = read ≡ Ok (turned x)
Stays turned (Err f) read = IsToldAgain f read

abbrev pub longer : List ℕ → List ℕ → List ℕ
longer more rest = rest ++ more

abbrev pub with_longer : {X : Type 0} → List ℕ → X × List ℕ → X × List ℕ
with_longer more x = (x.0, x.1 ++ more)

-- a fault's place stays
pub place_stays : (total : ℕ) (bytes more : List ℕ) → begins_at (total + length more) (bytes ++ more) ≡ begins_at total bytes
place_stays total bytes more = omega (arith, length-append bytes more)

-- ---- steps

fault_stays : {A : Type 0} (f : CertFault) (read : Result A CertFault) → read ≡ Err f → IsToldAgain f read
fault_stays (faults.Short at) read e = tt
fault_stays f read e = e

fault_then : {A B : Type 0} (f : CertFault) (read : Result A CertFault) (next : A → Result B CertFault) → IsToldAgain f read → IsToldAgain f (read >>= next)
fault_then (faults.Short at) read next s = tt
fault_then f read next s = rw s refl

pub stays_then : {A B : Type 0} (turned : A → A) (over : B → B) (r read : Result A CertFault) (next later : A → Result B CertFault) → Stays turned r read → ((x : A) → Stays over (next x) (later (turned x))) → Stays over (r >>= next) (read >>= later)
stays_then turned over (Ok x) read next later s h = rw s (h x)
stays_then turned over (Err f) read next later s h = fault_then f read later s

test_stays : {A : Type 0} (turned : A → A) (b : Bool) (fault : CertFault) (x y : A) → y ≡ turned x → Stays turned (passed b fault x) (passed b fault y)
test_stays turned true fault x y e = rw e refl
test_stays turned false fault x y e = fault_stays fault (Err fault) refl

-- ---- fields

module _ (more : List ℕ) where
  pub number_stays : (w : Width) (total : ℕ) (bytes : List ℕ) → Stays (with_longer more) (number_at w total bytes) (number_at w (total + length more) (bytes ++ more))
  number_stays w total bytes = elim (cases_lt (length bytes) (byte_len w)) [
    | inl lt ↦ rw (lt-ltb _ _ lt) tt
    | inr le ↦
        let long : ltb (length bytes) (byte_len w) ≡ false = le-ltb _ _ le in
        let still_long : ltb (length (bytes ++ more)) (byte_len w) ≡ false = le-ltb _ _ (omega (arith, le, length-append bytes more)) in
        rw (long, still_long, take-append-le (byte_len w) bytes more le, drop-append-le (byte_len w) bytes more le) refl
  ]

  -- a number that passes a test
  module _ {A : Type 0} (turned : A → A) (w : Width) (test : ℕ → Bool) (fault : ℕ → CertFault) (made : ℕ × List ℕ → A) (is_made : (n : ℕ × List ℕ) → made (n.0, n.1 ++ more) ≡ turned (made n)) where
    abbrev field : ℕ → ℕ → List ℕ → Result A CertFault
    field at total bytes = number_at w total bytes >>= λ n. passed (test n.0) (fault at) (made n)

    field_stays : (total : ℕ) (bytes : List ℕ) → Stays turned (field (begins_at total bytes) total bytes) (field (begins_at (total + length more) (bytes ++ more)) (total + length more) (bytes ++ more))
    field_stays total bytes =
        let at = begins_at total bytes in
        let next : ℕ × List ℕ → Result A CertFault = λ n. passed (test n.0) (fault at) (made n) in
        subst (λ (k : ℕ). Stays turned (field at total bytes) (field k (total + length more) (bytes ++ more))) {x = at} (sym (place_stays total bytes more))
        (stays_then (with_longer more) turned (number_at w total bytes) (number_at w (total + length more) (bytes ++ more)) next next (number_stays w total bytes) (λ n. test_stays turned (test n.0) (fault at) (made n) (made (n.0, n.1 ++ more)) (is_made n)))

  -- only the bytes behind it are given
  pub known_field : (w : Width) (test : ℕ → Bool) (fault : ℕ → CertFault) (total : ℕ) (bytes : List ℕ)
      → Stays (longer more) (field (longer more) w test fault (λ n. n.1) (λ n. refl) (begins_at total bytes) total bytes)
      (field (longer more) w test fault (λ n. n.1) (λ n. refl) (begins_at (total + length more) (bytes ++ more)) (total + length more) (bytes ++ more))
  known_field w test fault = field_stays (longer more) w test fault (λ n. n.1) (λ n. refl)

  number_field : (w : Width) (test : ℕ → Bool) (fault : ℕ → CertFault) (total : ℕ) (bytes : List ℕ)
      → Stays (with_longer more) (field (with_longer more) w test fault (λ n. n) (λ n. refl) (begins_at total bytes) total bytes)
      (field (with_longer more) w test fault (λ n. n) (λ n. refl) (begins_at (total + length more) (bytes ++ more)) (total + length more) (bytes ++ more))
  number_field w test fault = field_stays (with_longer more) w test fault (λ n. n) (λ n. refl)

  -- ---- the header

  pub magic_stays : (total : ℕ) (bytes : List ℕ) → Stays (longer more) (magic_at total bytes) (magic_at (total + length more) (bytes ++ more))
  unfolding magic_at
  magic_stays total bytes = known_field w32 (λ n. n == cert_magic) (λ at. faults.BadMagic) total bytes

  known_stays : (known total : ℕ) (bytes : List ℕ) → Stays (longer more) (number_known known total bytes) (number_known known (total + length more) (bytes ++ more))
  unfolding number_known
  known_stays known total bytes = known_field w16 (λ n. n == known) (λ at. faults.OutOfRange at) total bytes

  below_stays : (limit total : ℕ) (bytes : List ℕ) → Stays (with_longer more) (number_below limit total bytes) (number_below limit (total + length more) (bytes ++ more))
  unfolding number_below
  below_stays limit total bytes = number_field w16 (λ n. ltb n limit) (λ at. faults.OutOfRange at) total bytes

  pub version_stays : (total : ℕ) (bytes : List ℕ) → Stays (with_longer more) (version_at total bytes) (version_at (total + length more) (bytes ++ more))
  unfolding version_at
  version_stays total bytes =
      let next : ℕ → List ℕ → Result (ℕ × List ℕ) CertFault = λ n m. number_at w16 n m >>= λ v. passed (v.0 == 1 || v.0 == 2) faults.BadVersion v in
      stays_then (longer more) (with_longer more) (magic_at total bytes) (magic_at (total + length more) (bytes ++ more)) (next total) (next (total + length more)) (magic_stays total bytes)
      (λ m. number_field w16 (λ n. n == 1 || n == 2) (λ at. faults.BadVersion) total m)

  pub sizes_stay : (sizes : Sizes) (total : ℕ) (bytes : List ℕ) → Stays (longer more) (sizes_at sizes total bytes) (sizes_at sizes (total + length more) (bytes ++ more))
  unfolding sizes_at
  sizes_stay sizes total bytes =
      let last : ℕ → List ℕ → Result (List ℕ) CertFault = λ n rest. number_known sizes.lines n rest in
      let next : ℕ → List ℕ → Result (List ℕ) CertFault = λ n rest. number_known sizes.points n rest >>= last n in
      let long = total + length more in
      stays_then (longer more) (longer more) (number_known sizes.sectors total bytes) (number_known sizes.sectors long (bytes ++ more)) (next total) (next long) (known_stays sizes.sectors total bytes)
      (λ a. stays_then (longer more) (longer more) (number_known sizes.points total a) (number_known sizes.points long (a ++ more)) (last total) (last long) (known_stays sizes.points total a) (λ b. known_stays sizes.lines total b))

  pub group_count_stays : (points total : ℕ) (bytes : List ℕ) → Stays (with_longer more) (group_count_at points total bytes) (group_count_at points (total + length more) (bytes ++ more))
  unfolding group_count_at
  group_count_stays points total bytes = number_field w16 (λ n. not (ltb (most_triangles points) n)) (λ at. faults.OutOfRange at) total bytes

  pub triangle_count_stays : (points total : ℕ) (bytes : List ℕ) → Stays (with_longer more) (triangle_count_at points total bytes) (triangle_count_at points (total + length more) (bytes ++ more))
  unfolding triangle_count_at
  triangle_count_stays points total bytes = number_field w32 (λ n. not (ltb (most_triangles points) n)) (λ at. faults.OutOfRange at) total bytes

  abbrev counted : ℕ → ℕ → ℕ → ℕ → RecordCounts
  counted triangles rays listed trees = record { triangles = triangles; rays = rays; listed = listed; trees = trees }

  abbrev with_three : ℕ → ℕ → ℕ → ℕ → List ℕ → Result (RecordCounts × List ℕ) CertFault
  with_three t r l total bytes = number_at w32 total bytes >>= λ d. Ok (counted t r l d.0, d.1)

  abbrev with_two : ℕ → ℕ → ℕ → List ℕ → Result (RecordCounts × List ℕ) CertFault
  with_two t r total bytes = number_at w32 total bytes >>= λ l. with_three t r l.0 total l.1

  abbrev with_one : ℕ → ℕ → List ℕ → Result (RecordCounts × List ℕ) CertFault
  with_one t total bytes = number_at w32 total bytes >>= λ r. with_two t r.0 total r.1

  counts_stay : (points total : ℕ) (bytes : List ℕ) → Stays (with_longer more) (counts_at points total bytes) (counts_at points (total + length more) (bytes ++ more))
  unfolding counts_at
  counts_stay points total bytes =
      let long = total + length more in
      stays_then (with_longer more) (with_longer more) (triangle_count_at points total bytes) (triangle_count_at points long (bytes ++ more)) (λ t. with_one t.0 total t.1) (λ t. with_one t.0 long t.1) (triangle_count_stays points total bytes) (λ t.
      stays_then (with_longer more) (with_longer more) (number_at w32 total t.1) (number_at w32 long (t.1 ++ more)) (λ r. with_two t.0 r.0 total r.1) (λ r. with_two t.0 r.0 long r.1) (number_stays w32 total t.1) (λ r.
      stays_then (with_longer more) (with_longer more) (number_at w32 total r.1) (number_at w32 long (r.1 ++ more)) (λ l. with_three t.0 r.0 l.0 total l.1) (λ l. with_three t.0 r.0 l.0 long l.1) (number_stays w32 total r.1) (λ l.
      stays_then (with_longer more) (with_longer more) (number_at w32 total l.1) (number_at w32 long (l.1 ++ more)) (λ d. Ok (counted t.0 r.0 l.0 d.0, d.1)) (λ d. Ok (counted t.0 r.0 l.0 d.0, d.1)) (number_stays w32 total l.1) (λ d. refl))))

  -- ---- records one behind the other

  pub records_stay : {X K : Type 0} (one other : K → List ℕ → Result (X × List ℕ) CertFault) (key : X → K) → ((k : K) (bytes : List ℕ) → Stays (with_longer more) (one k bytes) (other k (bytes ++ more))) → (k : K) (n : ℕ) (bytes : List ℕ)
      → Stays (with_longer more) (records_at one key k n bytes) (records_at other key k n (bytes ++ more))
  unfolding records_at
  records_stay one other key h k zero bytes = refl
  records_stay one other key h k (suc n) bytes =
      stays_then (with_longer more) (with_longer more) (one k bytes) (other k (bytes ++ more)) (λ x. records_at one key (key x.0) n x.1 >>= λ xs. Ok (x.0 ∷ xs.0, xs.1)) (λ x. records_at other key (key x.0) n x.1 >>= λ xs. Ok (x.0 ∷ xs.0, xs.1)) (h k bytes) (λ x.
      stays_then (with_longer more) (with_longer more) (records_at one key (key x.0) n x.1) (records_at other key (key x.0) n (x.1 ++ more)) (λ xs. Ok (x.0 ∷ xs.0, xs.1)) (λ xs. Ok (x.0 ∷ xs.0, xs.1)) (records_stay one other key h (key x.0) n x.1) (λ xs. refl))

  -- ---- groups

  size_stays : (total : ℕ) (bytes : List ℕ) → Stays (with_longer more) (size_at total bytes) (size_at (total + length more) (bytes ++ more))
  unfolding size_at
  size_stays total bytes = number_field w16 (λ n. not (n == 0)) (λ at. faults.OutOfRange at) total bytes

  -- a record that is read is told where it begins if it is out of order
  sorted_stays : {X : Type 0} (test : X → Bool) (r read : Result (X × List ℕ) CertFault) (total : ℕ) (bytes : List ℕ) → Stays (with_longer more) r read
      → Stays (with_longer more) (r >>= λ x. passed (test x.0) (faults.NotSorted (begins_at total bytes)) x) (read >>= λ x. passed (test x.0) (faults.NotSorted (begins_at (total + length more) (bytes ++ more))) x)
  sorted_stays {X} test r read total bytes s =
      let at = begins_at total bytes in
      let next : ℕ → X × List ℕ → Result (X × List ℕ) CertFault = λ k x. passed (test x.0) (faults.NotSorted k) x in
      subst (λ (k : ℕ). Stays (with_longer more) (r >>= next at) (read >>= next k)) {x = at} (sym (place_stays total bytes more))
      (stays_then (with_longer more) (with_longer more) r read (next at) (next at) s (λ x. test_stays (with_longer more) (test x.0) (faults.NotSorted at) x (with_longer more x) refl))

  sector_stays : (sectors total : ℕ) (before : Option ℕ) (bytes : List ℕ) → Stays (with_longer more) (sector_at sectors total before bytes) (sector_at sectors (total + length more) before (bytes ++ more))
  unfolding sector_at
  sector_stays sectors total before bytes =
      sorted_stays (λ n. comes_after before n) (number_below sectors total bytes) (number_below sectors (total + length more) (bytes ++ more)) total bytes (below_stays sectors total bytes)

  pub group_stays : (sectors total : ℕ) (before : Option (List ℕ)) (bytes : List ℕ) → Stays (with_longer more) (group_at sectors total before bytes) (group_at sectors (total + length more) before (bytes ++ more))
  unfolding group_at
  group_stays sectors total before bytes =
      let long = total + length more in
      let at = begins_at total bytes in
      let next : ℕ → ℕ → ℕ × List ℕ → Result (List ℕ × List ℕ) CertFault = λ k n count. sectors_at sectors n None count.0 count.1 >>= λ g. passed (group_after before g.0) (faults.NotSorted k) g in
      subst (λ (k : ℕ). Stays (with_longer more) (size_at total bytes >>= next at total) (size_at long (bytes ++ more) >>= next k long)) {x = at} (sym (place_stays total bytes more)) (
      stays_then (with_longer more) (with_longer more) (size_at total bytes) (size_at long (bytes ++ more)) (next at total) (next at long) (size_stays total bytes) (λ count.
      stays_then (with_longer more) (with_longer more) (sectors_at sectors total None count.0 count.1) (sectors_at sectors long None count.0 (count.1 ++ more)) (λ g. passed (group_after before g.0) (faults.NotSorted at) g) (λ g. passed (group_after before g.0) (faults.NotSorted at) g)
      (records_stay (sector_at sectors total) (sector_at sectors long) (λ n. Some n) (sector_stays sectors total) None count.0 count.1) (λ g. test_stays (with_longer more) (group_after before g.0) (faults.NotSorted at) g (with_longer more g) refl)))

  -- ---- the front

  module _ (sizes : Sizes) where
    abbrev made : ℕ → RecordCounts → List (List ℕ) × List ℕ → Result (FrontTwo × List ℕ) CertFault
    made count counts groups = Ok (
      record {
        sizes = record { sectors = count; points = sizes.points; lines = sizes.lines };
        groups = groups.0;
        counts = record { triangles = counts.triangles; rays = counts.rays; listed = counts.listed; trees = counts.trees };
      },
      groups.1,
    )

    abbrev with_counts : ℕ → ℕ → RecordCounts × List ℕ → Result (FrontTwo × List ℕ) CertFault
    with_counts total count counts = groups_at sizes.sectors total None count counts.1 >>= made count counts.0

    abbrev with_count : ℕ → ℕ × List ℕ → Result (FrontTwo × List ℕ) CertFault
    with_count total count = counts_at sizes.points total count.1 >>= with_counts total count.0

    abbrev with_sizes : ℕ → List ℕ → Result (FrontTwo × List ℕ) CertFault
    with_sizes total front = group_count_at sizes.points total front >>= with_count total

    pub front_stays : (total : ℕ) (bytes : List ℕ) → Stays (with_longer more) (front_two_at sizes total bytes) (front_two_at sizes (total + length more) (bytes ++ more))
    unfolding front_two_at
    front_stays total bytes =
        let long = total + length more in
        stays_then (longer more) (with_longer more) (sizes_at sizes total bytes) (sizes_at sizes long (bytes ++ more)) (with_sizes total) (with_sizes long) (sizes_stay sizes total bytes) (λ front.
        stays_then (with_longer more) (with_longer more) (group_count_at sizes.points total front) (group_count_at sizes.points long (front ++ more)) (with_count total) (with_count long) (group_count_stays sizes.points total front) (λ count.
        stays_then (with_longer more) (with_longer more) (counts_at sizes.points total count.1) (counts_at sizes.points long (count.1 ++ more)) (with_counts total count.0) (with_counts long count.0) (counts_stay sizes.points total count.1) (λ counts.
        stays_then (with_longer more) (with_longer more) (groups_at sizes.sectors total None count.0 counts.1) (groups_at sizes.sectors long None count.0 (counts.1 ++ more)) (made count.0 counts.0) (made count.0 counts.0)
        (records_stay (group_at sizes.sectors total) (group_at sizes.sectors long) (λ g. Some g) (group_stays sizes.sectors total) None count.0 counts.1) (λ groups. refl))))
