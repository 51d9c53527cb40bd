-- What bytes of version 1 or 2 begin with, whatever bytes come behind them.
use Rattle.std.proofs.Common.{◌≡◌, ◌≢◌, ℕ, ◌+◌, ◌≤◌, inl, inr, List, [], ◌++◌, length, Some, None, Result, Ok, Err, refl, sym, ap, subst, ◌∙◌, arith, codes}
use Rattle.std.specs.List.{flat_map}
use Rattle.std.proofs.lemmas.List.{length-append}
use Rattle.sight_names.specs.declared.faults.CertFault.{CertFault}
use Rattle.sight_names.specs.declared.faults.CertFault.TheVariants as faults
use Rattle.sight_names.specs.declared.names.Pair.{Pair}
use Rattle.sight_names.specs.declared.names.PairRay.{PairRay}
use Rattle.block_evidence.specs.SightTree.Spelling.{u16}
use Rattle.block_evidence.specs.declared.sight_tree.Tree.{Tree}
use Rattle.cert_format.specs.declared.cert.Sizes.{Sizes}
use Rattle.cert_format.specs.declared.cert.Labelled.{Labelled}
use Rattle.cert_format.specs.Parts.{CertParts}
use Rattle.cert_format.specs.Reading.{◌>>=◌, FailsCert, triangles_at, reading}
use Rattle.cert_format.proofs.FieldLaws.{IsBytes}
use Rattle.cert_format.proofs.WholeLaws.{count_bytes}
use Rattle.cert_format.specs.declared.cert_groups.cert.AnyCert.{AnyCert}
use Rattle.cert_format.specs.declared.cert_groups.cert.AnyCert.TheVariants.{One, Two}
use Rattle.cert_format.specs.declared.cert_groups.cert.FrontTwo.{FrontTwo}
use Rattle.cert_format.specs.CertGroups.Reading.{PartsTwo, version_at, front_two_at, parts_at, cert_two_of, two_read, any_at}
use Rattle.cert_format.specs.CertGroups.Grammar.{group_bytes}
use Rattle.cert_format.proofs.CertGroups.GroupLaws.{version_takes}
use Rattle.cert_format.proofs.CertGroups.FrontLaws.{counts_in, head_bytes, front_takes}
use Rattle.cert_format.proofs.CertGroups.MoreBytes.{IsToldAgain, Stays, with_longer, version_stays, front_stays}
use Rattle.cert_format.proofs.CertGroups.Versions.{one_or_two, read_as_one, read_as_two, no_version}
use Rattle.certificates.specs.declared.cert_parts.part.Part.{Part}
use Rattle.certificates.specs.CertParts.Parts.{parts_of_listing, reading_parts, two_parts_of, AnyParts, any_parts_of, reading_any_parts}
use Rattle.certificates.specs.CertParts.Left.{ReaderState, triangles_left, left_at, parts_left}
use Rattle.certificates.specs.CertParts.Steps.{two_awaited}
use Rattle.certificates.specs.CertParts.Beginning.{cut_at, parts_from, IsListingBegun}
use Rattle.certificates.proofs.CertParts.FromBeginning.{behind_triangles, by_triangles}
use Rattle.cert_format.proofs.Loop.{fails}

-- ---- faults

-- what is told of a fault that is no cut
told_again : {A : Type 0} (f g : CertFault) (read : Result A CertFault) → Err g ≡ cut_at f → IsToldAgain f read → read ≡ Err g
told_again (faults.Short at) g read e s = absurd cc
told_again f g read e s = cc

pub cut_is : (f : CertFault) (at : ℕ) → Ok at ≡ cut_at f → f ≡ faults.Short at
cut_is (faults.Short at) k e = cc
cut_is f k e = absurd cc

-- of memory nothing is told; of another fault all that is told is told of what is read
by_fault : {A B : Type 0} (f g : CertFault) (read : Result A CertFault) (again : Result A CertFault) (made : Result B CertFault) → Err g ≡ cut_at f → FailsCert f read → ((h : CertFault) → read ≡ Err h → IsToldAgain h again) → ((h : CertFault) → again ≡ Err h → made ≡ Err h) → FailsCert g made
by_fault (faults.Short at) g read again made e h stays tells = absurd cc
by_fault (faults.Memory u) g read again made e h stays tells = let same : faults.Memory u ≡ g = cc in subst (λ (k : CertFault). FailsCert k made) same tt
by_fault f g read again made e h stays tells = fails g made (tells g (told_again f g again e (stays f h)))

-- what stays is told again
stays_told : {A : Type 0} (turned : A → A) (r read : Result A CertFault) → Stays turned r read → (h : CertFault) → r ≡ Err h → IsToldAgain h read
stays_told {A} turned r read s h e = subst (λ (x : Result A CertFault). Stays turned x read) e s

stays_read : {A : Type 0} (turned : A → A) (r read : Result A CertFault) (x : A) → Stays turned r read → r ≡ Ok x → read ≡ Ok (turned x)
stays_read {A} turned r read x s e = subst (λ (y : Result A CertFault). Stays turned y read) e s

-- ---- what is read, as parts

unread : (sizes : Sizes) (bytes : List ℕ) (f : CertFault) → any_at sizes bytes ≡ Err f → reading_any_parts sizes bytes ≡ Err f
unread sizes bytes f e = rw e refl

one_parts : (r : Result CertParts CertFault) → ((r >>= λ c. Ok (One c)) >>= λ c. Ok (any_parts_of c)) ≡ ((r >>= λ c. Ok (parts_of_listing c)) >>= λ ps. Ok (None, ps))
one_parts (Ok c) = refl
one_parts (Err f) = refl

abbrev parts_in : PartsTwo → AnyParts
parts_in p = (Some p.groups, two_parts_of (cert_two_of p))

two_parts : (sizes : Sizes) (r : Result PartsTwo CertFault) → (((r >>= λ p. Ok (cert_two_of p)) >>= λ c. Ok (Two c sizes)) >>= λ c. Ok (any_parts_of c)) ≡ (r >>= λ p. Ok (parts_in p))
two_parts sizes (Ok p) = refl
two_parts sizes (Err f) = refl

module _ (sizes : Sizes) (n : ℕ) (f : FrontTwo) where
  abbrev cert : List Labelled → List PairRay → List Pair → List Tree → PartsTwo
  cert ts rs ps ds = record { sizes = f.sizes; groups = f.groups; triangles = ts; rays = rs; listed = ps; trees = ds }

  abbrev view : List Part → AnyParts
  view ps = (Some f.groups, ps)

  -- behind the groups
  behind_front : (bytes rest : List ℕ) → front_two_at sizes n bytes ≡ Ok (f, rest)
      → parts_at sizes n bytes ≡ (triangles_at f.sizes n None f.counts.triangles rest >>= behind_triangles f.sizes sizes n (counts_in f) cert parts_in view (λ ts rs ps ds. refl))
  unfolding parts_at
  behind_front bytes rest e = rw e refl

  parts_behind : (rest : List ℕ) → (triangles_left (two_awaited sizes f) n rest >>= λ ps. Ok (view ps))
      ≡ (triangles_at f.sizes n None f.counts.triangles rest >>= behind_triangles f.sizes sizes n (counts_in f) cert parts_in view (λ ts rs ps ds. refl)) >>= (λ p. Ok (parts_in p))
  unfolding triangles_left
  parts_behind rest = by_triangles f.sizes sizes n (counts_in f) cert parts_in view (λ ts rs ps ds. refl) (triangles_at f.sizes n None f.counts.triangles rest)

-- ---- with more bytes behind

module _ (sizes : Sizes) (bytes more : List ℕ) where
  long : length bytes + length more ≡ length (bytes ++ more)
  long = sym (length-append bytes more)

  version_again : Stays (with_longer more) (version_at (length bytes) bytes) (version_at (length (bytes ++ more)) (bytes ++ more))
  version_again = subst (λ (n : ℕ). Stays (with_longer more) (version_at (length bytes) bytes) (version_at n (bytes ++ more))) long (version_stays more (length bytes) bytes)

  front_again : (behind : List ℕ) → Stays (with_longer more) (front_two_at sizes (length bytes) behind) (front_two_at sizes (length (bytes ++ more)) (behind ++ more))
  front_again behind = subst (λ (n : ℕ). Stays (with_longer more) (front_two_at sizes (length bytes) behind) (front_two_at sizes n (behind ++ more))) long (front_stays more sizes (length bytes) behind)

  version_is : (n : ℕ) (behind : List ℕ) → version_at (length bytes) bytes ≡ Ok (n, behind) → version_at (length (bytes ++ more)) (bytes ++ more) ≡ Ok (n, behind ++ more)
  version_is n behind e = stays_read (with_longer more) (version_at (length bytes) bytes) (version_at (length (bytes ++ more)) (bytes ++ more)) (n, behind) version_again e

  -- ---- another version

  pub version_fault : (f g : CertFault) → version_at (length bytes) bytes ≡ Err f → Err g ≡ cut_at f → FailsCert g (reading_any_parts sizes (bytes ++ more))
  version_fault f g e cut =
      let again = version_at (length (bytes ++ more)) (bytes ++ more) in
      let same : again ≡ Err g = told_again f g again cut (stays_told (with_longer more) (version_at (length bytes) bytes) again version_again f e) in
      fails g (reading_any_parts sizes (bytes ++ more)) (unread sizes (bytes ++ more) g (no_version sizes (bytes ++ more) g same))

  -- ---- version 1

  pub one_read_on : (reader : ReaderState) (n : ℕ) (behind : List ℕ) → version_at (length bytes) bytes ≡ Ok (n, behind) → n ≢ 2 → parts_left reader (bytes ++ more) ≡ reading_parts sizes (bytes ++ more)
      → reading_any_parts sizes (bytes ++ more) ≡ parts_from None reader (bytes ++ more)
  one_read_on reader n behind e not_two left =
      let one : n ≡ 1 = elim (one_or_two (length bytes) bytes (n, behind) e) [ inl h ↦ h | inr h ↦ absurd (not_two h) ] in
      rw (read_as_one sizes (bytes ++ more) (behind ++ more) n one (version_is n behind e), left) (one_parts (reading sizes (bytes ++ more)))

  -- ---- version 2

  module _ (behind : List ℕ) (two : version_at (length bytes) bytes ≡ Ok (2, behind)) where
    as_two : any_at sizes (bytes ++ more) ≡ two_read sizes (length (bytes ++ more)) (behind ++ more)
    as_two = read_as_two sizes (bytes ++ more) (behind ++ more) (version_is 2 behind two)

    no_front : (h : CertFault) → front_two_at sizes (length (bytes ++ more)) (behind ++ more) ≡ Err h → reading_any_parts sizes (bytes ++ more) ≡ Err h
    unfolding parts_at
    no_front h e = unread sizes (bytes ++ more) h (as_two ∙ rw e refl)

    pub front_fault : (f g : CertFault) → FailsCert f (front_two_at sizes (length bytes) behind) → Err g ≡ cut_at f → FailsCert g (reading_any_parts sizes (bytes ++ more))
    front_fault f g h cut =
        let r = front_two_at sizes (length bytes) behind in
        let again = front_two_at sizes (length (bytes ++ more)) (behind ++ more) in
        by_fault f g r again (reading_any_parts sizes (bytes ++ more)) cut h (stays_told (with_longer more) r again (front_again behind)) no_front

    pub two_read_on : (f : FrontTwo) (rest : List ℕ) (reader : ReaderState) → front_two_at sizes (length bytes) behind ≡ Ok (f, rest) → reader.awaited ≡ two_awaited sizes f → reader.kept ≡ [] → reader.given + length rest ≡ length bytes
        → reading_any_parts sizes (bytes ++ more) ≡ parts_from (Some f.groups) reader (rest ++ more)
    unfolding parts_left left_at
    two_read_on f rest reader e awaited kept given =
        let n = length (bytes ++ more) in
        let again : front_two_at sizes n (behind ++ more) ≡ Ok (f, rest ++ more) = stays_read (with_longer more) (front_two_at sizes (length bytes) behind) (front_two_at sizes n (behind ++ more)) (f, rest) (front_again behind) e in
        let counted : reader.given + length (rest ++ more) ≡ n = omega (arith, given, length-append rest more, length-append bytes more) in
        ap (λ (r : Result AnyCert CertFault). r >>= λ c. Ok (any_parts_of c)) as_two
        ∙ two_parts sizes (parts_at sizes n (behind ++ more))
        ∙ ap (λ (r : Result PartsTwo CertFault). r >>= λ p. Ok (parts_in p)) (behind_front sizes n f (behind ++ more) (rest ++ more) again)
        ∙ sym (parts_behind sizes n f (rest ++ more))
        ∙ rw (awaited, kept, counted) refl

-- ---- what is told

module _ (sizes : Sizes) (bytes : List ℕ) where
  pub version_cut : (f : CertFault) (at : ℕ) → version_at (length bytes) bytes ≡ Err f → Ok at ≡ cut_at f → reading_any_parts sizes bytes ≡ Err (faults.Short at)
  version_cut f at e cut = unread sizes bytes (faults.Short at) (no_version sizes bytes (faults.Short at) (e ∙ ap (λ (h : CertFault). Err h) (cut_is f at cut)))

  pub one_begun : (reader : ReaderState) (n : ℕ) (behind : List ℕ) → version_at (length bytes) bytes ≡ Ok (n, behind) → n ≢ 2 → ((all : List ℕ) → parts_left reader all ≡ reading_parts sizes all) → reader.given ≡ 0 → IsListingBegun sizes bytes None reader bytes
  one_begun reader n behind e not_two left none = record {
    parts = λ more. one_read_on sizes bytes more reader n behind e not_two (left (bytes ++ more));
    given = omega (arith, none);
    in_order = tt;
  }

  module _ (behind : List ℕ) (two : version_at (length bytes) bytes ≡ Ok (2, behind)) where
    front_cut_is : (at : ℕ) → front_two_at sizes (length bytes) behind ≡ Err (faults.Short at) → reading_any_parts sizes bytes ≡ Err (faults.Short at)
    unfolding parts_at
    front_cut_is at e = unread sizes bytes (faults.Short at) (read_as_two sizes bytes behind two ∙ rw e refl)

    pub rest_within : (f : FrontTwo) (rest : List ℕ) → IsBytes bytes → IsBytes behind → front_two_at sizes (length bytes) behind ≡ Ok (f, rest) → length rest ≤ length bytes
    rest_within f rest all fits e =
        let v = (version_takes (length bytes) bytes (2, behind) all two).0 in
        let t = (front_takes sizes (length bytes) behind (f, rest) fits e).takes in
        omega (arith, ap length v.parts, ap length t.parts, length-append (codes "DSCT" ++ u16 2) behind, length-append (head_bytes sizes f.groups ++ count_bytes (counts_in f) ++ flat_map group_bytes f.groups) rest)

    pub front_cut : (f : CertFault) (at : ℕ) → FailsCert f (front_two_at sizes (length bytes) behind) → Ok at ≡ cut_at f → reading_any_parts sizes bytes ≡ Err (faults.Short at)
    front_cut f at h cut = front_cut_is at (subst (λ (g : CertFault). FailsCert g (front_two_at sizes (length bytes) behind)) (cut_is f at cut) h)

    pub two_begun : (f : FrontTwo) (rest : List ℕ) (reader : ReaderState) → IsBytes behind → front_two_at sizes (length bytes) behind ≡ Ok (f, rest) → reader.awaited ≡ two_awaited sizes f → reader.kept ≡ [] → reader.given + length rest ≡ length bytes
        → IsListingBegun sizes bytes (Some f.groups) reader rest
    two_begun f rest reader fits e awaited kept given = record {
      parts = λ more. two_read_on sizes bytes more behind two f rest reader e awaited kept given;
      given = given;
      in_order = (front_takes sizes (length bytes) behind (f, rest) fits e).in_order;
    }
