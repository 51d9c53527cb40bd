-- The parts of a certificate, gathered one after another, are the certificate.
use Rattle.std.proofs.Common.{◌≡◌, ℕ, List, [], ◌∷◌, ◌++◌, Option, Some, None, map, Result, Ok, Err, refl, sym, ◌∙◌, ap, subst, append_assoc}
use Rattle.std.specs.List.{flat_map}
use Rattle.std.specs.Option.{option_to_list}
use Rattle.std.proofs.lemmas.List.{append-nil}
use Rattle.sight_names.specs.declared.faults.CertFault.{CertFault}
use Rattle.sight_names.specs.declared.faults.CertFault.TheVariants as faults
use Rattle.sight_names.specs.declared.names.Pair.{Pair}
use Rattle.sight_names.specs.declared.names.PairRay.{PairRay}
use Rattle.block_evidence.specs.declared.sight_tree.Node.{Node}
use Rattle.block_evidence.specs.declared.sight_tree.Tree.{Tree}
use Rattle.cert_format.specs.declared.cert.Sizes.{Sizes}
use Rattle.cert_format.specs.declared.cert.Labelled.{Labelled}
use Rattle.cert_format.specs.Parts.{CertParts}
use Rattle.cert_format.specs.Grammar.{AreSmall, IsOneInOrder, SpellsOne}
use Rattle.cert_format.specs.Reading.{◌>>=◌, FailsCert, GivesCert, reading}
use Rattle.cert_format.proofs.Loop.{fails}
use Rattle.cert_format.proofs.FieldLaws.{IsBytes, bind_ok, ok_is}
use Rattle.cert_format.proofs.WholeLaws.{reading_takes}
use Rattle.cert_format.specs.declared.cert_groups.cert.AnyCert.{AnyCert}
use Rattle.cert_format.specs.declared.cert_groups.cert.AnyCert.TheVariants.{One, Two}
use Rattle.cert_format.specs.CertGroups.Grammar.{SpellsAny}
use Rattle.cert_format.specs.CertGroups.Reading.{any_at}
use Rattle.cert_format.proofs.CertGroups.AnyLaws.{any_takes}
use Rattle.certificates.specs.declared.cert_parts.part.Part.{Part}
use Rattle.certificates.specs.declared.cert_parts.part.Part.TheVariants as parts
use Rattle.certificates.specs.CertParts.Beginning.{IsListingBegun}
use Rattle.certificates.specs.CertParts.Gathered.{GatheredParts, nothing_gathered, tree_ended, with_gathered, with_parts, all_with, gathered_from, core_in, two_in, gathered_cert}
use Rattle.certificates.specs.CertParts.Left.{ReaderState, parts_left, put_before}
use Rattle.certificates.specs.CertParts.Parts.{AnyParts, tree_parts, parts_of_listing, any_parts_of, reading_parts, reading_any_parts}

-- ---- one after another

with_both : (g : GatheredParts) (ps more : List Part) → with_parts g (ps ++ more) ≡ with_parts (with_parts g ps) more
with_both g [] more = refl
with_both g (part ∷ ps) more = with_both (with_gathered g part) ps more

abbrev made : List Labelled → List PairRay → List Pair → List Tree → Option Tree → GatheredParts
made ts rs ps ds d = record { triangles = ts; rays = rs; listed = ps; trees = ds; tree = d }

triangles_put : (ts : List Labelled) (rs : List PairRay) (ps : List Pair) (ds : List Tree) (d : Option Tree) (more : List Labelled) → with_parts (made ts rs ps ds d) (map (λ t. parts.Triangle t) more) ≡ made (ts ++ more) rs ps ds d
triangles_put ts rs ps ds d [] = ap (λ (us : List Labelled). made us rs ps ds d) (sym (append-nil ts))
triangles_put ts rs ps ds d (t ∷ more) = triangles_put (ts ++ t ∷ []) rs ps ds d more ∙ ap (λ (us : List Labelled). made us rs ps ds d) (append_assoc ts (t ∷ []) more)

rays_put : (ts : List Labelled) (rs : List PairRay) (ps : List Pair) (ds : List Tree) (d : Option Tree) (more : List PairRay) → with_parts (made ts rs ps ds d) (map (λ r. parts.Ray r) more) ≡ made ts (rs ++ more) ps ds d
rays_put ts rs ps ds d [] = ap (λ (us : List PairRay). made ts us ps ds d) (sym (append-nil rs))
rays_put ts rs ps ds d (r ∷ more) = rays_put ts (rs ++ r ∷ []) ps ds d more ∙ ap (λ (us : List PairRay). made ts us ps ds d) (append_assoc rs (r ∷ []) more)

listed_put : (ts : List Labelled) (rs : List PairRay) (ps : List Pair) (ds : List Tree) (d : Option Tree) (more : List Pair) → with_parts (made ts rs ps ds d) (map (λ p. parts.Listed p) more) ≡ made ts rs (ps ++ more) ds d
listed_put ts rs ps ds d [] = ap (λ (us : List Pair). made ts rs us ds d) (sym (append-nil ps))
listed_put ts rs ps ds d (p ∷ more) = listed_put ts rs (ps ++ p ∷ []) ds d more ∙ ap (λ (us : List Pair). made ts rs us ds d) (append_assoc ps (p ∷ []) more)

module _ (ts : List Labelled) (rs : List PairRay) (ps : List Pair) where
  abbrev in_tree : List Tree → ℕ → List Node → GatheredParts
  in_tree ds source ns = made ts rs ps ds (Some (record { source = source; nodes = ns }))

  nodes_put : (ds : List Tree) (source : ℕ) (ns more : List Node) → with_parts (in_tree ds source ns) (map (λ n. parts.Node n) more) ≡ in_tree ds source (ns ++ more)
  nodes_put ds source ns [] = ap (in_tree ds source) (sym (append-nil ns))
  nodes_put ds source ns (n ∷ more) = nodes_put ds source (ns ++ n ∷ []) more ∙ ap (in_tree ds source) (append_assoc ns (n ∷ []) more)

  trees_put : (ds : List Tree) (d : Option Tree) (more : List Tree) → tree_ended (with_parts (made ts rs ps ds d) (flat_map tree_parts more)) ≡ made ts rs ps ((ds ++ option_to_list d) ++ more) None
  trees_put ds d [] = ap (λ (us : List Tree). made ts rs ps us None) (sym (append-nil (ds ++ option_to_list d)))
  trees_put ds d (t ∷ more) =
      ap tree_ended (
      with_both (made ts rs ps ds d) (tree_parts t) (flat_map tree_parts more)
      ∙ ap (λ (g : GatheredParts). with_parts g (flat_map tree_parts more)) (nodes_put (ds ++ option_to_list d) t.source [] t.nodes)
      )
      ∙ trees_put (ds ++ option_to_list d) (Some t) more
      ∙ ap (λ (us : List Tree). made ts rs ps us None) (append_assoc (ds ++ option_to_list d) (t ∷ []) more)

-- the lists of a certificate
abbrev lists_of : CertParts → GatheredParts
lists_of c = made c.triangles c.rays c.listed c.trees None

abbrev all_of : List Part → GatheredParts
all_of ps = tree_ended (with_parts nothing_gathered ps)

all_put : (c : CertParts) → all_of (parts_of_listing c) ≡ lists_of c
all_put c =
    let trees = flat_map tree_parts c.trees in
    let listed = map (λ p. parts.Listed p) c.listed ++ trees in
    let rays = map (λ r. parts.Ray r) c.rays ++ listed in
    ap tree_ended (
    with_both nothing_gathered (map (λ t. parts.Triangle t) c.triangles) rays
    ∙ ap (λ (g : GatheredParts). with_parts g rays) (triangles_put [] [] [] [] None c.triangles)
    ∙ with_both (made c.triangles [] [] [] None) (map (λ r. parts.Ray r) c.rays) listed
    ∙ ap (λ (g : GatheredParts). with_parts g listed) (rays_put c.triangles [] [] [] None c.rays)
    ∙ with_both (made c.triangles c.rays [] [] None) (map (λ p. parts.Listed p) c.listed) trees
    ∙ ap (λ (g : GatheredParts). with_parts g trees) (listed_put c.triangles c.rays [] [] None c.listed)
    )
    ∙ trees_put c.triangles c.rays c.listed [] None c.trees

-- ---- the reader gives one after another

part_put : (g : GatheredParts) (part : Part) (left : Result (List Part) CertFault) → all_with g (put_before (Some part) left) ≡ all_with (with_gathered g part) left
part_put g part (Ok others) = refl
part_put g part (Err f) = refl

module _ (g : GatheredParts) (s t : ReaderState) (rest : List ℕ) where
  abbrev of_state : GatheredParts → ReaderState → List ℕ → Result GatheredParts CertFault
  of_state h u bytes = all_with h (parts_left u bytes)

  pub part_taken : (part : Part) (after : List ℕ) → ((more : List ℕ) → parts_left s (rest ++ more) ≡ put_before (Some part) (parts_left t (after ++ more))) → gathered_from g s rest ≡ gathered_from (with_gathered g part) t after
  part_taken part after told =
      ap (of_state g s) (sym (append-nil rest))
      ∙ ap (all_with g) (told [])
      ∙ part_put g part (parts_left t (after ++ []))
      ∙ ap (of_state (with_gathered g part) t) (append-nil after)

  pub all_taken : (after : List ℕ) → ((more : List ℕ) → parts_left s (rest ++ more) ≡ parts_left t (after ++ more)) → after ≡ [] → gathered_from g s rest ≡ gathered_from g t []
  all_taken after told none =
      ap (of_state g s) (sym (append-nil rest))
      ∙ ap (all_with g) (told [])
      ∙ ap (of_state g t) (append-nil after ∙ none)

  pub fault_taken : (f : CertFault) → ((more : List ℕ) → parts_left s (rest ++ more) ≡ Err f) → FailsCert f (gathered_from g s rest)
  fault_taken f told = fails f (gathered_from g s rest) (ap (of_state g s) (sym (append-nil rest)) ∙ ap (all_with g) (told []))

-- ---- the certificate

-- a fault of what is made of what is read is one of the reading
pub fault_of : {A B : Type 0} (view : A → B) (r : Result A CertFault) (f : CertFault) → FailsCert f (r >>= λ x. Ok (view x)) → FailsCert f r
fault_of view r (faults.Memory _) h = tt
fault_of view (Ok x) f h = absurd cc
fault_of view (Err e) f h = cc

fault_on : {A B : Type 0} (view : A → B) (r : Result A CertFault) (f : CertFault) → FailsCert f r → FailsCert f (r >>= λ x. Ok (view x))
fault_on view r (faults.Memory _) h = tt
fault_on view (Ok x) f h = absurd cc
fault_on view (Err e) f h = cc

module _ (sizes : Sizes) (bytes : List ℕ) where
  one_is : (c : CertParts) → SpellsOne sizes bytes c → core_in sizes None (all_of (parts_of_listing c)) ≡ c
  one_is c s = ap (core_in sizes None) (all_put c) ∙ ap (λ (z : Sizes). core_in z None (lists_of c)) (sym s.sized)

  any_is : (c : AnyCert) → SpellsAny sizes bytes c → gathered_cert sizes (any_parts_of c).0 (all_of (any_parts_of c).1) ≡ c
  any_is (One c) s = ap (λ (d : CertParts). One d) (one_is c s)
  any_is (Two c own) s =
      let all = all_put (record { sizes = c.cert.sizes; triangles = c.cert.triangles; rays = c.cert.rays; listed = c.listed; trees = c.cert.trees }) in
      ap (λ (g : GatheredParts). Two (two_in sizes c.groups g) sizes) all
      ∙ ap (λ (z : Sizes). Two (record { groups = c.groups; cert = record { sizes = z; triangles = c.cert.triangles; rays = c.cert.rays; listed = []; trees = c.cert.trees }; listed = c.listed }) sizes) (sym s.1.in_order.grouped)
      ∙ ap (λ (ps : List Pair). Two (record { groups = c.groups; cert = record { sizes = c.cert.sizes; triangles = c.cert.triangles; rays = c.cert.rays; listed = ps; trees = c.cert.trees }; listed = c.listed }) sizes) (sym s.1.in_order.no_pairs)
      ∙ ap (λ (z : Sizes). Two c z) (sym s.0)

  module _ (small : AreSmall sizes) (fits : IsBytes bytes) where
    one_gathered : (g : GatheredParts) → all_with nothing_gathered (reading_parts sizes bytes) ≡ Ok g → reading sizes bytes ≡ Ok (core_in sizes None g)
    one_gathered g e =
        let ps = bind_ok (reading_parts sizes bytes) (λ others. Ok (all_of others)) g e in
        let c = bind_ok (reading sizes bytes) (λ c. Ok (parts_of_listing c)) ps.0 ps.1 in
        let same : all_of (parts_of_listing c.0) ≡ g = ap all_of (ok_is (parts_of_listing c.0) ps.0 c.2) ∙ ok_is (all_of ps.0) g ps.2 in
        let is : c.0 ≡ core_in sizes None g = sym (one_is c.0 (reading_takes sizes bytes c.0 small fits c.1)) ∙ ap (core_in sizes None) same in
        subst (λ (d : CertParts). reading sizes bytes ≡ Ok d) is c.1

    pub one_read : (r : Result GatheredParts CertFault) → GivesCert (λ g. g) r (all_with nothing_gathered (reading_parts sizes bytes)) → GivesCert (λ g. core_in sizes None g) r (reading sizes bytes)
    one_read (Ok g) h = one_gathered g h
    one_read (Err f) h = fault_of parts_of_listing (reading sizes bytes) f (fault_of all_of (reading_parts sizes bytes) f h)

    module _ (groups : Option (List (List ℕ))) (s : ReaderState) (rest : List ℕ) (begun : IsListingBegun sizes bytes groups s rest) where
      read_on : reading_any_parts sizes bytes ≡ (parts_left s rest >>= λ others. Ok (groups, others))
      read_on = ap (reading_any_parts sizes) (sym (append-nil bytes)) ∙ begun.parts [] ∙ ap (λ (t : List ℕ). parts_left s t >>= λ others. Ok (groups, others)) (append-nil rest)

      pub any_gathered : (g : GatheredParts) → gathered_from nothing_gathered s rest ≡ Ok g → any_at sizes bytes ≡ Ok (gathered_cert sizes groups g)
      any_gathered g e =
          let ps = bind_ok (parts_left s rest) (λ others. Ok (all_of others)) g e in
          let all : AnyParts = (groups, ps.0) in
          let read : reading_any_parts sizes bytes ≡ Ok all = read_on ∙ ap (λ (left : Result (List Part) CertFault). left >>= λ others. Ok (groups, others)) ps.1 in
          let c = bind_ok (any_at sizes bytes) (λ c. Ok (any_parts_of c)) all read in
          let same : any_parts_of c.0 ≡ all = ok_is (any_parts_of c.0) all c.2 in
          let is : c.0 ≡ gathered_cert sizes groups g =
          sym (any_is c.0 (any_takes sizes bytes c.0 small fits c.1))
          ∙ ap (λ (x : AnyParts). gathered_cert sizes x.0 (all_of x.1)) same
          ∙ ap (gathered_cert sizes groups) (ok_is (all_of ps.0) g ps.2) in
          subst (λ (d : AnyCert). any_at sizes bytes ≡ Ok d) is c.1

      pub any_faulty : (f : CertFault) → FailsCert f (gathered_from nothing_gathered s rest) → FailsCert f (any_at sizes bytes)
      any_faulty f h =
          let left : FailsCert f (parts_left s rest) = fault_of all_of (parts_left s rest) f h in
          fault_of any_parts_of (any_at sizes bytes) f (subst (λ (r : Result AnyParts CertFault). FailsCert f r) (sym read_on) (fault_on (λ (ps : List Part). (groups, ps)) (parts_left s rest) f left))

  -- its ranges and orders
  pub core_in_order : (groups : Option (List (List ℕ))) (g : GatheredParts) → SpellsAny sizes bytes (gathered_cert sizes groups g) → IsOneInOrder (core_in sizes groups g)
  core_in_order None g s = s.in_order
  core_in_order (Some gs) g s = s.1.in_order.in_order

  -- ---- the beginning

  pub cut_read : (at : ℕ) → reading_any_parts sizes bytes ≡ Err (faults.Short at) → any_at sizes bytes ≡ Err (faults.Short at)
  cut_read at e = fault_of any_parts_of (any_at sizes bytes) (faults.Short at) e

  pub begins_faulty : (f : CertFault) → ((more : List ℕ) → FailsCert f (reading_any_parts sizes (bytes ++ more))) → FailsCert f (any_at sizes bytes)
  begins_faulty f told = fault_of any_parts_of (any_at sizes bytes) f (subst (λ (b : List ℕ). FailsCert f (reading_any_parts sizes b)) (append-nil bytes) (told []))
