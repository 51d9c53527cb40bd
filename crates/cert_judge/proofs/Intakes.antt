-- What has become of the bytes, from part to part and from piece to piece, and what comes of them at the end.
use Rattle.std.proofs.Common.{◌≡◌, ℕ, zero, suc, ◌+◌, ◌-◌, ◌<◌, ◌≤◌, ◌^◌, List, [], ◌∷◌, ◌++◌, length, Some, Result, Ok, Err, Contains, refl, sym, ap, subst, ◌∙◌, append_assoc, arith, inl, inr}
use Rattle.std.specs.List.{AllByRecursion}
use Rattle.std.proofs.lemmas.List.{append-nil, length-append}
use Rattle.math_base.proofs.Lists.{contains_none}
use Rattle.sight_names.proofs.Lists.{contains_cases}
use Rattle.sight_names.specs.declared.faults.CertFault.{CertFault}
use Rattle.sight_names.specs.Plan.{PlanParts}
use Rattle.block_evidence.specs.declared.sight_tree.Node.{Node}
use Rattle.block_evidence.specs.declared.sight_tree.Tree.{Tree}
use Rattle.reject_bits.specs.Parts.{TableParts}
use Rattle.cert_format.specs.declared.cert.Sizes.{Sizes}
use Rattle.cert_format.specs.Grammar.{FitsTree}
use Rattle.cert_format.specs.Reading.{◌>>=◌}
use Rattle.cert_format.specs.Sizes.{sizes_of_plan}
use Rattle.cert_format.proofs.FieldLaws.{bind_ok, ok_is}
use Rattle.cert_format.specs.declared.cert_groups.cert.AnyCert.{AnyCert}
use Rattle.cert_format.specs.declared.cert_groups.cert.AnyCert.TheVariants.{One, Two}
use Rattle.cert_format.specs.CertGroups.Grammar.{IsTwoInOrder, SpellsAny}
use Rattle.cert_format.specs.CertGroups.Reading.{any_at}
use Rattle.cert_format.proofs.CertGroups.AnyLaws.{any_takes}
use Rattle.certificates.specs.declared.cert_parts.part.Part.{Part}
use Rattle.certificates.specs.CertParts.Parts.{AnyParts, any_parts_of, reading_any_parts}
use Rattle.certificates.specs.CertParts.Left.{ReaderState, parts_left, put_before}
use Rattle.certificates.specs.CertParts.Nodes.{ReadsNodes, AwaitsNodes, behind_nodes}
use Rattle.certificates.proofs.CertParts.Stretches.{put_all as put_behind, reads_within, nodes_behind}
use Rattle.cert_judge.specs.declared.intake.Intake.{Intake}
use Rattle.cert_judge.specs.Heard.{node_parts}
use Rattle.cert_judge.specs.Whole.{IsCertOf}
use Rattle.cert_judge.specs.Judging.{HasHeard, HasHeardAll}
use Rattle.cert_judge.specs.Intake.{put_listing_parts, AreBytes, IsGoingOn, AreRefusedListing}
use Rattle.cert_judge.specs.Version.{Groups}

-- ---- parts, one behind the other

abbrev all_read : Groups → List Part → Result AnyParts CertFault
all_read groups parts = Ok (groups, parts)

put_one_more : (groups : Groups) (parts : List Part) (part : Part) (left : Result (List Part) CertFault) → put_listing_parts groups (parts ++ part ∷ []) left ≡ put_listing_parts groups parts (put_before (Some part) left)
put_one_more groups parts part (Ok others) = ap (all_read groups) (append_assoc parts (part ∷ []) others)
put_one_more groups parts part (Err f) = refl

module _ (p : PlanParts) (t : TableParts) (bytes rest : List ℕ) (k : Intake) (w : IsGoingOn p t bytes rest k) where
  -- the next part was read and heard
  pub part_taken : (part : Part) (behind : List ℕ) (new : Intake) → ((more : List ℕ) → parts_left k.reader (rest ++ more) ≡ put_before (Some part) (parts_left new.reader (behind ++ more)))
      → new.reader.given + length behind ≡ k.reader.given + length rest → HasHeard p t w.groups (w.parts ++ part ∷ []) new.judging → IsGoingOn p t bytes behind new
  part_taken part behind new told given heard = record {
    small = w.small;
    fit = w.fit;
    groups = w.groups;
    parts = w.parts ++ part ∷ [];
    heard = heard;
    given = given ∙ w.given;
    left = λ more. w.left more ∙ ap (put_listing_parts w.groups w.parts) (told more) ∙ sym (put_one_more w.groups w.parts part (parts_left new.reader (behind ++ more)));
  }

  -- or all bytes were taken
  pub all_taken : (behind : List ℕ) (new : Intake) → ((more : List ℕ) → parts_left k.reader (rest ++ more) ≡ parts_left new.reader (behind ++ more)) → behind ≡ [] → new.reader.given + length behind ≡ k.reader.given + length rest → new.judging ≡ k.judging → IsGoingOn p t bytes [] new
  all_taken behind new told none given same = record {
    small = w.small;
    fit = w.fit;
    groups = w.groups;
    parts = w.parts;
    heard = subst (HasHeard p t w.groups w.parts) (sym same) w.heard;
    given = ap (λ (b : List ℕ). new.reader.given + length b) (sym none) ∙ given ∙ w.given;
    left = λ more. w.left more ∙ ap (put_listing_parts w.groups w.parts) (told more ∙ ap (λ (b : List ℕ). parts_left new.reader (b ++ more)) none);
  }

  -- or a fault was met
  pub fault_taken : (f : CertFault) → ((more : List ℕ) → parts_left k.reader (rest ++ more) ≡ Err f) → AreRefusedListing p bytes f
  fault_taken f told more = w.left more ∙ ap (put_listing_parts w.groups w.parts) (told more)

-- ---- nodes, one by one, while the reader stays where the first of them began

put_both : (groups : Groups) (parts more : List Part) (left : Result (List Part) CertFault) → put_listing_parts groups parts (put_behind more left) ≡ put_listing_parts groups (parts ++ more) left
put_both groups parts more (Ok others) = ap (all_read groups) (sym (append_assoc parts more others))
put_both groups parts more (Err f) = refl

at_start : (s : ReaderState) (count : ℕ) → s.awaited.nodes ≡ count → s ≡ behind_nodes s count 0
at_start s count e =
    let same : s.given ≡ s.given + 0 = omega arith in
    ap (λ (n : ℕ). let u : ReaderState = record s { given = n } in u) same ∙ ap (λ (n : ℕ). let u : ReaderState = record s { awaited = record s.awaited { nodes = n }; given = s.given + 0 } in u) e

module _ (p : PlanParts) (t : TableParts) (bytes ahead : List ℕ) (k : Intake) (count : ℕ) (awaits : AwaitsNodes k.reader count) (w : IsGoingOn p t bytes ahead k) where
  -- they were read and heard
  pub nodes_taken : (ns : List Node) (rest : List ℕ) (left : ℕ) (new : Intake) → ReadsNodes ahead ns rest → length ns + left ≡ count → HasHeard p t w.groups (w.parts ++ node_parts ns) new.judging
      → new.reader ≡ behind_nodes k.reader left (length ahead - length rest) → IsGoingOn p t bytes rest new
  nodes_taken ns rest left new read counted heard behind =
      let within : length rest ≤ length ahead = reads_within ahead ns rest read in
      let given : new.reader.given ≡ k.reader.given + (length ahead - length rest) = ap (λ (s : ReaderState). s.given) behind in
      record {
        small = w.small;
        fit = w.fit;
        groups = w.groups;
        parts = w.parts ++ node_parts ns;
        heard = heard;
        given = omega (arith, given, within, w.given);
        left = λ more. w.left more ∙ ap (put_listing_parts w.groups w.parts) (told more) ∙ put_both w.groups w.parts (node_parts ns) (parts_left new.reader (rest ++ more));
      }
    where
      none : 0 + (length ahead - length rest) ≡ length ahead - length rest
      none = omega arith

      told : (more : List ℕ) → parts_left k.reader (ahead ++ more) ≡ put_behind (node_parts ns) (parts_left new.reader (rest ++ more))
      told more =
          ap (λ (s : ReaderState). parts_left s (ahead ++ more)) (at_start k.reader (length ns + left) (awaits.counted ∙ sym counted))
          ∙ nodes_behind k.reader count awaits ns left 0 ahead rest more read
          ∙ ap (λ (n : ℕ). put_behind (node_parts ns) (parts_left (behind_nodes k.reader left n) (rest ++ more))) none
          ∙ ap (λ (s : ReaderState). put_behind (node_parts ns) (parts_left s (rest ++ more))) (sym behind)

-- ---- a piece comes

pub bytes_more : (bytes piece : List ℕ) → AreBytes bytes → AreBytes piece → AreBytes (bytes ++ piece)
bytes_more [] piece a b i = b i
bytes_more (x ∷ bytes) piece a b zero = a zero
bytes_more (x ∷ bytes) piece a b (suc i) = bytes_more bytes piece (λ j. a (suc j)) b i

pub piece_comes : (p : PlanParts) (t : TableParts) (bytes piece : List ℕ) (k : Intake) → AreBytes piece → IsGoingOn p t bytes [] k → IsGoingOn p t (bytes ++ piece) piece k
piece_comes p t bytes piece k fit w = record {
  small = w.small;
  fit = bytes_more bytes piece w.fit fit;
  groups = w.groups;
  parts = w.parts;
  heard = w.heard;
  given = omega (arith, w.given, length-append bytes piece);
  left = λ more. ap (reading_any_parts (sizes_of_plan p)) (append_assoc bytes piece more) ∙ w.left (piece ++ more);
}

-- ---- at the end

-- what is said whatever bytes come is said of these
pub refused_whole : (p : PlanParts) (bytes : List ℕ) (f : CertFault) → AreRefusedListing p bytes f → reading_any_parts (sizes_of_plan p) bytes ≡ Err f
refused_whole p bytes f w = ap (reading_any_parts (sizes_of_plan p)) (sym (append-nil bytes)) ∙ w []

-- a fault of the parts is one of the reading
pub fault_read : {C D : Type 0} (view : C → D) (read : Result C CertFault) (f : CertFault) → (read >>= λ c. Ok (view c)) ≡ Err f → read ≡ Err f
fault_read view (Ok c) f e = absurd cc
fault_read view (Err g) f e = cc

trees_counted : (ts : List Tree) → AllByRecursion FitsTree ts → (u : Tree) → Contains ts u → length u.nodes < 2 ^ 64
trees_counted [] all u h = absurd (contains_none u h)
trees_counted (t ∷ ts) all u h = elim (contains_cases t u ts h) as (λ _. length u.nodes < 2 ^ 64) [
  | inl e ↦ subst (λ (x : Tree). length x.nodes < 2 ^ 64) e all.0.count
  | inr k ↦ trees_counted ts all.1 u k
]

-- there is but one plan and one table
pub same_fits : (p q : PlanParts) (t u : TableParts) (bytes others : List ℕ) (k : Intake) → IsGoingOn p t bytes [] k → IsGoingOn q u others [] k → u.n ≡ q.sectors → t.n ≡ p.sectors
same_fits p q t u bytes others k w v fits =
    sym (ap (λ (x : TableParts). x.n) w.heard.table) ∙ ap (λ (x : TableParts). x.n) v.heard.table ∙ fits ∙ sym (ap (λ (x : PlanParts). x.sectors) v.heard.plan) ∙ ap (λ (x : PlanParts). x.sectors) w.heard.plan

-- what is read is a certificate of the plan, in order
cert_of_plan : (p : PlanParts) (t : TableParts) (bytes : List ℕ) (c : AnyCert) → t.n ≡ p.sectors → SpellsAny (sizes_of_plan p) bytes c → IsCertOf p t c
cert_of_plan p t bytes (One c) fits s = record { sized = s.sized; in_order = tt; core = s.in_order; table = fits; counted = trees_counted c.trees s.fits.trees }
cert_of_plan p t bytes (Two c sizes) fits s = record {
  sized = s.0;
  in_order = subst (λ (z : Sizes). IsTwoInOrder z c) (sym s.0) s.1.in_order;
  core = s.1.in_order.in_order;
  table = fits;
  counted = trees_counted c.cert.trees s.1.fits.trees;
}

module _ (p : PlanParts) (t : TableParts) (bytes : List ℕ) (k : Intake) (w : IsGoingOn p t bytes [] k) where
  whole : reading_any_parts (sizes_of_plan p) bytes ≡ put_listing_parts w.groups w.parts (parts_left k.reader [])
  whole = ap (reading_any_parts (sizes_of_plan p)) (sym (append-nil bytes)) ∙ w.left []

  -- the certificate that was read was heard
  pub read_at_end : t.n ≡ p.sectors → parts_left k.reader [] ≡ Ok [] → (c : AnyCert) × (any_at (sizes_of_plan p) bytes ≡ Ok c) × HasHeardAll p t c k.judging
  read_at_end fits e =
      let r = bind_ok (any_at (sizes_of_plan p) bytes) (λ c. Ok (any_parts_of c)) (w.groups, w.parts) (whole ∙ ap (put_listing_parts w.groups w.parts) e ∙ ap (all_read w.groups) (append-nil w.parts)) in (
        r.0,
        r.1,
        record {
          cert = cert_of_plan p t bytes r.0 fits (any_takes (sizes_of_plan p) bytes r.0 w.small w.fit r.1);
          heard = subst (λ (ps : AnyParts). HasHeard p t ps.0 ps.1 k.judging) (sym (ok_is (any_parts_of r.0) (w.groups, w.parts) r.2)) w.heard;
        },
      )
