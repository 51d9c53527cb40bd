-- What has become of the bytes, from part to part and from piece to piece, and what comes of them at the end.
use Rattle.std.proofs.Common.{◌≡◌, ℕ, suc, ◌+◌, ◌-◌, ◌<◌, ◌≤◌, ◌^◌, List, [], ◌∷◌, ◌++◌, drop, length, Some, Result, Ok, Err, refl, sym, ap, subst, ◌∙◌, append_assoc, arith}
use Rattle.std.specs.List.{AllByRecursion}
use Rattle.std.proofs.lemmas.List.{append-nil, drop_at, length-append}
use Rattle.sight_names.specs.declared.faults.CertFault.{CertFault}
use Rattle.sight_names.specs.Plan.{PlanParts}
use Rattle.block_evidence.specs.declared.sight_tree.Node.{Node}
use Rattle.reject_bits.specs.Parts.{TableParts}
use Rattle.cert_format.specs.Grammar.{FitsTree}
use Rattle.cert_format.specs.Sizes.{sizes_of_plan}
use Rattle.cert_format.proofs.FieldLaws.{IsBytes, bind_ok, ok_is}
use Rattle.certificates.specs.declared.cert_exact.cert.ExactParts.{ExactParts}
use Rattle.certificates.specs.CertExact.Grammar.{SpellsThree, trees_from}
use Rattle.certificates.specs.CertExact.Reading.{exact_at}
use Rattle.certificates.proofs.CertExact.ExactLaws.{exact_takes}
use Rattle.cert_judge.specs.Intake.{AreBytes}
use Rattle.cert_judge.proofs.Intakes.{bytes_more}
use Rattle.certificates.specs.declared.exact_parts.part.Part.{Part}
use Rattle.certificates.specs.ExactParts.Parts.{ThreeParts, node_parts, three_parts_of, reading_three_parts}
use Rattle.certificates.specs.CertParts.Nodes.{ReadsNodes}
use Rattle.certificates.specs.ExactParts.Left.{ReaderState, parts_left, put_before}
use Rattle.certificates.specs.ExactParts.Nodes.{AwaitsTree, behind_bytes}
use Rattle.certificates.proofs.CertParts.Stretches.{reads_within}
use Rattle.certificates.proofs.ExactParts.Stretches.{nodes_behind, reads_front, put_all as put_behind}
use Rattle.any_judge.specs.declared.exact_judge.intake.Intake.{Intake}
use Rattle.any_judge.specs.ExactJudge.Heard.{Groups}
use Rattle.any_judge.specs.ExactJudge.Judging.{HasHeard, HasHeardAll, IsCertOf}
use Rattle.any_judge.specs.ExactJudge.Intake.{put_exact_parts, IsGoingOn, AreRefusedExact}

-- ---- parts, one behind the other

abbrev all_read : Groups → List Part → Result ThreeParts CertFault
all_read groups parts = Ok (groups, parts)

put_one_more : (groups : Groups) (parts : List Part) (part : Part) (left : Result (List Part) CertFault) → put_exact_parts groups (parts ++ part ∷ []) left ≡ put_exact_parts groups parts (put_before (Some part) left)
put_one_more groups parts part (Ok others) = ap (all_read groups) (append_assoc parts (part ∷ []) others)
put_one_more groups parts part (Err f) = refl

module _ (p : PlanParts) (t : TableParts) (bytes rest : List ℕ) (k : Intake) (w : IsGoingOn p t bytes rest k) where
  -- the next part was read and heard
  pub part_taken : (part : Part) (behind : List ℕ) (new : Intake) → ((more : List ℕ) → parts_left k.reader (rest ++ more) ≡ put_before (Some part) (parts_left new.reader (behind ++ more)))
      → new.reader.given + length behind ≡ k.reader.given + length rest → HasHeard p t w.groups (w.parts ++ part ∷ []) new.judging → IsGoingOn p t bytes behind new
  part_taken part behind new told given heard = record {
    small = w.small;
    fit = w.fit;
    groups = w.groups;
    parts = w.parts ++ part ∷ [];
    heard = heard;
    given = given ∙ w.given;
    left = λ more. w.left more ∙ ap (put_exact_parts w.groups w.parts) (told more) ∙ sym (put_one_more w.groups w.parts part (parts_left new.reader (behind ++ more)));
  }

  -- or all bytes were taken
  pub all_taken : (behind : List ℕ) (new : Intake) → ((more : List ℕ) → parts_left k.reader (rest ++ more) ≡ parts_left new.reader (behind ++ more)) → behind ≡ [] → new.reader.given + length behind ≡ k.reader.given + length rest → new.judging ≡ k.judging → IsGoingOn p t bytes [] new
  all_taken behind new told none given same = record {
    small = w.small;
    fit = w.fit;
    groups = w.groups;
    parts = w.parts;
    heard = subst (HasHeard p t w.groups w.parts) (sym same) w.heard;
    given = ap (λ (b : List ℕ). new.reader.given + length b) (sym none) ∙ given ∙ w.given;
    left = λ more. w.left more ∙ ap (put_exact_parts w.groups w.parts) (told more ∙ ap (λ (b : List ℕ). parts_left new.reader (b ++ more)) none);
  }

  -- or a fault was met
  pub fault_taken : (f : CertFault) → ((more : List ℕ) → parts_left k.reader (rest ++ more) ≡ Err f) → AreRefusedExact p bytes f
  fault_taken f told more = w.left more ∙ ap (put_exact_parts w.groups w.parts) (told more)

-- ---- nodes of a tree, one behind the other

put_both : (groups : Groups) (parts more : List Part) (left : Result (List Part) CertFault) → put_exact_parts groups parts (put_behind more left) ≡ put_exact_parts groups (parts ++ more) left
put_both groups parts more (Ok others) = ap (all_read groups) (sym (append_assoc parts more others))
put_both groups parts more (Err f) = refl

module _ (p : PlanParts) (t : TableParts) (bytes ahead : List ℕ) (k : Intake) (left : ℕ) (awaits : AwaitsTree k.reader left) (some : 0 < left) (w : IsGoingOn p t bytes ahead k) where
  -- they were read and heard
  pub nodes_taken : (ns : List Node) (here rest back behind : List ℕ) (new : Intake) → ahead ≡ here ++ back → length here ≤ left → IsBytes here → ReadsNodes here ns rest → behind ≡ drop (length here - length rest) ahead
      → HasHeard p t w.groups (w.parts ++ node_parts k.reader.trees.source ns) new.judging → new.reader ≡ behind_bytes k.reader (length here - length rest) → IsGoingOn p t bytes behind new
  nodes_taken ns here rest back behind new split le fit read from heard reader = record {
    small = w.small;
    fit = w.fit;
    groups = w.groups;
    parts = w.parts ++ node_parts k.reader.trees.source ns;
    heard = heard;
    given = omega (arith, given, within, w.given, ap length split, length-append here back, ap length rest_is, length-append rest back);
    left = λ more. w.left more ∙ ap (put_exact_parts w.groups w.parts) (told more) ∙ put_both w.groups w.parts (node_parts k.reader.trees.source ns) (parts_left new.reader (behind ++ more));
  }
    where
      used : ℕ
      used = length here - length rest

      within : length rest ≤ length here
      within = reads_within here ns rest read

      given : new.reader.given ≡ k.reader.given + used
      given = ap (λ (s : ReaderState). s.given) reader

      cut : (front : List ℕ) × (here ≡ front ++ rest)
      cut = reads_front here ns rest fit read

      rest_is : behind ≡ rest ++ back
      rest_is =
          let long : length cut.0 ≡ used = omega (arith, ap length cut.1, length-append cut.0 rest) in
          from ∙ ap (drop used) (split ∙ ap (λ (h : List ℕ). h ++ back) cut.1 ∙ append_assoc cut.0 rest back) ∙ drop_at cut.0 (rest ++ back) used long

      told : (more : List ℕ) → parts_left k.reader (ahead ++ more) ≡ put_behind (node_parts k.reader.trees.source ns) (parts_left new.reader (behind ++ more))
      told more =
          ap (parts_left k.reader) (ap (λ (b : List ℕ). b ++ more) split ∙ append_assoc here back more)
          ∙ nodes_behind k.reader left awaits some ns here rest (back ++ more) le read
          ∙ ap (λ (s : ReaderState). put_behind (node_parts k.reader.trees.source ns) (parts_left s (rest ++ (back ++ more)))) (sym reader)
          ∙ ap (λ (b : List ℕ). put_behind (node_parts k.reader.trees.source ns) (parts_left new.reader b)) (sym (append_assoc rest back more) ∙ ap (λ (b : List ℕ). b ++ more) (sym rest_is))

-- ---- a piece comes

pub piece_comes : (p : PlanParts) (t : TableParts) (bytes piece : List ℕ) (k : Intake) → AreBytes piece → IsGoingOn p t bytes [] k → IsGoingOn p t (bytes ++ piece) piece k
piece_comes p t bytes piece k fit w = record {
  small = w.small;
  fit = bytes_more bytes piece w.fit fit;
  groups = w.groups;
  parts = w.parts;
  heard = w.heard;
  given = omega (arith, w.given, length-append bytes piece);
  left = λ more. ap (reading_three_parts (sizes_of_plan p)) (append_assoc bytes piece more) ∙ w.left (piece ++ more);
}

-- ---- at the end

-- what is said whatever bytes come is said of these
pub refused_whole : (p : PlanParts) (bytes : List ℕ) (f : CertFault) → AreRefusedExact p bytes f → reading_three_parts (sizes_of_plan p) bytes ≡ Err f
refused_whole p bytes f w = ap (reading_three_parts (sizes_of_plan p)) (sym (append-nil bytes)) ∙ w []

-- there is but one plan and one table
pub same_fits : (p q : PlanParts) (t u : TableParts) (bytes others : List ℕ) (k : Intake) → IsGoingOn p t bytes [] k → IsGoingOn q u others [] k → u.n ≡ q.sectors → t.n ≡ p.sectors
same_fits p q t u bytes others k w v fits =
    sym (ap (λ (x : TableParts). x.n) w.heard.table) ∙ ap (λ (x : TableParts). x.n) v.heard.table ∙ fits ∙ sym (ap (λ (x : PlanParts). x.sectors) v.heard.plan) ∙ ap (λ (x : PlanParts). x.sectors) w.heard.plan

-- the nodes of each tree fit their count
counted : (f : ℕ) (trees : List (List Node)) → AllByRecursion FitsTree (trees_from f trees) → AllByRecursion (λ (ns : List Node). length ns < 2 ^ 64) trees
counted f [] fit = tt
counted f (ns ∷ trees) fit = (fit.0.count, counted (suc f) trees fit.1)

-- what is read is a certificate of the plan, in order
cert_of_plan : (p : PlanParts) (t : TableParts) (bytes : List ℕ) (c : ExactParts) → t.n ≡ p.sectors → SpellsThree (sizes_of_plan p) bytes c → IsCertOf p t c
cert_of_plan p t bytes c fits s = record {
  cert = record { two = record { sizes = sizes_of_plan p; in_order = s.in_order; sectors = refl; points = refl; lines = refl }; one_each = s.one_each };
  table = fits;
  counted = counted 0 c.trees s.fits.trees;
}

module _ (p : PlanParts) (t : TableParts) (bytes : List ℕ) (k : Intake) (w : IsGoingOn p t bytes [] k) where
  whole : reading_three_parts (sizes_of_plan p) bytes ≡ put_exact_parts w.groups w.parts (parts_left k.reader [])
  whole = ap (reading_three_parts (sizes_of_plan p)) (sym (append-nil bytes)) ∙ w.left []

  -- a fault at the end is that of the reading
  pub fault_at_end : (f : CertFault) → parts_left k.reader [] ≡ Err f → reading_three_parts (sizes_of_plan p) bytes ≡ Err f
  fault_at_end f e = whole ∙ ap (put_exact_parts w.groups w.parts) e

  -- the certificate that was read was heard
  pub read_at_end : t.n ≡ p.sectors → parts_left k.reader [] ≡ Ok [] → (c : ExactParts) × (exact_at (sizes_of_plan p) bytes ≡ Ok c) × HasHeardAll p t c k.judging
  read_at_end fits e =
      let r = bind_ok (exact_at (sizes_of_plan p) bytes) (λ c. Ok (three_parts_of c)) (w.groups, w.parts) (whole ∙ ap (put_exact_parts w.groups w.parts) e ∙ ap (all_read w.groups) (append-nil w.parts)) in (
        r.0,
        r.1,
        record {
          cert = cert_of_plan p t bytes r.0 fits (exact_takes (sizes_of_plan p) bytes r.0 w.small w.fit r.1);
          heard = subst (λ (ps : ThreeParts). HasHeard p t ps.0 ps.1 k.judging) (sym (ok_is (three_parts_of r.0) (w.groups, w.parts) r.2)) w.heard;
        },
      )
