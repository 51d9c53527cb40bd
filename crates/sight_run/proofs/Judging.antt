-- What is judged over a plan is judged over its map.
use Rattle.std.proofs.Common.{◌≡◌, ℕ, List, Result, Ok, Err, subst}
use Rattle.sight_names.specs.declared.faults.CertFault.{CertFault}
use Rattle.sight_names.specs.Map.{map_of}
use Rattle.sight_names.specs.Plan.{IsPlan, PlanParts}
use Rattle.reject_bits.specs.Parts.{TableParts}
use Rattle.cert_format.specs.declared.cert.Sizes.{Sizes}
use Rattle.cert_format.specs.Accepted.{labels_of, triangles_of}
use Rattle.cert_format.specs.Sizes.{sizes_of_plan}
use Rattle.cert_format.specs.declared.cert_groups.cert.CertTwo.{CertTwo}
use Rattle.cert_format.specs.declared.cert_groups.cert.AnyCert.{AnyCert}
use Rattle.cert_format.specs.declared.cert_groups.cert.AnyCert.TheVariants.{One, Two}
use Rattle.certificates.specs.declared.cert_exact.cert.ExactParts.{ExactParts}
use Rattle.certificates.specs.CertExact.Grammar.{as_two}
use Rattle.certificates.specs.declared.certificate.Certificate.{Certificate}
use Rattle.certificates.specs.declared.certificate.Certificate.TheVariants.{Listing, Exact}
use Rattle.certificates.specs.Reading.{certificate_at}
use Rattle.face_groups.proofs.RegroupedPlan.{names_the_labels}
use Rattle.group_checker.specs.declared.verdict.AnyVerdict.{AnyVerdict}
use Rattle.group_checker.specs.Judged.{JudgesAny, JudgesTwo}
use Rattle.group_checker.specs.Meshes.{grouped_map}
use Rattle.exact_checker.specs.Judged.{JudgesThree}
use Rattle.any_judge.specs.Judged.{Judges}
use Rattle.cert_judge.specs.declared.judged.Judged.{Judged}
use Rattle.cert_judge.specs.declared.judged.Judged.TheVariants as judged
use Rattle.cert_judge.specs.Judged.{JudgedBy}
use Rattle.any_judge.specs.CertFile.Judgement.{IsJudged as IsJudgedOver, IsJudgement as IsJudgementOver}
use Rattle.sight_run.specs.Judged.{IsJudgedOnMap, IsJudgementOnMap, JudgesListingOf, JudgesOf, JudgesThreeOf, JudgesTwoOf}
use Rattle.whole_wad.specs.Sizes.{sizes_of_map}

two_by_map : (p : PlanParts) (t : TableParts) (c : CertTwo) (v : AnyVerdict) → IsPlan p → JudgesTwo p t c v → JudgesTwoOf (map_of p) t c v
two_by_map p t c v plan h = record {
  g = grouped_map p c;
  names = names_the_labels p plan (triangles_of c.cert) c.groups (labels_of c.cert);
  mesh = h.mesh;
  groups = h.groups;
  rays = h.rays;
  trees = h.trees;
  pairs = h.pairs;
}

three_by_map : (p : PlanParts) (t : TableParts) (c : ExactParts) (v : AnyVerdict) → IsPlan p → JudgesThree p t c v → JudgesThreeOf (map_of p) t c v
three_by_map p t c v plan h = record {
  g = grouped_map p (as_two c);
  names = names_the_labels p plan (triangles_of (as_two c).cert) c.groups (labels_of (as_two c).cert);
  mesh = h.mesh;
  groups = h.groups;
  rays = h.rays;
  trees = h.trees;
  pairs = h.pairs;
}

listing_by_map : (p : PlanParts) (t : TableParts) (c : AnyCert) (v : AnyVerdict) → IsPlan p → JudgesAny p t c v → JudgesListingOf (map_of p) t c v
listing_by_map p t (One c) v plan h = h
listing_by_map p t (Two c sizes) v plan h = two_by_map p t c v plan h

pub by_map : (p : PlanParts) (t : TableParts) (c : Certificate) (v : AnyVerdict) → IsPlan p → Judges p t c v → JudgesOf (map_of p) t c v
by_map p t (Listing c) v plan h = listing_by_map p t c v plan h
by_map p t (Exact c) v plan h = three_by_map p t c v plan h

judged_by_map : (p : PlanParts) (t : TableParts) (r : Result Certificate CertFault) (given : Judged) → IsPlan p → JudgedBy r (IsJudgedOver p t) given → JudgedBy r (IsJudgedOnMap (map_of p) t) given
judged_by_map p t (Ok c) (judged.Verdict v) plan h = record { exact = by_map p t c v plan h.exact; accepted = h.accepted; sight = h.sight }
judged_by_map p t (Ok c) (judged.Unread g) plan h = absurd h
judged_by_map p t (Err f) (judged.Verdict v) plan h = absurd h
judged_by_map p t (Err f) (judged.Unread g) plan h = h

-- what was judged while it was read
pub judgement_by_map : (p : PlanParts) (t : TableParts) (bytes : List ℕ) (given : Judged) → IsPlan p → sizes_of_plan p ≡ sizes_of_map (map_of p) → IsJudgementOver p t bytes given → IsJudgementOnMap (map_of p) t bytes given
judgement_by_map p t bytes given plan sized h = subst (λ (s : Sizes). JudgedBy (certificate_at s bytes) (IsJudgedOnMap (map_of p) t) given) sized (judged_by_map p t (certificate_at (sizes_of_plan p) bytes) given plan h)
