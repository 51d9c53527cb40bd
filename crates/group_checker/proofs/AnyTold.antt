-- What the answer for a certificate of version 1 or 2 tells: yes exactly where it is accepted, and then of sight.
use Rattle.std.proofs.Common.{◌≡◌, ◌↔◌, length, sym, subst}
use Rattle.sight_names.specs.Plan.{PlanParts, IsPlan}
use Rattle.sight_names.specs.Map.{map_of}
use Rattle.sight_names.specs.Sound.{LinesMeetAtEnds}
use Rattle.sight_names.proofs.PlanMap.{plan_is_map}
use Rattle.reject_bits.specs.Parts.{TableParts}
use Rattle.cert_format.specs.Parts.{CertParts}
use Rattle.cert_format.specs.declared.cert_groups.cert.AnyCert.{AnyCert}
use Rattle.cert_format.specs.declared.cert_groups.cert.AnyCert.TheVariants.{One, Two}
use Rattle.cert_format.specs.CertGroups.Grammar.{IsAnyInOrder, sizes_of_listing}
use Rattle.cert_checker.specs.AcceptedGroups.Accepted.{IsAcceptedOne, IsAcceptedAny}
use Rattle.cert_checker.specs.declared.verdict.Verdict.{Verdict}
use Rattle.cert_checker.specs.declared.verdict.Verdict.TheVariants.{Yes, No}
use Rattle.cert_checker.specs.Judged.{IsYesVerdict}
use Rattle.cert_checker.proofs.Accepting.{yes_exactly}
use Rattle.cert_checker.proofs.Seeing.{accepted_tells}
use Rattle.group_checker.specs.declared.verdict.AnyVerdict.{AnyVerdict}
use Rattle.group_checker.specs.Judged.{any_of, IsYesAny, JudgesAny, JudgesOne, TellsSightAny}
use Rattle.group_checker.proofs.AcceptingTwo.{yes_exactly_two}
use Rattle.group_checker.proofs.SeeingTwo.{accepted_two_tells}

same_yes : (v : Verdict) (A : Type 0) → IsYesVerdict v ↔ A → IsYesAny (any_of v) ↔ A
same_yes (Yes totals) A h = h
same_yes (No f) A h = h

module _ (p : PlanParts) (is : IsPlan p) (t : TableParts) (size : t.n ≡ p.sectors) where
  one_exactly : (c : CertParts) (v : AnyVerdict) → JudgesOne (map_of p) t c v → IsYesAny v ↔ IsAcceptedOne (map_of p) t.bytes c
  one_exactly c v j = subst (λ (w : AnyVerdict). IsYesAny w ↔ IsAcceptedOne (map_of p) t.bytes c) (sym j.is) (same_yes j.verdict (IsAcceptedOne (map_of p) t.bytes c) (yes_exactly (map_of p) t c size j.verdict j.mesh j.rays j.trees j.pairs))

  pub any_exactly : (c : AnyCert) → (sizes_of_listing c).sectors ≡ p.sectors → (sizes_of_listing c).points ≡ length p.points → (sizes_of_listing c).lines ≡ length p.lines → IsAnyInOrder c → (v : AnyVerdict) → JudgesAny p t c v → IsYesAny v ↔ IsAcceptedAny (map_of p) t.bytes c
  any_exactly (One c) sectors points lines order v j = one_exactly c v j
  any_exactly (Two c sizes) sectors points lines order v j = yes_exactly_two p is t c size (record { sizes = sizes; in_order = order; sectors = sectors; points = points; lines = lines }) v j

  pub accepted_any_tells : LinesMeetAtEnds (map_of p) → (c : AnyCert) → IsAcceptedAny (map_of p) t.bytes c → TellsSightAny (map_of p) t c
  accepted_any_tells ends (One c) a = accepted_tells (map_of p) t c size (plan_is_map p is) ends a
  accepted_any_tells ends (Two c sizes) a = accepted_two_tells p is ends t c size a
