-- What the judge of pairs is given of a certificate of version 2.
use Rattle.std.proofs.Common.{◌≡◌, ℕ, ◌≤◌, List, Some, length, sym, ◌∙◌, ap, subst, arith}
use Rattle.std.specs.List.{slice_get}
use Rattle.std.proofs.lemmas.Option.{slice_get_within}
use Rattle.sight_names.specs.declared.limits.TheConstants.{MOST_TRIANGLES}
use Rattle.sight_names.specs.declared.names.Pair.{Pair}
use Rattle.sight_names.specs.declared.names.PairRay.{PairRay}
use Rattle.sight_names.specs.Order.{Ascends, PairBefore}
use Rattle.cert_format.specs.Grammar.{IsPairInRange, IsRayInRange}
use Rattle.cert_format.specs.declared.cert.Sizes.{Sizes}
use Rattle.cert_format.proofs.LimitLaws.{few_of}
use Rattle.cert_format.specs.declared.cert_groups.cert.CertTwo.{CertTwo}
use Rattle.cert_checker.specs.Members.{AreMembersBelow}
use Rattle.cert_checker.specs.Pairs.{AreFitLists, IsPairWithin}
use Rattle.cert_checker.proofs.Lists.{each_at}
use Rattle.group_checker.specs.Members.{AreMembers}
use Rattle.group_checker.specs.Judged.{AreListsOfTwo, IsTwoOfSectors}

pub few_are : (n : ℕ) (c : CertTwo) → IsTwoOfSectors n c → (groups : List (List ℕ)) → groups ≡ c.groups → length groups ≤ MOST_TRIANGLES
few_are n c two groups same = subst (λ (gs : List (List ℕ)). length gs ≤ MOST_TRIANGLES) (sym same) (few_of two.0.points (length c.groups) two.1.few)

pub members_moved : (n : ℕ) (groups given lists moved : List (List ℕ)) → given ≡ groups → moved ≡ lists → AreMembers given n lists → AreMembers groups n moved
members_moved n groups given lists moved e f h = subst (λ (xs : List (List ℕ)). AreMembers groups n xs) (sym f) (subst (λ (gs : List (List ℕ)). AreMembers gs n lists) e h)

-- its groups are places of its table
pub members_below : (groups : List (List ℕ)) (n count : ℕ) (lists : List (List ℕ)) → count ≡ length groups → AreMembers groups n lists → AreMembersBelow count n lists
members_below groups n count lists size all = record {
  len = all.len;
  below = λ a f fs at has. let w = (all.each a fs at f).0 has in let l = slice_get_within groups f w.0 w.1 in omega (arith, l, size);
}

-- its list is of sectors, its rays are of groups
pub fit_lists : (n count : ℕ) (groups : List (List ℕ)) (pairs : List Pair) (rays : List PairRay) → count ≡ length groups → AreListsOfTwo n groups pairs rays → AreFitLists n count pairs rays
fit_lists n count groups pairs rays size w =
    let c = w.cert in record {
      listed = record {
        ascend = subst (Ascends PairBefore) (sym w.listed_is) w.two.1.listed_ascend;
        within = λ i q at. subst (λ (x : ℕ). IsPairWithin x q) w.two.2 (each_at (IsPairInRange w.two.0) c.listed i q w.two.1.listed (subst (λ (ps : List Pair). slice_get ps i ≡ Some q) w.listed_is at));
      };
      rays_within = λ i r at.
          let h : IsRayInRange c.cert.sizes r = each_at (IsRayInRange c.cert.sizes) c.cert.rays i r w.two.1.in_order.rays (subst (λ (rs : List PairRay). slice_get rs i ≡ Some r) w.rays_are at) in
          subst (λ (x : ℕ). IsPairWithin x r.pair) (ap (λ (s : Sizes). s.sectors) w.two.1.grouped ∙ sym (size ∙ ap length w.groups_are)) h.0;
    }
