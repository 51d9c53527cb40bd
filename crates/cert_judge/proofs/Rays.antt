-- One ray more: all are sight rays, or the first that isn't stays the first.
use Rattle.std.proofs.Common.{◌≡◌, ℕ, ◌<◌, inl, inr, List, [], ◌∷◌, ◌++◌, Option, Some, None, length, subst, arith}
use Rattle.std.specs.List.{slice_get}
use Rattle.std.specs.Prelude.{IfSome, MatchOption}
use Rattle.std.proofs.lemmas.Option.{slice_get_within}
use Rattle.sight_names.specs.declared.faults.CheckFault.{CheckFault}
use Rattle.sight_names.specs.declared.names.PairRay.{PairRay}
use Rattle.sight_names.specs.Map.{Map}
use Rattle.sight_names.specs.Ray.{IsSightRay}
use Rattle.cert_checker.specs.Judged.{IsRayFaultOf}
use Rattle.cert_checker.specs.Rays.{AreSightRaysBelow, IsCheckFaultOf}
use Rattle.cert_judge.specs.OnMesh.{IsRayFaultIn}
use Rattle.math_base.proofs.Lists.{get_pushed, get_before_pushed, pushed_at}

module _ (m : Map) (rays : List PairRay) (one : PairRay) where
  -- what stands before the last of the rays
  before_one : (i : ℕ) (r : PairRay) → i < length rays → slice_get (rays ++ one ∷ []) i ≡ Some r → slice_get rays i ≡ Some r
  before_one i r l e = elim (pushed_at rays one r i e) as (λ _. slice_get rays i ≡ Some r) [ inl h ↦ h | inr h ↦ (let q : i ≡ length rays = h.0 in absurd (omega (arith, q, l))) ]

  pub one_more_sight : AreSightRaysBelow m rays (length rays) → IsSightRay m one.ray one.pair.a one.pair.b → AreSightRaysBelow m (rays ++ one ∷ []) (length (rays ++ one ∷ []))
  one_more_sight below here i r l e = elim (pushed_at rays one r i e) as (λ _. IsSightRay m r.ray r.pair.a r.pair.b) [
    | inl h ↦ below i r (slice_get_within rays i r h) h
    | inr h ↦ subst (λ (q : PairRay). IsSightRay m q.ray q.pair.a q.pair.b) h.1 here
  ]

  pub one_is_wrong : (f : CheckFault) → AreSightRaysBelow m rays (length rays) → IsRayFaultOf f → IsCheckFaultOf m one f → IsRayFaultIn m (rays ++ one ∷ []) f
  one_is_wrong f below kind fault = record { kind = kind; first = record { place = length rays; ray = one; is = get_pushed rays one; fault = fault; before = λ i r l e. below i r l (before_one i r l e) } }

  pub still_wrong : (f : CheckFault) → IsRayFaultIn m rays f → IsRayFaultIn m (rays ++ one ∷ []) f
  still_wrong f w = record {
    kind = w.kind;
    first = record {
      place = w.first.place;
      ray = w.first.ray;
      is = get_before_pushed rays one w.first.ray w.first.place w.first.is;
      fault = w.first.fault;
      before = λ i r l e. let h : w.first.place < length rays = slice_get_within rays w.first.place w.first.ray w.first.is in w.first.before i r l (before_one i r (omega (arith, l, h)) e);
    };
  }

  -- by what is told of the one, where no ray was wrong
  pub rays_with : (o : Option CheckFault) → AreSightRaysBelow m rays (length rays) → IfSome o IsRayFaultOf → MatchOption o (IsSightRay m one.ray one.pair.a one.pair.b) (IsCheckFaultOf m one)
      → MatchOption o (AreSightRaysBelow m (rays ++ one ∷ []) (length (rays ++ one ∷ []))) (IsRayFaultIn m (rays ++ one ∷ []))
  rays_with None below kind told = one_more_sight below told
  rays_with (Some f) below kind told = one_is_wrong f below kind told
