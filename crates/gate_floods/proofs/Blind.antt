-- Claims of blindness that trees keep by rows, whose masks rest on the claims: no shortest sequence shows one of them wrong.
use Rattle.std.proofs.Common.{◌≡◌, ◌≢◌, ℕ, zero, suc, ◌≤◌, ◌⊎◌, inl, inr, List, [], ◌∷◌, ◌++◌, length, Option, Some, Contains, sym, ap, subst, arith}
use Rattle.sight_names.specs.declared.names.Triangle.{Triangle}
use Rattle.sight_names.specs.Map.{Map, IsMap}
use Rattle.sight_names.specs.Mesh.{IsGoodMesh}
use Rattle.sight_names.specs.Sees.{Sees}
use Rattle.sight_names.specs.Sound.{LinesMeetAtEnds}
use Rattle.sight_names.specs.Sequence.{Portal, Splits, reached, roots}
use Rattle.block_evidence.specs.declared.sight_tree.Tree.{Tree}
use Rattle.math_base.proofs.Options.{none_is_not_some}
use Rattle.math_base.proofs.Lists.{contains_left}
use Rattle.sight_lift.proofs.LiftLaws.{sight_is_lifted}
use Rattle.sight_lift.proofs.Sequences.{begun}
use Rattle.gate_floods.specs.Reaching.{ReachesWithin}
use Rattle.gate_floods.proofs.Cutting.{NoWalls, cut_behind, turned_back}
use Rattle.gate_floods.specs.Gates.{IsGate, IsBeyond}
use Rattle.gate_floods.specs.Rows.{IsInRow, IsEmptyRow, HasRow, EntersNone, RootsAsked, KeepsByRows}
use Rattle.gate_floods.specs.Laws.{ClaimsAreRight}
use Rattle.gate_floods.proofs.Flooding.{gate_enters, beyond_each}
use Rattle.gate_floods.proofs.Following.{followed_or_skipped}

module _ (m : Map) (ts : List Triangle) (ls : List (Option ℕ)) (Claims Owns : ℕ → ℕ → Type 0) (is_map : IsMap m) (ends : LinesMeetAtEnds m) (good : IsGoodMesh m ts ls)
    (owned : (a b : ℕ) → Claims a b → (a ≢ b) × (Owns a b ⊎ Owns b a)) (kept : (a b : ℕ) → Owns a b → (t : Tree) × (t.source ≡ a) × KeepsByRows m ts ls Claims (Owns a) t) where
  -- no claim is shown wrong by a sequence with at most so many portals
  abbrev NoneWithin : ℕ → Type 0
  NoneWithin n = (a b : ℕ) → Claims a b → ReachesWithin m ts ls n a b → ⊥

  module _ (n a c : ℕ) (none : NoneWithin n) (r : ReachesWithin m ts ls (suc n) a c) where
    beyond : (p : Portal) (b d : ℕ) → Contains r.portals p → IsGate m b d p → IsBeyond m Claims b d p c
    beyond p b d there gate =
        let g = begun m is_map ts ls good a r.sequence r.portals r.is in
        let count : length r.portals ≡ suc (length g.rest) = ap (λ (rs : List Portal). length rs) g.all in
        let few = r.few in
        beyond_each m is_map ts ls good Claims r.line.0 r.line.1 r.line.2 (λ e f h. (owned e f h).0) n none b d c p gate r.sequence.ways g.p g.rest g.k g.c g.from g.found g.label
        (subst (NoWalls m is_map ts ls good) g.all r.is.no_wall)
        (subst (λ (rs : List Portal). Splits m rs r.line.0 r.line.1 r.line.2) g.all r.line.3)
        (subst (λ (rs : List Portal). reached ts ls rs ≡ Some c) g.all r.arrives)
        (omega (arith, count, few))
        (subst (λ (rs : List Portal). Contains rs p) g.all there)

    -- the far sector of a gate on the way isn't claimed not to see c: it does by a shorter sequence
    unclaimed : (p : Portal) (b d : ℕ) → Contains r.portals p → IsGate m b d p → ¬ Claims d c
    unclaimed p b d there gate claim =
        let e = gate_enters m ts ls good b d p gate in
        none d c claim (cut_behind m is_map ts ls good r.line.0 r.line.1 r.line.2 d c (λ q. (owned d c claim).0 (sym q)) a n r.sequence r.portals p e.0 r.is r.line.3 r.arrives r.few there e.1 e.2)

    -- c stays in the row behind the first ones of the portals
    stays : (front back : List Portal) → r.portals ≡ front ++ back → Owns a c → IsInRow m Claims (Owns a) front c
    stays front back parts owns = record {
      keeps = owns;
      masked = λ p b d there gate.
          let on = subst (λ (ps : List Portal). Contains ps p) (sym parts) (contains_left p front back there) in
          record { beyond = beyond p b d on gate; unclaimed = unclaimed p b d on gate };
    }

    all_of_it : (ps : List Portal) → ps ≡ ps ++ []
    all_of_it [] = λ i. []
    all_of_it (p ∷ ps) = ap (λ (qs : List Portal). p ∷ qs) (all_of_it ps)

    own_wrong : Owns a c → ⊥
    own_wrong owns =
        let k = kept a c owns in
        let Skips : List Portal → Type 0 = IsEmptyRow m Claims (Owns a) in
        let Asks : List Portal → Type 0 = HasRow m Claims (Owns a) in
        let Enters : List Portal → Type 0 = EntersNone m ts ls Claims (Owns a) in
        let whole = subst (λ (i : ℕ). RootsAsked m ts ls i Skips Asks Enters (roots m i) k.0.nodes) k.1 k.2 in
        elim (followed_or_skipped m ts ls a Skips Asks Enters r.sequence r.portals k.0.nodes whole r.is (r.line)) as (λ _. ⊥) [
          | inl enters ↦ enters c r.arrives (stays r.portals [] (all_of_it r.portals) owns)
          | inr h ↦ h.skips c (stays h.front h.back h.parts owns)
        ]

  no_portal : (ps : List Portal) (b : ℕ) → length ps ≤ 0 → reached ts ls ps ≡ Some b → ⊥
  no_portal [] b l e = none_is_not_some b e
  no_portal (p ∷ ps) b l e = absurd (omega arith)

  none_within : (n : ℕ) → NoneWithin n
  none_within zero a b claim r = no_portal r.portals b r.few r.arrives
  none_within (suc n) a b claim r =
      let o = owned a b claim in
      elim o.1 as (λ _. ⊥) [
        | inl own ↦ own_wrong n a b (none_within n) r own
        | inr own ↦ own_wrong n b a (none_within n) (turned_back m is_map ts ls good (suc n) a b o.0 r) own
      ]

  pub claim_right : (a b : ℕ) → Claims a b → ¬ Sees m a b
  claim_right a b claim sees =
      let x = (sight_is_lifted m ts ls a b is_map ends good (owned a b claim).0).0 sees in
      none_within (length x.1.0) a b claim (record { sequence = x.0; portals = x.1.0; is = x.1.1; line = x.1.2; arrives = x.1.3; few = omega arith })

pub claims_are_right : ClaimsAreRight
claims_are_right m ts ls Claims Owns is_map ends good owned kept = claim_right m ts ls Claims Owns is_map ends good owned kept
