-- Whether a sector is found from another can be told, over a good mesh; and what is found is seen.
use Rattle.std.proofs.Common.{◌≡◌, ℕ, zero, suc, ◌<◌, ◌⊎◌, inl, inr, List, length, slice_get, Contains, Option, Some, None, refl, sym, ap, ◌∙◌, subst, arith, option_and_then}
use Rattle.std.proofs.lemmas.Option.{none-some, same_Some, slice_get_within}
use Rattle.math_base.proofs.Numbers.{below_or_at, below_or_not, same_or_not}
use Rattle.sight_names.specs.declared.names.Budget.{Budget}
use Rattle.sight_names.specs.declared.names.Budget.TheVariants.{Of, Full}
use Rattle.sight_names.specs.declared.names.Side.{Side}
use Rattle.sight_names.specs.declared.names.Triangle.{Triangle}
use Rattle.sight_names.specs.Map.{Map, MapLine, IsMap, Names, sector_on}
use Rattle.sight_names.specs.Mesh.{IsGoodMesh}
use Rattle.sight_names.specs.Sees.{Sees}
use Rattle.sight_names.specs.Sound.{LinesMeetAtEnds}
use Rattle.sight_names.specs.Sequence.{Portal, Sequence, reached, roots}
use Rattle.sight_names.specs.Found.{Found, IsStabbableSequence, IsWithinBudget, Reaches}
use Rattle.sight_names.proofs.Lists.{contains_of_get}
use Rattle.mesh_base.proofs.SightLaws.SightLaws.{sees_itself}
use Rattle.sight_lift.proofs.LiftLaws.{sight_is_lifted}
use Rattle.sight_lift.proofs.Sequences.{root_is}
use Rattle.sight_lift.specs.SequenceLaws.InOrder.{AreSequencesInOrder}
use Rattle.sight_lift.proofs.SequenceLaws.All.{stand_in_order}

module _ (m : Map) (ts : List Triangle) (ls : List (Option ℕ)) (good : IsGoodMesh m ts ls) (a b : ℕ) (budget : Budget) where
  order : AreSequencesInOrder m ts ls a
  order = stand_in_order m ts ls a good

  -- the sequence at this place finds it
  abbrev IsHit : ℕ → Type 0
  IsHit i = (s : Sequence) × (slice_get order.all i ≡ Some s) × IsWithinBudget m ts ls budget i × Reaches m ts ls a s b

  within_or_not : (c : Budget) (i : ℕ) → IsWithinBudget m ts ls c i ⊎ ¬ IsWithinBudget m ts ls c i
  within_or_not (Of n) i = elim (below_or_not i n) as (λ _. IsWithinBudget m ts ls (Of n) i ⊎ ¬ IsWithinBudget m ts ls (Of n) i) [ inl lt ↦ inl lt | inr ge ↦ inr (λ lt. omega (arith, lt, ge)) ]
  within_or_not Full i = inl tt

  reaches_or_not : (s : Sequence) → IsStabbableSequence m ts ls a s → Reaches m ts ls a s b ⊎ ¬ Reaches m ts ls a s b
  reaches_or_not s (ps, is, stabs) = go (reached ts ls ps) refl
    where
      other : Reaches m ts ls a s b → reached ts ls ps ≡ Some b
      other r = subst (λ (qs : List Portal). reached ts ls qs ≡ Some b) (same_Some r.0 ps (sym r.1.portals ∙ is.portals)) r.3

      go : (o : Option ℕ) → reached ts ls ps ≡ o → Reaches m ts ls a s b ⊎ ¬ Reaches m ts ls a s b
      go None e = inr (λ r. none-some b (sym e ∙ other r))
      go (Some c) e = elim (same_or_not c b) as (λ _. Reaches m ts ls a s b ⊎ ¬ Reaches m ts ls a s b) [
        | inl q ↦ inl (ps, is, stabs, e ∙ ap (λ (x : ℕ). Some x) q)
        | inr n ↦ inr (λ r. n (same_Some c b (sym e ∙ other r)))
      ]

  hit_or_not : (i : ℕ) → IsHit i ⊎ ¬ IsHit i
  hit_or_not i = go (slice_get order.all i) refl
    where
      at : (s : Sequence) → slice_get order.all i ≡ Some s → IsWithinBudget m ts ls budget i → Reaches m ts ls a s b ⊎ ¬ Reaches m ts ls a s b → IsHit i ⊎ ¬ IsHit i
      at s e w (inl r) = inl (s, e, w, r)
      at s e w (inr n) = inr (λ h. n (subst (λ (x : Sequence). Reaches m ts ls a x b) (same_Some h.0 s (sym h.1 ∙ e)) h.3))

      go : (o : Option Sequence) → slice_get order.all i ≡ o → IsHit i ⊎ ¬ IsHit i
      go None e = inr (λ h. none-some h.0 (sym e ∙ h.1))
      go (Some s) e = elim (within_or_not budget i) as (λ _. IsHit i ⊎ ¬ IsHit i) [
        | inl w ↦ at s e w (reaches_or_not s ((order.are.exactly s).0 (contains_of_get order.all s i e)))
        | inr n ↦ inr (λ h. n h.2)
      ]

  hit_below : (n : ℕ) → ((i : ℕ) × IsHit i) ⊎ ((i : ℕ) → i < n → ¬ IsHit i)
  hit_below zero = inr (λ i lt. absurd (omega (arith, lt)))
  hit_below (suc n) = elim (hit_or_not n) as (λ _. ((i : ℕ) × IsHit i) ⊎ ((i : ℕ) → i < suc n → ¬ IsHit i)) [
    | inl h ↦ inl (n, h)
    | inr none ↦ elim (hit_below n) as (λ _. ((i : ℕ) × IsHit i) ⊎ ((i : ℕ) → i < suc n → ¬ IsHit i)) [
      | inl h ↦ inl h
      | inr before ↦ inr (λ i lt. elim (below_or_at i n lt) as (λ _. ¬ IsHit i) [ inl l ↦ before i l | inr e ↦ subst (λ (x : ℕ). ¬ IsHit x) (sym e) none ])
    ]
  ]

  pub found_or_not : Found m ts ls a b budget ⊎ ¬ Found m ts ls a b budget
  found_or_not = elim (hit_below (length order.all)) as (λ _. Found m ts ls a b budget ⊎ ¬ Found m ts ls a b budget) [
    | inl h ↦ inl ((order.found b budget).1 (h.0, h.1.0, h.1.1, h.1.2, h.1.3))
    | inr none ↦ inr (λ f. let x = (order.found b budget).0 f in none x.0 (slice_get_within order.all x.0 x.1 x.2) (x.1, x.2, x.3, x.4))
  ]

  pub found_sees : IsMap m → LinesMeetAtEnds m → Found m ts ls a b budget → Sees m a b
  found_sees is_map ends h = elim (same_or_not a b) as (λ _. Sees m a b) [
    | inr differ ↦ (sight_is_lifted m ts ls a b is_map ends good differ).1 (h.0, h.2)
    | inl e ↦ subst (λ (x : ℕ). Sees m a x) e ((sees_itself m a is_map ends).1 (h.0.root, named_root h.0.root (h.2.1.root)))
  ]
    where
      named_root : (s : Side) → Contains (roots m a) s → Names m s a
      named_root s c = let r = root_is m a s c in ap (option_and_then (λ (l : MapLine). sector_on l s.left)) r.is ∙ r.names
