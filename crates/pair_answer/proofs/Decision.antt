-- What the walks there and back decide: where one source finds none of the targets and its budget isn't spent, it sees none of them.
use Rattle.std.proofs.Common.{◌≡◌, ◌≢◌, ℕ, inl, inr, List, [], Option, slice_get, length, Contains, sym, subst}
use Rattle.std.specs.Prelude.{Result, Ok, Err, IfOk}
use Rattle.sight_names.specs.declared.names.Budget.{Budget}
use Rattle.sight_names.specs.declared.names.Memory.{Memory}
use Rattle.sight_names.specs.declared.names.Ray.{Ray}
use Rattle.sight_names.specs.declared.names.Triangle.{Triangle}
use Rattle.sight_names.specs.Found.{AreConnected, Found, Spent}
use Rattle.sight_names.specs.Map.{Map, IsMap}
use Rattle.sight_names.specs.Mesh.{IsGoodMesh}
use Rattle.sight_names.specs.Ray.{IsSightRay}
use Rattle.sight_names.specs.Sees.{Sees}
use Rattle.sight_names.specs.Sound.{LinesMeetAtEnds}
use Rattle.sight_names.proofs.Laws.{sees_sym}
use Rattle.sight_lift.proofs.LiftLaws.{sight_connects}
use Rattle.face_groups.proofs.GroupsBase.Ordered.{empty_has_none, some_member}
use Rattle.pair_budget.specs.Decided.{TellsConnected}
use Rattle.pair_answer.specs.declared.answer.PairAnswer.{PairAnswer}
use Rattle.pair_answer.specs.declared.answer.PairAnswer.TheVariants as answer
use Rattle.pair_answer.specs.Between.{AreApart, AreBlind, AreSomeLeft, AreSomeListed, AreUnfound, AreUnlisted, FindNone, IsAnswerBack, IsAnswerBetween, IsRayAcross}
use Rattle.pair_answer.specs.Numbers.{AreBelow}
use Rattle.pair_answer.specs.Places.{AreJoinedByComponent}
use Rattle.pair_answer.specs.Walks.{AreMissed, IsRayFrom}
use Rattle.pair_answer.proofs.Missed.{spent_if_seen}

module _ (m : Map) (ts : List Triangle) (ls : List (Option ℕ)) (budget : Budget) (components : List ℕ) where
  -- ---- the walks back

  module _ (spent to far : List ℕ) (joined : AreJoinedByComponent components to spent far) where
    pub ray_back : (ray turned : Ray) → IsRayFrom m ts ls budget far spent ray → ((a b : ℕ) → IsSightRay m ray a b → IsSightRay m turned b a) → IsRayAcross m ts ls budget spent to turned
    ray_back ray turned r turn = record { f = r.is_ray.k; k = r.f; start = r.is_ray.target; stop = ((joined r.f).0 r.source).0; sight = turn r.f r.is_ray.k r.is_ray.sight; found = inr r.is_ray.found }

    module _ (spent_too left : List ℕ) (missed : AreMissed m ts ls budget far spent spent_too) (both : AreJoinedByComponent components spent spent_too left) where
      pub find_none : FindNone m ts ls budget components spent to
      find_none f k cf ck j found = missed.missed k ((joined k).1 (ck, j)) f cf found

      pub none_left : left ≡ [] → ¬ AreSomeLeft m ts ls budget components spent to
      none_left empty (f, k, cf, ck, e, s) =
          let kf = (joined k).1 (ck, (f, cf, sym e)) in
          let there = (both f).1 (cf, (k, (missed.ran_out k).1 (kf, s), e)) in
          empty_has_none left f empty there

      pub some_left : left ≢ [] → AreSomeLeft m ts ls budget components spent to
      some_left some =
          let x = some_member left some in
          let h = (both x.0).0 x.1 in
          let s = (missed.ran_out h.1.0).0 h.1.1 in
          (x.0, h.1.0, h.0, ((joined h.1.0).0 s.0).0, h.1.2, s.1)

  -- ---- the walks there

  module _ (from to near : List ℕ) (joined : AreJoinedByComponent components from to near) where
    pub ray_there : (ray : Ray) → IsRayFrom m ts ls budget near to ray → IsRayAcross m ts ls budget from to ray
    ray_there ray r = record { f = r.f; k = r.is_ray.k; start = ((joined r.f).0 r.source).0; stop = r.is_ray.target; sight = r.is_ray.sight; found = inl r.is_ray.found }

    module _ (is_map : IsMap m) (ends : LinesMeetAtEnds m) (good : IsGoodMesh m ts ls) (seen : (f k : ℕ) → Found m ts ls f k budget → Sees m f k) (tells : TellsConnected m components)
        (low : AreBelow (length components) from) (low_too : AreBelow (length components) to) (apart : AreApart from to) (spent : List ℕ) (missed : AreMissed m ts ls budget near to spent) where
      differ : (f k : ℕ) → Contains from f → Contains to k → f ≢ k
      differ f k hf hk e = apart f hf (subst (λ (x : ℕ). Contains to x) (sym e) hk)

      same : (f k : ℕ) → Contains from f → Contains to k → AreConnected m f k → slice_get components f ≡ slice_get components k
      same f k hf hk = (tells f k (low f hf) (low_too k hk)).1

      same_seen : (f k : ℕ) → Contains from f → Contains to k → Sees m f k → slice_get components f ≡ slice_get components k
      same_seen f k hf hk sees = same f k hf hk (sight_connects m ts ls f k is_map good sees)

      in_near : (f k : ℕ) → Contains from f → Contains to k → slice_get components f ≡ slice_get components k → Contains near f
      in_near f k hf hk e = (joined f).1 (hf, (k, hk, sym e))

      not_found : (f k : ℕ) → Contains from f → Contains to k → ¬ Found m ts ls f k budget
      not_found f k hf hk found = missed.missed f (in_near f k hf hk (same_seen f k hf hk (seen f k found))) k hk found

      in_spent : (f k : ℕ) → Contains from f → Contains to k → slice_get components f ≡ slice_get components k → Spent m ts ls f budget → Contains spent f
      in_spent f k hf hk e s = (missed.ran_out f).1 (in_near f k hf hk e, s)

      spent_seen : (f k : ℕ) → Contains from f → Contains to k → Sees m f k → Contains spent f
      spent_seen f k hf hk sees = in_spent f k hf hk (same_seen f k hf hk sees) (spent_if_seen m ts ls good f k is_map ends budget (differ f k hf hk) sees (not_found f k hf hk))

      from_spent : (f : ℕ) → Contains spent f → Contains from f
      from_spent f c = ((joined f).0 ((missed.ran_out f).0 c).0).0

      across : (ray : Ray) → IsRayAcross m ts ls budget spent to ray → IsRayAcross m ts ls budget from to ray
      across ray r = record { f = r.f; k = r.k; start = from_spent r.f r.start; stop = r.stop; sight = r.sight; found = r.found }

      module _ (none : FindNone m ts ls budget components spent to) where
        not_found_back : (f k : ℕ) → Contains from f → Contains to k → ¬ Found m ts ls k f budget
        not_found_back f k hf hk found =
            let sees = sees_sym m k f (seen k f found) in
            let cf = spent_seen f k hf hk sees in
            none f k cf hk (f, cf, same_seen f k hf hk sees) found

        unfound : AreUnfound m ts ls budget from to
        unfound f k hf hk = (not_found f k hf hk, not_found_back f k hf hk)

        blind : ¬ AreSomeLeft m ts ls budget components spent to → AreBlind m ts ls budget from to
        blind nothing f k hf hk sees =
            nothing (f, k, spent_seen f k hf hk sees, hk, sym (same_seen f k hf hk sees), spent_if_seen m ts ls good k f is_map ends budget (λ e. differ f k hf hk (sym e)) (sees_sym m f k sees) (not_found_back f k hf hk))

        unlisted : ¬ AreSomeLeft m ts ls budget components spent to → AreUnlisted m ts ls budget from to
        unlisted nothing f k hf hk l = let e = same f k hf hk l.connected in nothing (f, k, in_spent f k hf hk e l.spent, hk, sym e, l.spent_too)

        listed : AreSomeLeft m ts ls budget components spent to → AreSomeListed m ts ls budget from to
        listed (f, k, cf, hk, e, s) =
            let hf = from_spent f cf in (
              f,
              k,
              hf,
              hk,
              record {
                differ = differ f k hf hk;
                connected = (tells f k (low f hf) (low_too k hk)).0 (sym e);
                not_found = not_found f k hf hk;
                not_found_back = not_found_back f k hf hk;
                spent = ((missed.ran_out f).0 cf).1;
                spent_too = s;
              },
            )

      pub decides : (given : PairAnswer) → IsAnswerBack m ts ls budget components spent to given → IsAnswerBetween m ts ls budget from to given
      decides (answer.Sight ray) h = across ray h
      decides answer.Blind h = (blind h.0 h.1, unlisted h.0 h.1)
      decides answer.Listed h = (unfound h.0, listed h.0 h.1)
      decides answer.Touch h = absurd h
      decides (answer.NoSector k) h = absurd h

-- where a call gives an answer, what is known of it gives what is asked
pub ok_so : (r : Result PairAnswer Memory) (P Q : PairAnswer → Type 0) → ((x : PairAnswer) → P x → Q x) → IfOk r P → IfOk r Q
ok_so (Ok x) P Q f h = f x h
ok_so (Err e) P Q f h = tt
