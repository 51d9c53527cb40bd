-- What a walk has marked so far are the triangles that the sequences enter which it has opened; at its end these are all.
use Rattle.std.proofs.Common.{◌≡◌, ℕ, ◌<◌, ◌⊎◌, ◌↔◌, inl, inr, Bool, true, false, List, [], ◌∷◌, ◌++◌, length, length-append, map, Contains, Option, Some, None, sym, ap, ◌∙◌, subst, arith}
use Rattle.std.specs.List.{last_or}
use Rattle.std.proofs.lemmas.List.{append-nil}
use Rattle.std.proofs.lemmas.List.Elements.{Contains-append_left, Contains-push}
use Rattle.std.proofs.lemmas.Option.{same_Some}
use Rattle.math_base.proofs.Lists.{contains_none, contains_pushed, last_pushed}
use Rattle.sight_names.specs.declared.names.Budget.{Budget}
use Rattle.sight_names.specs.declared.names.Budget.TheVariants.{Of, Full}
use Rattle.sight_names.specs.declared.names.Side.{Side}
use Rattle.sight_names.specs.declared.names.Triangle.{Triangle}
use Rattle.sight_names.specs.Found.{IsStabbableSequence, Spent}
use Rattle.sight_names.specs.Map.{Map, map_of}
use Rattle.sight_names.specs.Mesh.{triangle_at}
use Rattle.sight_names.specs.Sequence.{Portal, Sequence, entry_edge, roots}
use Rattle.block_evidence.specs.declared.Evidence.{Evidence}
use Rattle.block_evidence.specs.declared.sight_tree.Node.{Node}
use Rattle.block_evidence.specs.declared.sight_tree.Node.TheVariants.{Open as OpenNode, Blocked as BlockedNode}
use Rattle.sight_lift.specs.SequenceLaws.Ways.{root_alone, both_ways_on}
use Rattle.sight_lift.proofs.SequenceLaws.Order.{same_portals}
use Rattle.sight_lift.proofs.SequenceLaws.Roots.{begins}
use Rattle.sight_lift.proofs.SequenceLaws.UnderWay.{IsUnderWay, passes_all, passes_blocked, place_now, opens, all_opened, none_beyond}
use Rattle.portal_walk.specs.Walk.{WalkParts, SameWalk, AnswersSequence, BlocksPending, LeadsPending, Ends, pending}
use Rattle.pair_budget.specs.FoundSectors.{one_less}
use Rattle.pair_budget.proofs.Exactly.{IsLeft, all_gone, all_left, less_left}
use Rattle.pair_answer.specs.EnteredTriangles.Entered.{Enters, EntersBySequence}
use Rattle.pair_answer.specs.EnteredTriangles.Marks.{IsNumberMarked}
use Rattle.pair_answer.specs.EnteredTriangles.Walks.{IsMarkedByWalk}

-- ---- what is marked

module _ (m : Map) (ts : List Triangle) (ls : List (Option ℕ)) (a : ℕ) (budget : Budget) where
  -- one of these sequences enters the triangle
  abbrev pub IsEnteredBy : List Sequence → ℕ → Type 0
  IsEnteredBy ss k = (s : Sequence) × Contains ss s × EntersBySequence m ts ls a k s

  -- these were opened so far; what they enter is marked, beside what was; and this is left of the budget
  pub record HasMarked (left : Budget) (ss : List Sequence) (old marks : List Bool) : Type 0 where
    pub opened : List Sequence
    pub under_way : IsUnderWay m ts ls a opened ss
    pub left_is : IsLeft budget left (length opened)
    pub marked : (k : ℕ) → IsNumberMarked marks k ↔ (IsNumberMarked old k ⊎ IsEnteredBy opened k)

  pub marked_begun : (old : List Bool) → HasMarked budget (map root_alone (roots m a)) old old
  marked_begun old = record { opened = []; under_way = begins m ts ls a; left_is = all_left budget; marked = λ k. (λ c. inl c, none k) }
    where
      none : (k : ℕ) → IsNumberMarked old k ⊎ IsEnteredBy [] k → IsNumberMarked old k
      none k (inl c) = c
      none k (inr (s, c, e)) = absurd (contains_none s c)

  pub marked_end : (left : Budget) (old marks : List Bool) → HasMarked left [] old marks → IsMarkedByWalk m ts ls budget a old marks true
  marked_end left old marks h = (not_spent budget h.left_is, λ k. (λ c. there k ((h.marked k).0 c), λ c. (h.marked k).1 (back k c)))
    where
      there : (k : ℕ) → IsNumberMarked old k ⊎ IsEnteredBy h.opened k → IsNumberMarked old k ⊎ Enters m ts ls a k
      there k (inl c) = inl c
      there k (inr (s, c, e)) = inr (s, e)

      back : (k : ℕ) → IsNumberMarked old k ⊎ Enters m ts ls a k → IsNumberMarked old k ⊎ IsEnteredBy h.opened k
      back k (inl c) = inl c
      back k (inr (s, e)) = inr (s, all_opened m ts ls a h.opened h.under_way s (e.portals, e.is, e.line), e)

      not_spent : (bound : Budget) → IsLeft bound left (length h.opened) → ¬ Spent m ts ls a bound
      not_spent (Of n) l (s, is, place) = by left l (none_beyond m ts ls a h.opened h.under_way s n is place)
        where
          by : (left : Budget) → IsLeft (Of n) left (length h.opened) → n < length h.opened → ⊥
          by (Of r) l lt = omega arith
          by Full l lt = l
      not_spent Full l spent = spent

  one_entered : (s : Sequence) (j k : ℕ) → EntersBySequence m ts ls a j s → EntersBySequence m ts ls a k s → j ≡ k
  one_entered s j k x y =
      let e = same_portals m ts ls a s x.portals y.portals x.is y.is in
      let l : x.into.last ≡ y.into.last = same_Some x.into.last y.into.last (sym x.into.is_last ∙ ap (last_or None) e ∙ y.into.is_last) in
      same_Some j k (sym x.into.triangle ∙ ap (λ (p : Portal). triangle_at ts (entry_edge p)) l ∙ y.into.triangle)

  module _ (left : Budget) (s : Sequence) (rest : List Sequence) (old marks : List Bool) (h : HasMarked left (s ∷ rest) old marks) (k : ℕ) (into : EntersBySequence m ts ls a k s) where
    is_stabbable : IsStabbableSequence m ts ls a s
    is_stabbable = (into.portals, into.is, into.line)

    pub marked_spent : ◌≡◌ {A = Option Budget} None (one_less left) → IsMarkedByWalk m ts ls budget a old marks false
    marked_spent gone = subst (λ (bound : Budget). Spent m ts ls a bound) (sym (all_gone budget left (length h.opened) h.left_is gone)) (s, is_stabbable, place_now m ts ls a h.opened s rest h.under_way is_stabbable)

    pub marked_opened : (less : Budget) → Some less ≡ one_less left → (new : List Bool) → ((j : ℕ) → IsNumberMarked new j ↔ (IsNumberMarked marks j ⊎ (k ≡ j))) → HasMarked less (both_ways_on s ++ rest) old new
    marked_opened less some new more = record {
      opened = h.opened ++ s ∷ [];
      under_way = opens m ts ls a h.opened s rest h.under_way is_stabbable;
      left_is = subst (IsLeft budget less) (sym (length-append h.opened (s ∷ []))) (less_left budget left less (length h.opened) h.left_is some);
      marked = λ j. (λ c. to j ((more j).0 c), λ c. (more j).1 (back j c));
    }
      where
        before : (j : ℕ) → IsNumberMarked old j ⊎ IsEnteredBy h.opened j → IsNumberMarked old j ⊎ IsEnteredBy (h.opened ++ s ∷ []) j
        before j (inl o) = inl o
        before j (inr (t, c, e)) = inr (t, Contains-append_left h.opened (s ∷ []) t c, e)

        to : (j : ℕ) → IsNumberMarked marks j ⊎ (k ≡ j) → IsNumberMarked old j ⊎ IsEnteredBy (h.opened ++ s ∷ []) j
        to j (inl c) = before j ((h.marked j).0 c)
        to j (inr e) = inr (s, Contains-push h.opened s, subst (λ (i : ℕ). EntersBySequence m ts ls a i s) e into)

        of_last : (j : ℕ) (t : Sequence) → EntersBySequence m ts ls a j t → Contains h.opened t ⊎ (s ≡ t) → IsNumberMarked marks j ⊎ (k ≡ j)
        of_last j t e (inl d) = inl ((h.marked j).1 (inr (t, d, e)))
        of_last j t e (inr q) = inr (one_entered s k j into (subst (λ (u : Sequence). EntersBySequence m ts ls a j u) (sym q) e))

        back : (j : ℕ) → IsNumberMarked old j ⊎ IsEnteredBy (h.opened ++ s ∷ []) j → IsNumberMarked marks j ⊎ (k ≡ j)
        back j (inl o) = inl ((h.marked j).1 (inl o))
        back j (inr (t, c, e)) = of_last j t e (contains_pushed h.opened s t c)

-- ---- over a walk

abbrev pub MarksOver : WalkParts → Budget → Budget → List Bool → List Bool → Type 0
MarksOver w budget left old marks = HasMarked (map_of w.plan) w.mesh.triangles w.labels w.source budget left (pending w) old marks

marks_moved : (old new : WalkParts) (budget left : Budget) (ss : List Sequence) (first marks : List Bool) → SameWalk old new → HasMarked (map_of old.plan) old.mesh.triangles old.labels old.source budget left ss first marks → HasMarked (map_of new.plan) new.mesh.triangles new.labels new.source budget left ss first marks
marks_moved old new budget left ss first marks k h = rw (k.plan, k.mesh, k.labels, k.source) h

pub marks_begin : (w : WalkParts) (budget : Budget) (first : List Bool) → pending w ≡ map root_alone (roots (map_of w.plan) w.source) → MarksOver w budget budget first first
marks_begin w budget first start = subst (λ (ss : List Sequence). HasMarked (map_of w.plan) w.mesh.triangles w.labels w.source budget budget ss first first) (sym start) (marked_begun (map_of w.plan) w.mesh.triangles w.labels w.source budget first)

walked_moved : (begun old : WalkParts) (budget : Budget) (first marks : List Bool) (ended : Bool) → SameWalk begun old → IsMarkedByWalk (map_of old.plan) old.mesh.triangles old.labels budget old.source first marks ended → IsMarkedByWalk (map_of begun.plan) begun.mesh.triangles begun.labels budget begun.source first marks ended
walked_moved begun old budget first marks ended i h = rw (sym i.plan, sym i.mesh, sym i.labels, sym i.source) h

module _ (old new : WalkParts) (budget left : Budget) (first marks : List Bool) (h : MarksOver old budget left first marks) where
  abbrev Has : List Sequence → Type 0
  Has ss = HasMarked (map_of old.plan) old.mesh.triangles old.labels old.source budget left ss first marks

  abbrev Way : List Sequence → Type 0
  Way ss = IsUnderWay (map_of old.plan) old.mesh.triangles old.labels old.source h.opened ss

  with_way : (ss : List Sequence) → Way ss → Has ss
  with_way ss way = record { opened = h.opened; under_way = way; left_is = h.left_is; marked = h.marked }

  -- what was passed over is no sequence
  way_to : (s : Sequence) (node : Node) (more : List Sequence) (step : AnswersSequence old new s node more) → Way (s ∷ step.rest)
  way_to s node more step = passes_all (map_of old.plan) old.mesh.triangles old.labels old.source h.opened step.skipped (s ∷ step.rest) (subst Way step.first h.under_way) step.none

  pub marks_blocked : SameWalk old new → (e : Evidence) → BlocksPending old new e → MarksOver new budget left first marks
  marks_blocked same e b =
      marks_moved old new budget left (pending new) first marks same
      (subst Has (sym b.answers.next) (with_way b.answers.rest
      (passes_blocked (map_of old.plan) old.mesh.triangles old.labels old.source h.opened b.sequence b.answers.rest (way_to b.sequence (BlockedNode e) [] b.answers) b.blocked.portals b.blocked.sequence b.blocked.stuck)))

  pub marks_end : (begun : WalkParts) → SameWalk begun old → Ends old new → IsMarkedByWalk (map_of begun.plan) begun.mesh.triangles begun.labels budget begun.source first marks true
  marks_end begun i e = walked_moved begun old budget first marks true i (marked_end (map_of old.plan) old.mesh.triangles old.labels old.source budget left first marks (with_way [] nothing_pending))
    where
      nothing_pending : Way []
      nothing_pending = passes_all (map_of old.plan) old.mesh.triangles old.labels old.source h.opened (pending old) [] (subst Way (sym (append-nil (pending old))) h.under_way) e.past

  module _ (k : ℕ) (entered : Option Side) (o : LeadsPending old new k entered) where
    into : EntersBySequence (map_of old.plan) old.mesh.triangles old.labels old.source k o.sequence
    into = record {
      portals = o.opened.before ++ o.opened.last ∷ [];
      is = o.opened.sequence;
      line = o.opened.stabbable;
      into = record { last = o.opened.last; is_last = last_pushed o.opened.last o.opened.before None; triangle = o.opened.triangle };
    }

    opened_next : Has (o.sequence ∷ o.answers.rest)
    opened_next = with_way (o.sequence ∷ o.answers.rest) (way_to o.sequence OpenNode (both_ways_on o.sequence) o.answers)

    pub marks_spent : (begun : WalkParts) → SameWalk begun old → ◌≡◌ {A = Option Budget} None (one_less left) → IsMarkedByWalk (map_of begun.plan) begun.mesh.triangles begun.labels budget begun.source first marks false
    marks_spent begun i gone = walked_moved begun old budget first marks false i (marked_spent (map_of old.plan) old.mesh.triangles old.labels old.source budget left o.sequence o.answers.rest first marks opened_next k into gone)

    pub marks_open : SameWalk old new → (less : Budget) → Some less ≡ one_less left → (later : List Bool) → ((j : ℕ) → IsNumberMarked later j ↔ (IsNumberMarked marks j ⊎ (k ≡ j))) → MarksOver new budget less first later
    marks_open same less some later more =
        marks_moved old new budget less (pending new) first later same
        (subst (λ (ss : List Sequence). HasMarked (map_of old.plan) old.mesh.triangles old.labels old.source budget less ss first later) (sym o.answers.next)
        (marked_opened (map_of old.plan) old.mesh.triangles old.labels old.source budget left o.sequence o.answers.rest first marks opened_next k into less some later more))
