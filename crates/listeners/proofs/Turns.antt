-- Findings told one after another: what is told so far, and what is left to tell.
use Rattle.std.proofs.Common.{◌≡◌, ◌∙◌, List, [], ◌∷◌, ◌++◌, refl, sym, ap, subst, append_assoc}
use Rattle.std.proofs.lemmas.List.{append-nil}
use Rattle.listeners.specs.declared.finding.Finding.{Finding}
use Rattle.listeners.specs.Listening.{ListenerState}
use Rattle.listeners.specs.Told.{AreToldInTurn, StopsAmong, TellsAllFindings, TellsInPart, TellsOk}
use Rattle.listeners.proofs.InTurn.{told_none}

-- ---- one list of findings, and then another

in_turn_both : (fs gs : List Finding) (before between left first others : List ListenerState) → AreToldInTurn fs before between first → AreToldInTurn gs between left others → AreToldInTurn (fs ++ gs) before left (first ++ others)
in_turn_both [] gs before between left first others h k =
    subst (λ (l : List ListenerState). AreToldInTurn gs l left (first ++ others)) h.0 (subst (λ (l : List ListenerState). AreToldInTurn gs between left (l ++ others)) (sym h.1) k)
in_turn_both (f ∷ fs) gs before between left first others h k = (
  h.0,
  h.1,
  h.2 ++ others,
  h.3,
  in_turn_both fs gs h.0 between left h.2 others h.4 k,
  ap (λ (l : List ListenerState). l ++ others) h.5 ∙ append_assoc h.1 h.2 others,
)

pub tells_none : (old ended : List ListenerState) → TellsAllFindings [] old old ended ended
tells_none old ended = record { ended = []; told = (refl, refl); ended_is = sym (append-nil ended) }

pub tells_one : (f : Finding) (old new ended_old ended_new : List ListenerState) → TellsOk f old new ended_old ended_new → TellsAllFindings (f ∷ []) old new ended_old ended_new
tells_one f old new ended_old ended_new h = record {
  ended = h.ended;
  told = (new, h.ended, [], h.told, (refl, refl), sym (append-nil h.ended));
  ended_is = h.ended_is;
}

tells_both : (fs gs : List Finding) (old between new ended_old ended ended_new : List ListenerState) → TellsAllFindings fs old between ended_old ended → TellsAllFindings gs between new ended ended_new → TellsAllFindings (fs ++ gs) old new ended_old ended_new
tells_both fs gs old between new ended_old ended ended_new h k = record {
  ended = h.ended ++ k.ended;
  told = in_turn_both fs gs old between new h.ended k.ended h.told k.told;
  ended_is = k.ended_is ∙ ap (λ (l : List ListenerState). l ++ k.ended) h.ended_is ∙ append_assoc ended_old h.ended k.ended;
}

-- where nobody is left, all is told
none_left : (fs : List Finding) → AreToldInTurn fs [] [] []
none_left [] = (refl, refl)
none_left (f ∷ fs) = ([], [], [], told_none f, none_left fs, refl)

-- ---- what is left to tell

-- of all findings those in front are told, and the rest is left to tell
pub record IsUnderWay (all rest : List Finding) (old new ended_old ended_new : List ListenerState) : Type 0 where
  pub done : List Finding
  pub is : all ≡ done ++ rest
  pub told : TellsAllFindings done old new ended_old ended_new

pub under_way : (all rest : List Finding) (old ended : List ListenerState) → rest ≡ all → IsUnderWay all rest old old ended ended
under_way all rest old ended e = record { done = []; is = sym e; told = tells_none old ended }

module _ (all rest : List Finding) (old new ended_old ended : List ListenerState) (h : IsUnderWay all rest old new ended_old ended) where
  -- some more are told
  pub under_way_more : (fs left : List Finding) (after ended_new : List ListenerState) → rest ≡ fs ++ left → TellsAllFindings fs new after ended ended_new → IsUnderWay all left old after ended_old ended_new
  under_way_more fs left after ended_new e k = record {
    done = h.done ++ fs;
    is = h.is ∙ ap (λ (l : List Finding). h.done ++ l) e ∙ sym (append_assoc h.done fs left);
    told = tells_both h.done fs old new after ended_old ended ended_new h.told k;
  }

  -- nothing is left to tell
  pub told_all : rest ≡ [] → TellsAllFindings all old new ended_old ended
  told_all e = subst (λ (l : List Finding). TellsAllFindings l old new ended_old ended) (sym (h.is ∙ ap (λ (l : List Finding). h.done ++ l) e ∙ append-nil h.done)) h.told

  -- nobody is left
  pub told_to_none : new ≡ [] → TellsAllFindings all old new ended_old ended
  told_to_none e = subst (λ (l : List Finding). TellsAllFindings l old new ended_old ended) (sym h.is)
      (tells_both h.done rest old new new ended_old ended ended h.told
      (subst (λ (l : List ListenerState). TellsAllFindings rest l l ended ended) (sym e) (record { ended = []; told = none_left rest; ended_is = sym (append-nil ended) })))

  -- memory ran out among those that come next
  pub stops_on_way : (fs left : List Finding) (after ended_new : List ListenerState) → rest ≡ fs ++ left → StopsAmong fs new after ended ended_new → StopsAmong all old after ended_old ended_new
  stops_on_way fs left after ended_new e k = record {
    done = h.done ++ k.done;
    at = k.at;
    rest = k.rest ++ left;
    is = h.is ∙ ap (λ (l : List Finding). h.done ++ l) (e ∙ ap (λ (l : List Finding). l ++ left) k.is ∙ append_assoc k.done (k.at ∷ k.rest) left) ∙ sym (append_assoc h.done k.done (k.at ∷ (k.rest ++ left)));
    between = k.between;
    ended_between = k.ended_between;
    told = tells_both h.done k.done old new k.between ended_old ended k.ended_between h.told k.told;
    in_part = k.in_part;
  }

-- .. at the first of them
pub stops_at : (f : Finding) (old new ended_old ended_new : List ListenerState) → TellsInPart f old new ended_old ended_new → StopsAmong (f ∷ []) old new ended_old ended_new
stops_at f old new ended_old ended_new h = record {
  done = [];
  at = f;
  rest = [];
  is = refl;
  between = old;
  ended_between = ended_old;
  told = tells_none old ended_old;
  in_part = h;
}
