-- A list of listeners before and after findings are told.
use Rattle.std.specs.Prelude.{◌≡◌, ◌⊎◌, ℕ, ◌+◌, Bool, false, ◌&&◌, not, nat_lt, nat_le, List, [], ◌∷◌, ◌++◌, take, Option, Some, None, filter, ⊤}
use Rattle.std.specs.List.{AllZip}
use Rattle.listeners.specs.declared.finding.Finding.{Finding}
use Rattle.listeners.specs.Listening.{ListenerState, is_quota, is_set_kind, listener_text, sets_in}

-- a listener heard these findings more, and writes of what it heard as before, with the quota that it had
pub record HeardMore (findings : List Finding) (before after : ListenerState) : Type 0 where
  pub heard : after.heard ≡ before.heard ++ findings
  pub writes : after.writes ≡ before.writes
  pub quota : after.quota ≡ before.quota

-- ---- one finding

-- the finding is the last set pair of the quota of a listener that heard it last
abbrev pub ends_with : Finding → ListenerState → Bool
ends_with f s = is_set_kind f.kind && is_quota s.quota (sets_in s.heard)

-- Each listener of a list hears a finding once. Those for which it is the last stand apart then, the others stay, all in their order.
pub record IsFindingTold (f : Finding) (before left ended : List ListenerState) : Type 0 where
  pub told : List ListenerState
  pub each : AllZip (HeardMore (f ∷ [])) before told
  pub left_is : left ≡ filter (λ s. not (ends_with f s)) told
  pub ended_is : ended ≡ filter (ends_with f) told

-- the listeners in front were told, and those behind weren't
pub record IsToldInPart (f : Finding) (before left ended : List ListenerState) : Type 0 where
  pub front : List ListenerState
  pub behind : List ListenerState
  pub is : before ≡ front ++ behind
  pub stay : List ListenerState
  pub told : IsFindingTold f front stay ended
  pub left_is : left ≡ stay ++ behind

-- .. and those for which it is the last stand behind those that ended before
pub record TellsOk (f : Finding) (old new ended_old ended_new : List ListenerState) : Type 0 where
  pub ended : List ListenerState
  pub told : IsFindingTold f old new ended
  pub ended_is : ended_new ≡ ended_old ++ ended

pub record TellsInPart (f : Finding) (old new ended_old ended_new : List ListenerState) : Type 0 where
  pub ended : List ListenerState
  pub told : IsToldInPart f old new ended
  pub ended_is : ended_new ≡ ended_old ++ ended

-- ---- findings in turn

-- Each finding is told to the listeners that are left by then. Those for which it is the last stand apart, in the order in which they end.
abbrev pub AreToldInTurn : List Finding → List ListenerState → List ListenerState → List ListenerState → Type 0
AreToldInTurn [] before left ended = (left ≡ before) × (ended ≡ [])
AreToldInTurn (f ∷ fs) before left ended = (between first others : List ListenerState) × IsFindingTold f before between first × AreToldInTurn fs between left others × (ended ≡ first ++ others)

-- .. behind those that ended before
pub record TellsAllFindings (fs : List Finding) (old new ended_old ended_new : List ListenerState) : Type 0 where
  pub ended : List ListenerState
  pub told : AreToldInTurn fs old new ended
  pub ended_is : ended_new ≡ ended_old ++ ended

-- the findings in front of one of them were told, and that one in part
pub record StopsAmong (fs : List Finding) (old new ended_old ended_new : List ListenerState) : Type 0 where
  pub done : List Finding
  pub at : Finding
  pub rest : List Finding
  pub is : fs ≡ done ++ at ∷ rest
  pub between : List ListenerState
  pub ended_between : List ListenerState
  pub told : TellsAllFindings done old between ended_old ended_between
  pub in_part : TellsInPart at between new ended_between ended_new

-- the texts of a list of listeners in order
abbrev pub texts : List ListenerState → List ℕ
texts [] = []
texts (s ∷ ss) = listener_text s ++ texts ss

-- ---- many findings

-- the last set pair of a listener's quota is among these findings
abbrev pub ends_within : List Finding → Option ℕ → ℕ → Bool
ends_within fs None heard = false
ends_within fs (Some quota) heard = nat_lt heard quota && nat_le quota (heard + sets_in fs)

abbrev pub ends_among : List Finding → ListenerState → Bool
ends_among fs s = ends_within fs s.quota (sets_in s.heard)

-- Each listener whose last set pair is among the findings is gone; all others are left in their order, and heard just these more. The
-- report is the texts of those that are gone, where there are any, and then of those that are left.
pub record AreFindingsTold (fs : List Finding) (before after : List ListenerState) (report : List ℕ) : Type 0 where
  pub left : AllZip (HeardMore fs) (filter (λ s. not (ends_among fs s)) before) after
  pub first : List ℕ
  pub none : filter (ends_among fs) before ≡ [] → first ≡ []
  pub report_is : report ≡ first ++ texts after

-- a listener heard a front of the findings more
abbrev pub HeardFront : List Finding → ListenerState → ListenerState → Type 0
HeardFront fs before after = (n : ℕ) × HeardMore (take n fs) before after

-- each listener that is left is one of those before, in their order, and heard a front of the findings
abbrev pub HeardFronts : List Finding → List ListenerState → List ListenerState → Type 0
HeardFronts fs [] [] = ⊤
HeardFronts fs [] (t ∷ ts) = ⊥
HeardFronts fs (s ∷ ss) [] = HeardFronts fs ss []
HeardFronts fs (s ∷ ss) (t ∷ ts) = (HeardFront fs s t × HeardFronts fs ss ts) ⊎ HeardFronts fs ss (t ∷ ts)
