-- The flaw of a map is the only one.
use Rattle.std.proofs.Common.{◌≡◌, ◌⊎◌, inl, inr, ℕ, Result, Ok, Err, Bool, true, false, sym, ◌∙◌, refl, ap}
use Rattle.sight_names.specs.declared.faults.LineFault.{LineFault}
use Rattle.sight_names.specs.declared.names.Side.{Side}
use Rattle.sight_names.specs.Groups.{HasClosedFaces}
use Rattle.sight_names.specs.Map.{Map}
use Rattle.mesh_shape.specs.Faults.{IsFirstSideAgainst, IsSideBefore}
use Rattle.map_answers.specs.declared.sight_status.status.Flaw.{Flaw}
use Rattle.map_answers.specs.declared.sight_status.status.Flaw.TheVariants as flaw
use Rattle.map_answers.specs.declared.sight_status.status.Status.{Status}
use Rattle.map_answers.specs.declared.sight_status.status.Status.TheVariants as status
use Rattle.map_answers.specs.SightStatus.Answer.{Answer, GivesCalled}
use Rattle.map_answers.specs.Sound.{HasLineFault, HasOpenSide, HasSoundLines, IsAuditRefusal, IsFlaw}
use Rattle.math_base.proofs.Numbers.{below_above_or_same}

-- ---- the least side is one

abbrev side_of : ℕ → Bool → Side
side_of line left = record { line = line; left = left }

same_side : (s t : Side) → s.line ≡ t.line → s.left ≡ t.left → s ≡ t
same_side s t line left = ap (λ (n : ℕ). side_of n s.left) line ∙ ap (λ (b : Bool). side_of t.line b) left

by_hand : (s t : Side) (a b : Bool) → s.line ≡ t.line → s.left ≡ a → t.left ≡ b → IsSideBefore s t ⊎ (IsSideBefore t s ⊎ (s ≡ t))
by_hand s t false false line p q = inr (inr (same_side s t line (p ∙ sym q)))
by_hand s t false true line p q = inl (inr (line, p, q))
by_hand s t true false line p q = inr (inl (inr (sym line, q, p)))
by_hand s t true true line p q = inr (inr (same_side s t line (p ∙ sym q)))

pub side_cases : (s t : Side) → IsSideBefore s t ⊎ (IsSideBefore t s ⊎ (s ≡ t))
side_cases s t = elim (below_above_or_same s.line t.line) as (λ _. IsSideBefore s t ⊎ (IsSideBefore t s ⊎ (s ≡ t))) [
  | inl lt ↦ inl (inl lt)
  | inr (inl gt) ↦ inr (inl (inl gt))
  | inr (inr same) ↦ by_hand s t s.left t.left same refl refl
]

pub one_side : (P : Side → Type 0) (s t : Side) → IsFirstSideAgainst P s → IsFirstSideAgainst P t → t ≡ s
one_side P s t h k = elim (side_cases s t) as (λ _. t ≡ s) [
  | inl before ↦ absurd (h.against (k.before s before))
  | inr (inl behind) ↦ absurd (k.against (h.before t behind))
  | inr (inr same) ↦ sym same
]

-- ---- a flaw is the one answer

only_open : (m : Map) (side : Side) → HasSoundLines m → HasOpenSide m side → (other : Result Answer Status) → IsFlaw m other → other ≡ Err (status.BadMap (flaw.Open side))
only_open m side lines h (Ok answer) q = absurd q
only_open m side lines h (Err (status.BadMap (flaw.Line f))) q = absurd (lines.none f q)
only_open m side lines h (Err (status.BadMap (flaw.Open t))) q = ap (λ x. Err (status.BadMap (flaw.Open x))) (one_side _ side t h q.1)
only_open m side lines h (Err s) q = absurd q

only_line : (m : Map) (f : LineFault) → HasLineFault m f → (other : Result Answer Status) → IsFlaw m other → other ≡ Err (status.BadMap (flaw.Line f))
only_line m f h (Ok answer) q = absurd q
only_line m f h (Err (status.BadMap (flaw.Line g))) q = ap (λ x. Err (status.BadMap (flaw.Line x))) (h.only g q)
only_line m f h (Err (status.BadMap (flaw.Open t))) q = absurd (h.clash q.0)
only_line m f h (Err s) q = absurd q

-- the refusal of an audit is the one flaw
pub gives_refused : (m : Map) (Sole : Type 0) (s : Status) → IsAuditRefusal m s → GivesCalled Sole (IsFlaw m) (Err s)
gives_refused m Sole (status.BadMap (flaw.Line f)) h = record { called = h.is; only = λ sole. only_line m f h }
gives_refused m Sole (status.BadMap (flaw.Open side)) h = record { called = (h.0.meet, h.1); only = λ sole. only_open m side h.0 h.1 }
gives_refused m Sole (status.Memory _) h = tt
gives_refused m Sole s h = absurd h

-- the refusal of an audit is the one answer, where each other that is called for of a map that isn't sound is one too
pub gives_unsound : (m : Map) (Called : Result Answer Status → Type 0) → ((which : Flaw) → IsFlaw m (Err (status.BadMap which)) → Called (Err (status.BadMap which))) → (¬ HasClosedFaces m → (other : Result Answer Status) → Called other → IsFlaw m other)
    → (s : Status) → IsAuditRefusal m s → GivesCalled (¬ HasClosedFaces m) Called (Err s)
gives_unsound m Called called each (status.BadMap which) h = let g = gives_refused m (¬ HasClosedFaces m) (status.BadMap which) h in record { called = called which g.called; only = λ flawed other q. g.only flawed other (each flawed other q) }
gives_unsound m Called called each (status.Memory _) h = tt
gives_unsound m Called called each s h = absurd h
