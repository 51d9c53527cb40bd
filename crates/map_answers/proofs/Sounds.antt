-- The answers of the orders that audit a map.
use Rattle.std.proofs.Common.{◌≡◌, ◌↔◌, List, [], ◌∷◌, Result, Ok, Err, sym, ◌∙◌, refl, ap, suc, subst, length, filter_map, map, option_map, Option, Some, None, Bool, true, false}
use Rattle.std.specs.Prelude.{IsOk}
use Rattle.sight_names.specs.declared.faults.LineFault.{LineFault}
use Rattle.sight_names.specs.Map.{Map}
use Rattle.sight_names.specs.Sound.{LinesMeetAtEnds}
use Rattle.map_audit.specs.Audit.{IsLineFault}
use Rattle.map_answers.specs.declared.sight_status.status.Flaw.TheVariants as flaw
use Rattle.map_answers.specs.declared.sight_status.status.Status.{Status}
use Rattle.map_answers.specs.declared.sight_status.status.Status.TheVariants as status
use Rattle.map_answers.specs.SightStatus.Answer.{Answer, GivesCalled}
use Rattle.map_answers.specs.Sound.{HasLineFault, HasSoundLines, OnSoundLines}

-- ---- the exact audit of lines

abbrev IsFalse : Bool → Type 0
IsFalse false = Unit {0}
IsFalse true = ⊥

abbrev Audited : Type 0
Audited = Result (Unit {0}) LineFault

not_ok : (r : Audited) (f : LineFault) → r ≡ Err f → IsOk r → ⊥
not_ok r f e ok = let P : Audited → Type 0 = λ x. IsOk x in subst IsFalse (subst P e ok) tt

abbrev fault_or : LineFault → Audited → LineFault
fault_or f (Ok u) = f
fault_or f (Err g) = g

-- what the exact audit of lines promises
pub record IsExactAudit (m : Map) (r : Audited) : Type 0 where
  pub sound : IsOk r ↔ LinesMeetAtEnds m
  pub fault : (f : LineFault) → (r ≡ Err f) ↔ IsLineFault m f

pub sound_lines : (m : Map) (r : Audited) → IsExactAudit m r → IsOk r → HasSoundLines m
sound_lines m r exact ok = record { meet = exact.sound.0 ok; none = λ f h. not_ok r f ((exact.fault f).1 h) ok }

pub line_fault : (m : Map) (r : Audited) (f : LineFault) → IsExactAudit m r → r ≡ Err f → HasLineFault m f
line_fault m r f exact is = record {
  is = (exact.fault f).0 is;
  only = λ g h. ap (fault_or f) (sym ((exact.fault g).1 h) ∙ is);
  clash = λ meet. not_ok r f is (exact.sound.1 meet);
}

-- ---- answers

-- a fault of lines is the one answer
only_line_fault : (m : Map) (Called : Result Answer Status → Type 0) (f : LineFault) → HasLineFault m f → (other : Result Answer Status) → OnSoundLines m Called other → other ≡ Err (status.BadMap (flaw.Line f))
only_line_fault m Called f h (Ok answer) q = absurd (h.clash q.0)
only_line_fault m Called f h (Err (status.BadMap (flaw.Line g))) q = ap (λ x. Err (status.BadMap (flaw.Line x))) (h.only g q)
only_line_fault m Called f h (Err s) q = absurd (h.clash q.0)

pub gives_line_fault : (m : Map) (Sole : Type 0) (Called : Result Answer Status → Type 0) (f : LineFault) → HasLineFault m f → GivesCalled Sole (OnSoundLines m Called) (Err (status.BadMap (flaw.Line f)))
gives_line_fault m Sole Called f h = record { called = h.is; only = λ sole. only_line_fault m Called f h }

-- the answer on a sound map is no refusal of its audit
abbrev pub IsPastAudit : Result Answer Status → Type 0
IsPastAudit (Err (status.BadMap fault)) = ⊥
IsPastAudit answer = Unit {0}

-- ---- the number of lines

-- the lines of a plan and of its map are as many
pub same_count : {A B : Type 0} (f : A → B) (xs : List (Option A)) → length (filter_map (λ x. x) (map (option_map f) xs)) ≡ length (filter_map (λ x. x) xs)
same_count f [] = refl
same_count f (None ∷ xs) = same_count f xs
same_count f (Some x ∷ xs) = ap suc (same_count f xs)
