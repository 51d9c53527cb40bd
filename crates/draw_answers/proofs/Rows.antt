-- The answer of a row's picture, the only one.
use Rattle.std.proofs.Common.{◌≡◌, ℕ, ◌<◌, ◌≤◌, List, Result, Ok, Err, refl, ap, arith}
use Rattle.std.specs.Prelude.{⊤}
use Rattle.sight_names.specs.Map.{Map, map_of}
use Rattle.sight_names.specs.Plan.{IsPlan, PlanParts}
use Rattle.reject_bits.specs.Parts.{TableParts}
use Rattle.map_answers.specs.declared.sight_status.status.Status.{Status}
use Rattle.map_answers.specs.declared.sight_status.status.Status.TheVariants as status
use Rattle.map_answers.specs.declared.sight_status.status.Why.TheVariants as why
use Rattle.map_answers.specs.SightStatus.Answer.{Answer, GivesCalled}
use Rattle.map_answers.specs.Groups.{IsMapWithGroups, MapGroups}
use Rattle.map_answers.specs.Sound.{HasSoundLines}
use Rattle.map_answers.proofs.Closed.{gives_called}
use Rattle.map_picture.specs.Picture.{NamedParts}
use Rattle.draw_answers.specs.Drawn.{one_picture}
use Rattle.draw_answers.specs.Row.{DrawRowCalls, RowCall, row_drawing}

module _ (name : NamedParts) (out : List ℕ) (m : Map) (t : TableParts) (a : ℕ) (g : MapGroups) where
  pub only_row : a < m.sectors → (x : Result Answer Status) → RowCall name out m t a g x → x ≡ Ok (one_picture out (row_drawing name m t a g))
  only_row lt (Ok answer) q = ap (λ (y : Answer). Ok y) q.1
  only_row lt (Err (status.No (why.NoSector k))) q = let le = q.1 in absurd (omega (arith, le, lt))
  only_row lt (Err s) q = absurd q

  only_none : m.sectors ≤ a → (x : Result Answer Status) → RowCall name out m t a g x → x ≡ Err (status.No (why.NoSector a))
  only_none le (Ok answer) q = let lt = q.0 in absurd (omega (arith, le, lt))
  only_none le (Err (status.No (why.NoSector k))) q = ap (λ (n : ℕ). Err (status.No (why.NoSector n))) q.0
  only_none le (Err s) q = absurd q

pub gives_none : (p : PlanParts) (name : NamedParts) (out : List ℕ) (t : TableParts) (a : ℕ) (g : MapGroups) → IsPlan p → HasSoundLines (map_of p) → IsMapWithGroups (map_of p) g → p.sectors ≤ a → GivesCalled ⊤ (DrawRowCalls name out t a (map_of p)) (Err (status.No (why.NoSector a)))
gives_none p name out t a g plan lines over le = gives_called p plan (RowCall name out (map_of p) t a) g (Err (status.No (why.NoSector a))) lines over (refl, le) (only_none name out (map_of p) t a g le) tt
