-- What is drawn, as plain data, and as the answer of an order that writes it.
use Rattle.std.specs.Prelude.{◌≡◌, ℕ, true, List, [], ◌∷◌, Result, Ok, Err, string_bytes, ⊤}
use Rattle.sight_names.specs.declared.names.Memory.{Memory}
use Rattle.map_answers.specs.declared.sight_status.status.Role.TheVariants as role
use Rattle.map_answers.specs.declared.sight_status.status.Status.{Status}
use Rattle.map_answers.specs.declared.sight_status.status.Status.TheVariants as status
use Rattle.map_answers.specs.declared.sight_status.status.Why.TheVariants as why
use Rattle.map_answers.specs.SightStatus.Answer.{Answer}
use Rattle.draw_answers.specs.declared.drawn.Drawn.{Drawn}

-- the bytes of a picture, and the line that tells of it
pub record Drawing : Type 0 where
  pub bytes : List ℕ
  pub line : List ℕ

abbrev pub drawing : Drawn → Drawing
drawing d = record { bytes = d.picture.items; line = string_bytes d.line }

-- the answer that writes the picture under this name
abbrev pub one_picture : List ℕ → Drawing → Answer
one_picture out d = record { writes = record { role = role.Picture; name = out; bytes = d.bytes } ∷ []; line = d.line; right = true }

-- what was drawn, or the refusal, as an answer that writes the picture under this name
abbrev pub drawn_answer : List ℕ → Result Drawn Status → Result Answer Status
drawn_answer out (Ok d) = Ok (one_picture out (drawing d))
drawn_answer out (Err refusal) = Err refusal

-- what a picture of a sector or of a pair can end with
abbrev pub IsOfDrawTest : Status → Type 0
IsOfDrawTest (status.No (why.NoSector k)) = ⊤
IsOfDrawTest (status.BadMap flaw) = ⊤
IsOfDrawTest (status.Memory _) = ⊤
IsOfDrawTest other = ⊥

-- the same was drawn, or memory ran out
abbrev pub IsMadeOf : Result Drawn Memory → Result Drawn Status → Type 0
IsMadeOf (Ok d) r = r ≡ Ok d
IsMadeOf (Err e) r = r ≡ Err (status.Memory tt)
