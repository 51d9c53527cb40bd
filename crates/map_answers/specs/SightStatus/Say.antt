-- What putting one line comes to.
use Rattle.std.specs.Prelude.{◌≡◌, ◌⊎◌, ℕ, List, ◌++◌}
use Rattle.std.specs.Option.{option_map}
use Rattle.shelf_io.specs.Shelf.{Rose}
use Rattle.shelf_io.specs.Sink.{SinkState, HasFront}
use Rattle.map_answers.specs.declared.sight_status.status.Role.TheVariants as role
use Rattle.map_answers.specs.declared.sight_status.status.Status.{Status}
use Rattle.map_answers.specs.declared.sight_status.status.Status.TheVariants as status
use Rattle.map_answers.specs.SightStatus.Texts.{text_of}

-- the line was put, and the status is the one that it tells
pub record WasPut (told result : Status) (old new : SinkState) (line : List ℕ) : Type 0 where
  pub status : result ≡ told
  pub held : new.held ≡ option_map (λ held. held ++ line) old.held
  pub faults : new.faults ≡ old.faults

-- a front of the line was put, and the sink is at fault
pub record WasCut (result : Status) (old new : SinkState) (line : List ℕ) : Type 0 where
  pub status : result ≡ status.WriteFault role.Text
  pub held : HasFront old.held new.held line
  pub faults : Rose old.faults new.faults

-- nothing was put, for want of memory
pub record WasDropped (result : Status) (old new : SinkState) : Type 0 where
  pub status : result ≡ status.Memory tt
  pub same : new ≡ old

abbrev pub IsSaidLine : Status → Status → SinkState → SinkState → List ℕ → Type 0
IsSaidLine told result old new line = WasPut told result old new line ⊎ WasCut result old new line

abbrev pub SaidIfMade : Status → Status → SinkState → SinkState → Type 0
SaidIfMade told result old new = IsSaidLine told result old new (text_of told) ⊎ WasDropped result old new

-- want of memory puts nothing, and the line of a write fault wants no memory
abbrev pub Refused : Status → Status → SinkState → SinkState → Type 0
Refused (status.Memory _) result old new = WasDropped result old new
Refused (status.WriteFault role) result old new = IsSaidLine (status.WriteFault role) result old new (text_of (status.WriteFault role))
Refused other result old new = SaidIfMade other result old new
