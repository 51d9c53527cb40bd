-- What is written of a WAD.
use Rattle.std.specs.Prelude.{◌≡◌, ℕ, ◌^◌, nat_lt, nat_le, List, length, Result, Ok, Err, if◌then◌else◌, ⊤}
use Rattle.sight_names.specs.declared.limits.TheConstants.{MOST_LUMPS}
use Rattle.sight_names.specs.declared.faults.RewriteFault.{RewriteFault}
use Rattle.sight_names.specs.declared.faults.RewriteFault.TheVariants as fault
use Rattle.wad_dir.specs.Wad.{WadFile}
use Rattle.wad_dir.specs.Print.{print, printed_len}

-- what is written of a WAD, or why not
unfoldable pub printed : WadFile → Result (List ℕ) RewriteFault
printed w =
    if nat_lt MOST_LUMPS (length w.lumps) then Err fault.TooManyLumps
    else (if nat_le (2 ^ 31) (printed_len w.lumps) then Err fault.TooLong else Ok (print w))

-- What was written is that, unless memory ran out.
abbrev pub WritesWad : {V : Type 0} → (V → List ℕ) → Result V RewriteFault → Result (List ℕ) RewriteFault → Type 0
WritesWad view (Ok v) said = said ≡ Ok (view v)
WritesWad view (Err (fault.Memory _)) said = ⊤
WritesWad view (Err f) said = said ≡ Err f
