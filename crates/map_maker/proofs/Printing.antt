-- What was written is the print.
use Rattle.std.proofs.Common.{◌≡◌, ℕ, List, Bool, true, false, ◌^◌, nat_lt, nat_le, length, Ok, Err, if◌then◌else◌}
use Rattle.sight_names.specs.declared.faults.RewriteFault.{RewriteFault}
use Rattle.sight_names.specs.declared.faults.RewriteFault.TheVariants as fault
use Rattle.wad_dir.specs.Wad.{WadFile}
use Rattle.wad_dir.specs.Print.{print, printed_len}
use Rattle.wad_dir.specs.WadRewrite.Rewrite.{printed}

by_tests : (a b : Bool) (p q : RewriteFault) (x bs : List ℕ) → (if a then Err p else (if b then Err q else Ok x)) ≡ Ok bs → bs ≡ x
by_tests true b p q x bs e = absurd cc
by_tests false true p q x bs e = absurd cc
by_tests false false p q x bs e = cc

pub printed_is : (w : WadFile) (bs : List ℕ) → printed w ≡ Ok bs → bs ≡ print w
unfolding printed
printed_is w bs e = by_tests (nat_lt 65536 (length w.lumps)) (nat_le (2 ^ 31) (printed_len w.lumps)) fault.TooManyLumps fault.TooLong (print w) bs e
