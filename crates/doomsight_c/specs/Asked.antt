-- What the numbers of a call ask for, and which of them are out of order.
use Rattle.std.specs.Prelude.{ℕ, Option, Some, None, ◌==◌, if◌then◌else◌, nat_lt}
use Rattle.sight_names.specs.declared.names.Ask.TheVariants.{Of, Full, Enough}
use Rattle.sight_names.specs.declared.names.MapFormat.{MapFormat}
use Rattle.sight_names.specs.declared.names.MapFormat.TheVariants.{Doom, Hexen, Text}
use Rattle.sight_names.specs.declared.names.Method.{Method}
use Rattle.sight_names.specs.declared.names.Method.TheVariants.{Within, Exact}
use Rattle.sight_names.specs.declared.names.Reading.{Reading}
use Rattle.doomsight_c.specs.declared.fault.DoomsightFault.{DoomsightFault}
use Rattle.doomsight_c.specs.Faults.{wide}

-- format 0 is Doom's, 1 Hexen's, and 2 that of the lumps that a text spells
abbrev pub format_of : ℕ → MapFormat
format_of n = if n == 1 then Hexen else if n == 2 then Text else Doom

-- flag 1 asks for the larger limits
abbrev pub reading_of : ℕ → ℕ → Reading
reading_of format flags = record { format = format_of format; large = flags == 1 }

-- 0 is a budget that is enough for every source, the greatest number of 64 bits is none, and 1 to 2^32 are budgets; the greatest
-- number but one stands in the place of a budget where every pair is decided
abbrev pub method_of : ℕ → Method
method_of n =
    if n == 0 then Within Enough
    else if n == 18446744073709551615 then Within Full
    else if n == 18446744073709551614 then Exact
    else Within (Of n)

abbrev pub budget_fault : ℕ → Option DoomsightFault
budget_fault n =
    if n == 18446744073709551615 then None
    else if n == 18446744073709551614 then None
    else if nat_lt 4294967296 n then Some (wide 2 14 n 0)
    else None

-- the first number that is out of order: the format, or the flags
abbrev pub reading_fault : ℕ → ℕ → Option DoomsightFault
reading_fault format flags =
    if nat_lt 2 format then Some (wide 2 12 format 0)
    else if nat_lt 1 flags then Some (wide 2 13 flags 0)
    else None

-- .. or the budget
abbrev pub call_fault : ℕ → ℕ → ℕ → Option DoomsightFault
call_fault format flags budget =
    if nat_lt 2 format then Some (wide 2 12 format 0)
    else if nat_lt 1 flags then Some (wide 2 13 flags 0)
    else budget_fault budget
