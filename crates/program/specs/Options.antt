-- The options of a command line.
use Rattle.std.specs.Prelude.{Bool, true, false}
use Rattle.program.specs.declared.verbs.Choice.{Choice}
use Rattle.program.specs.declared.verbs.Choice.TheVariants as choice

-- no value stands behind it
abbrev pub takes_no_value : Choice → Bool
takes_no_value choice.Hexen = true
takes_no_value choice.Large = true
takes_no_value choice.Faults = true
takes_no_value choice.Heat = true
takes_no_value choice.Exact = true
takes_no_value choice.Json = true
takes_no_value other = false
