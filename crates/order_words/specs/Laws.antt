-- What words ask that give no budget.
use Rattle.std.specs.Prelude.{◌≡◌, List, Option, Some, None, codes}
use Rattle.clap.specs.Words.{Text, first_of}
use Rattle.sight_names.specs.declared.names.Ask.{Ask}
use Rattle.sight_names.specs.declared.names.Ask.TheVariants.{Full}
use Rattle.order_words.specs.declared.order.Order.{Order}
use Rattle.order_words.specs.declared.order.Order.TheVariants as order
use Rattle.order_words.specs.declared.order.View.TheVariants as view
use Rattle.order_words.specs.Command.{rows_in}
use Rattle.order_words.specs.Words.{order_of}

-- the budget of two sectors, where an order asks of two
abbrev pub bound_of : Order → Option Ask
bound_of (order.Why wad name pair ask) = Some ask
bound_of (order.Draw wad name out (view.Pair pair ask)) = Some ask
bound_of o = None

-- the command finds no budget in the words
abbrev pub GivesNoBudget : List Text → Type 0
GivesNoBudget words = first_of (codes "budget") (rows_in words) ≡ None

-- such words ask for none where they ask of two sectors
abbrev pub AsksWithoutBound : Type 0
AsksWithoutBound = (words : List Text) (o : Order) (ask : Ask) → order_of words ≡ Some o → bound_of o ≡ Some ask → GivesNoBudget words → ask ≡ Full
