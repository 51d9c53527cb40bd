use Rattle.order_words.proofs.Deciding.{asks_without_bound}
use Rattle.order_words.proofs.laws.two_are_decided.Goals as goal

pub returns : goal.returns
returns c = asks_without_bound
