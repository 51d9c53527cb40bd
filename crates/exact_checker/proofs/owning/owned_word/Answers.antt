use Rattle.std.proofs.Common.{rules}
use Rattle.exact_checker.specs.Owning.{owning_of}
use Rattle.exact_checker.proofs.Owned.{owned_is}
use Rattle.exact_checker.proofs.owning.owned_word.Goals as goal

pub returns : goal.returns
returns c = λ rays are. owned_is rays (owning_of c.args.known) are c.args.source c.args.place c.requires.source c.behind_word.result c.behind_word.ensures c.words_of.result.now c.words_of.ensures c.word_at-joined.result c.word_at-joined.ensures (search rules)
