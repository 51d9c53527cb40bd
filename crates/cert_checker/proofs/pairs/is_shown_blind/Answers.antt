use Rattle.cert_checker.specs.Pairs.{known_of}
use Rattle.cert_checker.proofs.Known.{blind_told}
use Rattle.cert_checker.proofs.pairs.is_shown_blind.Goals as goal

pub are_all_apart-requires-clause-ones : goal.are_all_apart-requires-clause-ones
are_all_apart-requires-clause-ones c = λ f h. c.requires.known.within c.args.a f c.groups_of-ones.result.now c.groups_of-ones.ensures h

pub are_all_apart-requires-clause-others : goal.are_all_apart-requires-clause-others
are_all_apart-requires-clause-others c = λ f h. c.requires.known.within c.args.b f c.groups_of-others.result.now c.groups_of-others.ensures h

pub returns : goal.returns
returns c = blind_told (known_of c.args.known) c.args.a c.args.b c.groups_of-ones.result.now c.groups_of-others.result.now c.are_all_apart.result c.groups_of-ones.ensures c.groups_of-others.ensures c.are_all_apart.ensures
