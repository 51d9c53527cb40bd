use Rattle.std.proofs.Common.{List, All, sym, subst}
use Rattle.std.proofs.lemmas.List.Elements.{All-push}
use Rattle.block_evidence.specs.declared.sight_tree.Node.{Node}
use Rattle.portal_walk.specs.Nodes.{IsNodeAnswered}
use Rattle.row_trees.proofs.walk.keep.Goals as goal

pub returns-clause-nodes : goal.returns-clause-nodes
returns-clause-nodes c = λ _. c.in_ok-push.ensures.ok

pub returns-clause-answered : goal.returns-clause-answered
returns-clause-answered c = λ h. subst (λ (ns : List Node). All IsNodeAnswered ns) (sym c.in_ok-push.ensures.ok) (All-push IsNodeAnswered c.args.made.now.nodes c.args.node h c.requires.answered)
