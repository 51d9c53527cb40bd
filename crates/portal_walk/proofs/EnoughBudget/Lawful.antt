-- The laws, from the lemmas of the base crate.
use Rattle.std.proofs.lemmas.List.Elements.{recursion_from_All}
use Rattle.sight_names.specs.Found.{IsStabbableSequence}
use Rattle.sight_lift.proofs.EnoughBase.Few.{differ_of}
use Rattle.sight_lift.proofs.EnoughBase.Roots.{few_roots}
use Rattle.sight_lift.proofs.EnoughBase.Counts.{few_at_root, few_of_source, plain_lists_none}
use Rattle.portal_walk.specs.EnoughBudget.Laws.{FewAtRoot, FewRoots, FewOfSource, EnoughListsNone}
use Rattle.std.proofs.Common.{◌≡◌}

pub at_root : FewAtRoot
at_root m ts ls a root xs plain d h = few_at_root m ts ls plain.triangles plain.turn a root xs (differ_of xs d) (recursion_from_All (λ s. (s.root ≡ root) × IsStabbableSequence m ts ls a s) xs h)

pub roots_few : FewRoots
roots_few m a = few_roots m a

pub at_source : FewOfSource
at_source m ts ls a xs plain d h = few_of_source m ts ls plain.triangles plain.turn a xs (differ_of xs d) (recursion_from_All (IsStabbableSequence m ts ls a) xs h)

pub none_listed : EnoughListsNone
none_listed m ts ls a b plain = plain_lists_none m ts ls plain a b
