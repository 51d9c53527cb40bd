use Rattle.std.proofs.Common.{true, false, sym, ◌∙◌, arith}
use Rattle.std.specs.Prelude.{not}
use Rattle.std.proofs.lemmas.Bool.{false≢true}
use Rattle.sight_ray.proofs.CrossedLineLemmas.{not_false}
use Rattle.cert_checker.specs.Pairs.{known_of, IsShownBlind, IsShownSeen}
use Rattle.cert_checker.proofs.pairs.KnownPairRules.fault_of.Goals as goal
use Rattle.cert_checker.proofs.pairs.KnownPairRules.fault_of.Goals.{else-given-via-then-given+else-given-2, else-given-via-else-given}
use Rattle.cert_checker.proofs.pairs.KnownPairRules.fault_of.Goals.{else-given-3-via-then-given-3+else-not-is_shown_blind, else-given-3-via-else-given-3}
use Rattle.cert_checker.proofs.pairs.KnownPairRules.fault_of.Goals.{else-given-4-via-then-given-4+then-not-given+else-not-are_sectors_joined, else-given-4-via-then-given-4+else-not-given, else-given-4-via-else-given-4}

pub are_sectors_joined-requires-clause-groups : goal.are_sectors_joined-requires-clause-groups
are_sectors_joined-requires-clause-groups c = λ a fs at f has. let w = c.requires.0.within a f fs at has in let e = c.requires.0.rays in omega (arith, w, e)

pub returns-clause-fault : goal.returns-clause-fault
returns-clause-fault c = record {
  listed = λ l s. elim c.else-given.branch as (λ _. ⊥) [
    | else-given-via-then-given+else-given-2 w ↦ false≢true (sym w.if-given-2.false ∙ c.requires.1.listed.1 l)
    | else-given-via-else-given w ↦ false≢true (sym w.if-given.false ∙ c.requires.1.set.1 s)
  ];
  set = λ s. elim c.else-given-3.branch as (λ _. IsShownBlind (known_of c.args.self.now) c.args.a c.args.b) [
    | else-given-3-via-then-given-3+else-not-is_shown_blind w ↦ w.is_shown_blind.ensures.0 w.if-not-is_shown_blind.false
    | else-given-3-via-else-given-3 w ↦ absurd (false≢true (sym w.if-given-3.false ∙ c.requires.1.set.1 s))
  ];
  clear = λ n f. elim c.else-given-4.branch as (λ _. IsShownSeen (known_of c.args.self.now) c.args.a c.args.b) [
    | else-given-4-via-then-given-4+then-not-given+else-not-are_sectors_joined w ↦ w.are_sectors_joined.ensures.0 w.if-not-are_sectors_joined.false
    | else-given-4-via-then-given-4+else-not-given w ↦ absurd (f (c.requires.1.listed.0 (not_false c.args.given.listed w.if-not-given.false)))
    | else-given-4-via-else-given-4 w ↦ absurd (false≢true (sym w.if-given-4.false ∙ c.requires.1.clear.1 n))
  ];
}

pub returns-clause-counted : goal.returns-clause-counted
returns-clause-counted c = λ both. elim c.else-given.branch as (λ _. ⊥) [
  | else-given-via-then-given+else-given-2 w ↦ false≢true (sym w.if-given-2.false ∙ both.0)
  | else-given-via-else-given w ↦ false≢true (sym w.if-given.false ∙ both.1)
]
