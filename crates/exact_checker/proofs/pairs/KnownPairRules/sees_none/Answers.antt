use Rattle.std.proofs.Common.{ℕ, List, [], sym, ◌∙◌, subst, arith}
use Rattle.std.proofs.lemmas.Option.{same_Some}
use Rattle.cert_checker.specs.BlindRows.{HasNoGroup}
use Rattle.cert_checker.specs.Pairs.{AreSectorsJoined, AreSomeJoined}
use Rattle.gate_floods.specs.GateMasks.Masks.{IsInRowOf}
use Rattle.exact_checker.proofs.pairs.KnownPairRules.sees_none.Goals as goal

none_joined : (joins : ℕ → ℕ → Type 0) (members : List (List ℕ)) (a b : ℕ) → HasNoGroup members a → ¬ AreSectorsJoined joins members a b
none_joined joins members a b none s = nothing (subst (λ (fs : List ℕ). AreSomeJoined joins fs s.gs) (same_Some s.fs [] (sym s.ones ∙ none)) s.joined)
  where
    nothing : AreSomeJoined joins [] s.gs → ⊥
    nothing w = let l = w.1.1 in omega (arith, l)

pub returns-clause-fine : goal.returns-clause-fine
returns-clause-fine c = λ blind b given has clear listed. record {
  set = λ s joined. none_joined (IsInRowOf c.args.self.now.joined.now) c.args.self.now.members.now c.args.a b (c.has_no_group.ensures.0 blind) joined;
  clear = λ n. absurd (clear (has.1.clear.1 n));
}
