use Rattle.std.proofs.Common.{refl, sym, ap, ◌∙◌, subst, zero-lt-suc}
use Rattle.pair_budget.specs.declared.board_core.event.Event.TheVariants.{Claim, Look, Mark, End}
use Rattle.pair_budget.specs.BoardCore.Machine.{State, CanStep, after, idle, with_claim}
use Rattle.walk_tests.proofs.calls.are_replies.Goals as goal

-- Each event is one that the machine can do: its state is the start after the events before it.

pub step-requires : goal.step-requires
step-requires c =
    let e0 = c.requires in
    record { can = subst (λ (s : State). CanStep s (Claim 0)) (sym e0) (idle, refl, refl) }

pub step-requires-2 : goal.step-requires-2
step-requires-2 c =
    let e0 = c.requires in
    let e1 = c.in_ok-first.ensures.1 ∙ ap (λ (s : State). after s (Claim 0)) e0 in
    record { can = subst (λ (s : State). CanStep s (Claim 1)) (sym e1) (idle, refl, refl) }

pub step-requires-3 : goal.step-requires-3
step-requires-3 c =
    let e0 = c.requires in
    let e1 = c.in_ok-first.ensures.1 ∙ ap (λ (s : State). after s (Claim 0)) e0 in
    let e2 = c.in_ok-second.ensures.1 ∙ ap (λ (s : State). after s (Claim 1)) e1 in
    record { can = subst (λ (s : State). CanStep s (Mark 1 0 1)) (sym e2) ((with_claim 1 idle, refl, refl), (0, zero-lt-suc 0, refl)) }

pub step-requires-4 : goal.step-requires-4
step-requires-4 c =
    let e0 = c.requires in
    let e1 = c.in_ok-first.ensures.1 ∙ ap (λ (s : State). after s (Claim 0)) e0 in
    let e2 = c.in_ok-second.ensures.1 ∙ ap (λ (s : State). after s (Claim 1)) e1 in
    let e3 = c.in_ok-marked.ensures.1 ∙ ap (λ (s : State). after s (Mark 1 0 1)) e2 in
    record { can = subst (λ (s : State). CanStep s (Look 0 0)) (sym e3) (with_claim 0 idle, refl, refl) }

pub step-requires-5 : goal.step-requires-5
step-requires-5 c =
    let e0 = c.requires in
    let e1 = c.in_ok-first.ensures.1 ∙ ap (λ (s : State). after s (Claim 0)) e0 in
    let e2 = c.in_ok-second.ensures.1 ∙ ap (λ (s : State). after s (Claim 1)) e1 in
    let e3 = c.in_ok-marked.ensures.1 ∙ ap (λ (s : State). after s (Mark 1 0 1)) e2 in
    let e4 = c.in_ok-seen.ensures.1 ∙ ap (λ (s : State). after s (Look 0 0)) e3 in
    record { can = subst (λ (s : State). CanStep s (Claim 0)) (sym e4) (with_claim 0 idle, refl, refl) }

pub step-requires-6 : goal.step-requires-6
step-requires-6 c =
    let e0 = c.requires in
    let e1 = c.in_ok-first.ensures.1 ∙ ap (λ (s : State). after s (Claim 0)) e0 in
    let e2 = c.in_ok-second.ensures.1 ∙ ap (λ (s : State). after s (Claim 1)) e1 in
    let e3 = c.in_ok-marked.ensures.1 ∙ ap (λ (s : State). after s (Mark 1 0 1)) e2 in
    let e4 = c.in_ok-seen.ensures.1 ∙ ap (λ (s : State). after s (Look 0 0)) e3 in
    let e5 = c.in_ok-none.ensures.1 ∙ ap (λ (s : State). after s (Claim 0)) e4 in
    record { can = subst (λ (s : State). CanStep s (End 0)) (sym e5) (with_claim 0 idle, refl, refl) }
