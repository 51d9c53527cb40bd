use Rattle.sight_run.proofs.draw.draw_view.Goals as goal

pub returns-in-Plan-clause-judged : goal.returns-in-Plan-clause-judged
returns-in-Plan-clause-judged c = rw c.in-Plan.is (λ out. c.draw_plan.ensures.judged out)

pub returns-in-Faults-clause-judged : goal.returns-in-Faults-clause-judged
returns-in-Faults-clause-judged c = rw c.in-Faults.is (λ out. c.draw_faults.ensures.judged out)

pub returns-in-Row-clause-judged : goal.returns-in-Row-clause-judged
returns-in-Row-clause-judged c = rw c.in-Row.is (λ out. c.draw_row_of.ensures.judged out)

pub returns-in-Heat-clause-judged : goal.returns-in-Heat-clause-judged
returns-in-Heat-clause-judged c = rw c.in-Heat.is (λ out. c.draw_heat_of.ensures.judged out)

pub returns-in-Pair-clause-judged : goal.returns-in-Pair-clause-judged
returns-in-Pair-clause-judged c = rw c.in-Pair.is (λ out. c.draw_pair.ensures.judged out)
