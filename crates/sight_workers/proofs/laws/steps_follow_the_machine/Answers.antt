use Rattle.sight_workers.proofs.Follows.{gives, gives_none, gives_none_again, looks, marks}
use Rattle.sight_workers.proofs.Seating.{joins, opens, splits}
use Rattle.sight_workers.proofs.laws.steps_follow_the_machine.Goals as goal

pub returns : goal.returns
returns c = (
  opens,
  λ t s m r h. record {
    gives = gives t s m r h;
    gives_none = gives_none t s m r h;
    gives_none_again = gives_none_again t s m r h;
    looks = λ seat worker v i at. looks t s m r h seat worker v at i;
    marks = λ seat worker v p at. marks t s m r h seat worker v at p;
    splits = splits t s m r h;
    joins = joins t s m r h;
  },
)
