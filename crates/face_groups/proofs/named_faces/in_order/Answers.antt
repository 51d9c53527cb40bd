use Rattle.face_groups.proofs.FaceLists.{rise_of_sorted}
use Rattle.face_groups.proofs.named_faces.in_order.Goals as goal

pub returns-clause-order : goal.returns-clause-order
returns-clause-order c = rise_of_sorted c.sort_unstable.new.self.items c.sort_unstable.ensures.sorted
