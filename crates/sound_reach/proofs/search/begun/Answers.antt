use Rattle.std.proofs.Common.{rules}
use Rattle.sound_reach.proofs.Searching.{begun_search}
use Rattle.sound_reach.proofs.search.begun.Goals as goal

pub returns-clause-search : goal.returns-clause-search
returns-clause-search c = λ es. begun_search es c.args.to c.args.sectors c.in_ok-distances.distances.items c.note.new.self.distances.items c.note-2.new.self.distances.items c.new.result.items c.note.new.self.queue.items c.note-2.new.self.queue.items c.requires (c.in_ok-distances.ensures.items_if_clones_equal (λ y h. search rules)) c.new.ensures.items c.in_ok-note.ensures.noted c.in_ok-note-2.ensures.noted
