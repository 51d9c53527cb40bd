use Rattle.std.proofs.Common.{◌≡◌, ℕ, ◌+◌, ◌<◌, ◌*◌, get_or, slice_get, Some, sym, ap, ◌∙◌, refl, subst, arith}
use Rattle.std.proofs.lemmas.Option.{slice_get-get_or}
use Rattle.sound_reach.specs.declared.doors.Door.{Door}
use Rattle.sound_reach.specs.declared.search.Search.{Search}
use Rattle.sound_reach.proofs.Lookups.{any_door, below_place, contains_at, place_below, place_in}
use Rattle.sound_reach.proofs.Searching.{IsSettling, all_settled, before_sector, settling_begun, settling_noted, settling_past}
use Rattle.sound_reach.proofs.search.Search.settle.Goals as goal
use Rattle.sound_reach.proofs.search.Search.settle.Goals.{in-Some+in_ok-note, in_default}

pub at-door-items-requires-clause-within : goal.at-door-items-requires-clause-within
at-door-items-requires-clause-within c =
    let q = c.index-reached.result.now in
    let at : slice_get c.args.self.now.queue.items c.args.head ≡ Some c.index-reached.result.now = slice_get-get_or c.args.self.now.queue.items c.args.head c.index-reached.result.now c.requires.head ∙ ap Some (sym c.index-reached.ensures) in
    let p = place_in c.args.self.now.distances.items q.state q.distance (c.requires.search.told c.args.head q at) in
    let l = c.requires.len in
    place_below q.state c.args.doors.now.sectors (omega (arith, p, l))

pub loop-door-init : goal.loop-door-init
loop-door-init c =
    let at : slice_get c.args.self.now.queue.items c.args.head ≡ Some c.index-reached.result.now = slice_get-get_or c.args.self.now.queue.items c.args.head c.index-reached.result.now c.requires.head ∙ ap Some (sym c.index-reached.ensures) in
    record { to = refl; settling = settling_begun c.args.doors.now.doors.items c.args.self.now.to c.args.self.now.distances.items c.args.self.now.queue.items c.args.head c.index-reached.result.now _ c.requires.search at }

-- the state behind a door has a place
inside : (n len now k to : ℕ) → to < n → k < n * 2 → now ≡ len → len ≡ n * 2 → k < now
inside n len now k to lt p e f = omega (arith, p, e, f)

pub note-requires : goal.note-requires
note-requires c =
    let e : Door = get_or c.at-door-items.result.now c.loop-door.door-index any_door in
    let there = contains_at c.at-door-items.result.now c.loop-door.door-index any_door c.loop-door-test.true in
    let lt = c.requires.indexed.within e ((c.at-door-items.ensures e).0 there).0 in
    let is = before_sector e c.index-reached.result.now.state.spare c.in-Some.state (sym c.in-Some.ensures) in
    let p = below_place c.in-Some.state c.args.doors.now.sectors (omega (arith, lt, is)) in
    inside _ _ _ _ _ lt p c.loop-door.invariant.settling.len c.requires.len

pub loop-door-preserved : goal.loop-door-preserved
loop-door-preserved c =
    let e : Door = get_or c.at-door-items.result.now c.loop-door.door-index any_door in
    let there = contains_at c.at-door-items.result.now c.loop-door.door-index any_door c.loop-door-test.true in
    let got = slice_get-get_or c.at-door-items.result.now c.loop-door.door-index any_door c.loop-door-test.true in
    let own = (c.at-door-items.ensures e).0 there in
    let inv = c.loop-door.invariant in
    elim c.match-before.branch [
      | in-Some+in_ok-note w ↦
          let lt = c.requires.indexed.within e own.0 in
          let is = before_sector e c.index-reached.result.now.state.spare w.in-Some.state (sym w.in-Some.ensures) in
          let p = below_place w.in-Some.state c.args.doors.now.sectors (omega (arith, lt, is)) in
          subst (λ (s : Search). record { to : s.to ≡ c.args.self.now.to; settling : IsSettling c.args.doors.now.doors.items c.args.self.now.to c.args.self.now.distances.items s.distances.items s.queue.items c.args.head c.index-reached.result.now c.at-door-items.result.now (c.loop-door.door-index + 1) }) (sym w.self-is) (record {
            to = w.in_ok-note.ensures.to ∙ inv.to;
            settling = settling_noted c.args.doors.now.doors.items c.requires.indexed.net c.args.self.now.to c.args.self.now.distances.items c.loop-door.self.distances.items w.note.new.self.distances.items c.loop-door.self.queue.items w.note.new.self.queue.items c.args.head c.index-reached.result.now c.at-door-items.result.now c.loop-door.door-index e w.in-Some.state
                got own.0 own.1 (sym w.in-Some.ensures) (inside _ _ _ _ _ lt p inv.settling.len c.requires.len) w.in_ok-note.ensures.noted inv.settling;
          })
      | in_default w ↦
          subst (λ (s : Search). record { to : s.to ≡ c.args.self.now.to; settling : IsSettling c.args.doors.now.doors.items c.args.self.now.to c.args.self.now.distances.items s.distances.items s.queue.items c.args.head c.index-reached.result.now c.at-door-items.result.now (c.loop-door.door-index + 1) }) (sym w.self-is) (record {
            to = inv.to;
            settling = settling_past c.args.doors.now.doors.items c.args.self.now.to c.args.self.now.distances.items c.loop-door.self.distances.items c.loop-door.self.queue.items c.args.head c.index-reached.result.now c.at-door-items.result.now c.loop-door.door-index e got (sym c.before-in-loop-door.ensures ∙ w.in_default.is) inv.settling;
          })
    ]

pub returns-clause-search : goal.returns-clause-search
returns-clause-search c = all_settled c.args.doors.now.doors.items c.requires.indexed.net c.args.self.now.to c.args.self.now.distances.items c.loop-door.self.distances.items c.loop-door.self.queue.items c.args.head c.index-reached.result.now c.at-door-items.result.now c.loop-door.door-index c.at-door-items.ensures c.loop-door-test.false c.loop-door.invariant.settling
