-- The REJECT that a change gives a map is still there when the later changes are made.
use Rattle.std.proofs.Common.{◌≡◌, ◌≢◌, ℕ, ◌+◌, ◌<◌, ◌≤◌, List, [], ◌∷◌, ◌++◌, length, drop, map, get_or, false, Option, Some, None, Ok, refl, sym, ap, ◌∙◌, subst, arith}
use Rattle.std.specs.List.{AllByRecursion, insert}
use Rattle.std.proofs.Math.ListN.{set}
use Rattle.std.proofs.Math.Seq.{map-set_same}
use Rattle.std.proofs.lemmas.List.{length-map}
use Rattle.wad_dir.specs.declared.parts.Kind.{Kind}
use Rattle.wad_dir.specs.declared.parts.MapSpot.{MapSpot}
use Rattle.wad_dir.specs.Kept.{IsMapKept, reject_then, spot_then}
use Rattle.wad_dir.specs.Map.{is_run_name, shifted, spot_of}
use Rattle.wad_dir.specs.Print.{reject_lump, with_bytes, with_reject}
use Rattle.wad_dir.specs.Wad.{WadFile, WadLump, names_of_lumps}
use Rattle.wad_dir.proofs.Inserted.{padded}
use Rattle.wad_dir.proofs.Moved.{further, spot_stays}
use Rattle.wad_dir.proofs.Rewritten.{get_before, get_other, kept, map_insert, sectors_within}
use Rattle.wad_dir.proofs.Spots.{spot_parts}
use Rattle.wad_dir.specs.declared.all_maps.parts.Change.{Change}
use Rattle.wad_dir.specs.AllMaps.All.{EachTableIsThere, HasReject, with_all}
use Rattle.wad_dir.specs.AllMaps.Spliced.{AreSpaced, piece, place_behind_reject}
use Rattle.wad_dir.proofs.AllMaps.Merging.{AreFurther, IsStep, changed_at, file, further_start, lump_names, spaced_lumps, step_of}
use Rattle.wad_dir.proofs.AllMaps.Pieces.{shift_of, then_behind}
use Rattle.wad_dir.proofs.AllMaps.Spacing.{no_reject, run_before, run_of}

-- the map's REJECT is in place, and all of it lies before a bound
record IsSettled (w : WadFile) (a : Change) (bound : ℕ) : Type 0 where
  has : HasReject w a.name a.table
  marker : has.spot.marker < bound
  place : has.place < bound
  other : is_run_name a.name ≡ false

-- a map behind the bound gets another REJECT: in place of its own, or put in
module _ (w : WadFile) (a : Change) (bound : ℕ) (name : List ℕ) (spot : MapSpot) (table : List ℕ) (s : IsSettled w a bound) (found : spot_of (names_of_lumps w) name ≡ Ok spot) (other : is_run_name name ≡ false) (behind : bound ≤ spot.marker) (inside : spot.marker < reject_then spot) where
  replaced : (r : ℕ) → spot.marker < r → IsSettled (record { kind = w.kind; lumps = set w.lumps r (with_bytes (get_or w.lumps r (reject_lump table)) table) }) a bound
  replaced r lt =
      let has : HasReject w a.name a.table = s.has in
      let before : has.place < bound = s.place in
      let marker : has.spot.marker < bound = s.marker in
      let names : map (λ (l : WadLump). l.name) (set w.lumps r (with_bytes (get_or w.lumps r (reject_lump table)) table)) ≡ names_of_lumps w = map-set_same (λ (l : WadLump). l.name) w.lumps r (with_bytes (get_or w.lumps r (reject_lump table)) table) (reject_lump table) refl in
      let apart : has.place ≢ r = (λ e. omega (arith, e, before, behind, lt)) in
      record { has = record { spot = has.spot; found = ap (λ (ns : List (List ℕ)). spot_of ns a.name) names ∙ has.found; place = has.place; reject = has.reject; lump = has.lump; there = get_other w.lumps r has.place (with_bytes (get_or w.lumps r (reject_lump table)) table) apart ∙ has.there; bytes = has.bytes }; marker = marker; place = before; other = s.other }

  put_in : spot.marker < spot.sectors + 1 → IsSettled (record { kind = w.kind; lumps = insert w.lumps (spot.sectors + 1) (reject_lump table) }) a bound
  put_in lt =
      let has : HasReject w a.name a.table = s.has in
      let before : has.place < bound = s.place in
      let marker : has.spot.marker < bound = s.marker in
      let long : length (names_of_lumps w) ≡ length w.lumps = length-map w.lumps (λ (l : WadLump). l.name) in
      let within : spot.sectors < length (names_of_lumps w) = sectors_within (names_of_lumps w) name spot (spot_parts (names_of_lumps w) name spot found) in
      let names : map (λ (l : WadLump). l.name) (insert w.lumps (spot.sectors + 1) (reject_lump table)) ≡ insert (names_of_lumps w) (spot.sectors + 1) padded = map_insert (λ (l : WadLump). l.name) w.lumps (spot.sectors + 1) (reject_lump table) in
      let run : has.spot.marker + 1 + length (run_of (names_of_lumps w) has.spot.marker) ≤ spot.marker = run_before (names_of_lumps w) a.name name has.spot spot has.found found other (omega (arith, marker, behind)) in
      let stays : spot_of (insert (names_of_lumps w) (spot.sectors + 1) padded) a.name ≡ Ok has.spot = spot_stays (names_of_lumps w) (spot.sectors + 1) a.name padded has.spot (no_reject a.name s.other) has.found (omega (arith, run, lt)) (omega (arith, within)) in
      record { has = record { spot = has.spot; found = ap (λ (ns : List (List ℕ)). spot_of ns a.name) names ∙ stays; place = has.place; reject = has.reject; lump = has.lump; there = get_before w.lumps (spot.sectors + 1) has.place (reject_lump table) (omega (arith, within, long)) (omega (arith, before, behind, lt)) ∙ has.there; bytes = has.bytes }; marker = marker; place = before; other = s.other }

  lasts : IsSettled (with_reject w spot table) a bound
  lasts = by spot.reject inside
    where
      by : (o : Option ℕ) → spot.marker < elim o [ Some r ↦ r | None ↦ spot.sectors + 1 ] → IsSettled (record { kind = w.kind; lumps = elim o [ Some r ↦ set w.lumps r (with_bytes (get_or w.lumps r (reject_lump table)) table) | None ↦ insert w.lumps (spot.sectors + 1) (reject_lump table) ] }) a bound
      by (Some r) lt = replaced r lt
      by None lt = put_in lt

-- ---- where the next one is

then_before : (k : ℕ) (spot : MapSpot) → reject_then (further k spot) < shift_of spot.reject k + place_behind_reject spot
then_before k spot = grind arith

inside_then : (k : ℕ) (spot : MapSpot) → spot.marker < reject_then spot → k + spot.marker < reject_then (further k spot)
inside_then k spot = by spot.reject
  where
    by : (o : Option ℕ) → spot.marker < elim o [ Some r ↦ r | None ↦ spot.sectors + 1 ] → k + spot.marker < elim (shifted k o) [ Some r ↦ r | None ↦ k + spot.sectors + 1 ]
    by (Some r) lt = omega (arith, lt)
    by None lt = omega (arith, lt)

shift_more : (o : Option ℕ) (k : ℕ) → k ≤ shift_of o k
shift_more (Some r) k = omega arith
shift_more None k = omega arith

wider : (w : WadFile) (a : Change) (b c : ℕ) → b ≤ c → IsSettled w a b → IsSettled w a c
wider w a b c le s =
    let marker : s.has.spot.marker < b = s.marker in
    let place : s.has.place < b = s.place in
    record { has = s.has; marker = omega (arith, marker, le); place = omega (arith, place, le); other = s.other }

-- ---- all changes

after_step : (kind : Kind) (lumps front : List WadLump) (k done : ℕ) (c : Change) (cs : List Change) (s : IsStep kind lumps front k done c cs) → with_all (file kind (front ++ drop done lumps)) (c ∷ cs) ≡ with_all (file kind ((front ++ piece lumps done s.spot c.table) ++ drop (place_behind_reject s.spot) lumps)) cs
after_step kind lumps front k done c cs s = ap (λ (w : WadFile). with_all w cs) (changed_at (file kind (front ++ drop done lumps)) c (further k s.spot) s.found ∙ s.put)

lasts_through : (kind : Kind) (lumps front : List WadLump) (k done : ℕ) (cs : List Change) (a : Change) → AreSpaced (lump_names lumps) (length lumps) done cs → length front ≡ k + done → AreFurther (lump_names lumps) (lump_names (front ++ drop done lumps)) k cs → IsSettled (file kind (front ++ drop done lumps)) a (k + done) → HasReject (with_all (file kind (front ++ drop done lumps)) cs) a.name a.table
lasts_through kind lumps front k done [] a spaced len h settled = settled.has
lasts_through kind lumps front k done (c ∷ cs) a spaced len h settled =
    let s : IsStep kind lumps front k done c cs = step_of kind lumps front k done c cs spaced len h in
    let old : WadFile = file kind (front ++ drop done lumps) in
    let begins : done ≤ s.spot.marker = s.begins in
    let inside : s.spot.marker < reject_then s.spot = s.inside in
    let ends : reject_then s.spot ≤ place_behind_reject s.spot = then_behind s.spot in
    let more : k ≤ shift_of s.spot.reject k = shift_more s.spot.reject k in
    let still : IsSettled (with_reject old (further k s.spot) c.table) a (k + done) = lasts old a (k + done) c.name (further k s.spot) c.table settled s.found s.other (omega (arith, begins)) (inside_then k s.spot inside) in
    let there : IsSettled (file kind ((front ++ piece lumps done s.spot c.table) ++ drop (place_behind_reject s.spot) lumps)) a (k + done) = subst (λ (w : WadFile). IsSettled w a (k + done)) s.put still in
    let rest = lasts_through kind lumps (front ++ piece lumps done s.spot c.table) (shift_of s.spot.reject k) (place_behind_reject s.spot) cs a s.spaced s.len s.later (wider _ a (k + done) (shift_of s.spot.reject k + place_behind_reject s.spot) (omega (arith, begins, inside, ends, more)) there) in
    subst (λ (w : WadFile). HasReject w a.name a.table) (sym (after_step kind lumps front k done c cs s)) rest

-- right behind its own change
settled_by : (kind : Kind) (lumps front : List WadLump) (k done : ℕ) (c : Change) (cs : List Change) (s : IsStep kind lumps front k done c cs) → IsSettled (file kind ((front ++ piece lumps done s.spot c.table) ++ drop (place_behind_reject s.spot) lumps)) c (shift_of s.spot.reject k + place_behind_reject s.spot)
settled_by kind lumps front k done c cs s =
    let old : WadFile = file kind (front ++ drop done lumps) in
    let at : MapSpot = further k s.spot in
    let h : IsMapKept c.name at c.table old (with_reject old at c.table) = kept old c.name at c.table s.found (no_reject c.name s.other) in
    let inside : s.spot.marker < reject_then s.spot = s.inside in
    let ends : reject_then s.spot ≤ place_behind_reject s.spot = then_behind s.spot in
    let more : k ≤ shift_of s.spot.reject k = shift_more s.spot.reject k in
    subst (λ (w : WadFile). IsSettled w c (shift_of s.spot.reject k + place_behind_reject s.spot)) s.put (record {
      has = record { spot = spot_then at; found = h.found; place = reject_then at; reject = refl; lump = h.reject.0; there = h.reject.1; bytes = h.reject.2 };
      marker = omega (arith, inside, ends, more);
      place = then_before k s.spot;
      other = s.other;
    })

tables_there : (kind : Kind) (lumps front : List WadLump) (k done : ℕ) (cs : List Change) → AreSpaced (lump_names lumps) (length lumps) done cs → length front ≡ k + done → AreFurther (lump_names lumps) (lump_names (front ++ drop done lumps)) k cs → AllByRecursion (λ (c : Change). HasReject (with_all (file kind (front ++ drop done lumps)) cs) c.name c.table) cs
tables_there kind lumps front k done [] spaced len h = tt
tables_there kind lumps front k done (c ∷ cs) spaced len h =
    let s : IsStep kind lumps front k done c cs = step_of kind lumps front k done c cs spaced len h in
    let next : List WadLump = front ++ piece lumps done s.spot c.table in
    let back = sym (after_step kind lumps front k done c cs s) in
    let first : HasReject (with_all (file kind (next ++ drop (place_behind_reject s.spot) lumps)) cs) c.name c.table = lasts_through kind lumps next (shift_of s.spot.reject k) (place_behind_reject s.spot) cs c s.spaced s.len s.later (settled_by kind lumps front k done c cs s) in
    let others : AllByRecursion (λ (a : Change). HasReject (with_all (file kind (next ++ drop (place_behind_reject s.spot) lumps)) cs) a.name a.table) cs = tables_there kind lumps next (shift_of s.spot.reject k) (place_behind_reject s.spot) cs s.spaced s.len s.later in
    (subst (λ (w : WadFile). HasReject w c.name c.table) back first, subst (λ (w : WadFile). AllByRecursion (λ (a : Change). HasReject w a.name a.table) cs) back others)

pub each_table_is_there : EachTableIsThere
each_table_is_there w cs among = tables_there w.kind w.lumps [] 0 0 cs (spaced_lumps w cs among) refl (further_start (names_of_lumps w) cs)
