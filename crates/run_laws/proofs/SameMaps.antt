-- The map of a change keeps its four lumps when all changes are made.
use Rattle.std.proofs.Common.{◌≡◌, ℕ, zero, suc, ◌+◌, ◌-◌, ◌<◌, ◌≤◌, List, [], ◌∷◌, ◌++◌, length, drop, map, get_or, Bool, true, false, ◌==◌, if◌then◌else◌, Option, Some, None, Ok, refl, sym, ap, ◌∙◌, subst, arith}
use Rattle.std.specs.Prelude.{slice_get}
use Rattle.std.specs.Char.{to_ascii_uppercase}
use Rattle.std.specs.List.{AllByRecursion, insert}
use Rattle.std.proofs.Math.ListN.{set}
use Rattle.std.proofs.Math.Seq.{map-set_same}
use Rattle.std.proofs.lemmas.List.{length-map}
use Rattle.sight_names.specs.declared.faults.Lump.TheVariants.{Linedefs, Sidedefs, Vertexes, Sectors}
use Rattle.wad_dir.specs.declared.parts.Kind.{Kind}
use Rattle.wad_dir.specs.declared.parts.MapSpot.{MapSpot}
use Rattle.wad_dir.specs.Kept.{IsMapKept, reject_then, spot_then}
use Rattle.wad_dir.specs.Map.{begins_with_textmap, is_run_name, key_of, lump_name, same_name, shifted, spot_of}
use Rattle.wad_dir.specs.Print.{reject_lump, with_bytes, with_reject}
use Rattle.wad_dir.specs.Wad.{WadFile, WadLump, names_of_lumps}
use Rattle.wad_dir.proofs.Inserted.{padded, place_bound}
use Rattle.wad_dir.proofs.Moved.{further, spot_stays}
use Rattle.wad_dir.proofs.Rewritten.{get_before, get_other, kept, map_insert, sectors_within}
use Rattle.wad_dir.proofs.Spots.{place, spot_parts}
use Rattle.wad_dir.specs.declared.all_maps.parts.Change.{Change}
use Rattle.wad_dir.specs.AllMaps.All.{HasInOrder, names_changed, with_all}
use Rattle.wad_dir.specs.AllMaps.Maps.{maps_in_names}
use Rattle.wad_dir.specs.AllMaps.Names.{name_before_nul}
use Rattle.wad_dir.specs.AllMaps.Spliced.{AreSpaced, piece, place_behind_reject}
use Rattle.wad_dir.proofs.AllMaps.Merging.{AreFurther, IsStep, changed_at, file, further_start, lump_names, spaced_lumps, step_of}
use Rattle.wad_dir.proofs.AllMaps.Pieces.{shift_of, then_behind}
use Rattle.wad_dir.proofs.AllMaps.Spacing.{no_reject, run_before, run_of}

-- the name finds a map in both WADs, of one format, a text in both or in none, and its four lumps have the same names and bytes in both
pub record HasSameMap (old new : WadFile) (name : List ℕ) : Type 0 where
  pub was : MapSpot
  pub was_found : spot_of (names_of_lumps old) name ≡ Ok was
  pub spot : MapSpot
  pub found : spot_of (names_of_lumps new) name ≡ Ok spot
  pub format : spot.format ≡ was.format
  pub text : spot.text ≡ was.text
  pub linedefs : slice_get new.lumps spot.linedefs ≡ slice_get old.lumps was.linedefs
  pub sidedefs : slice_get new.lumps spot.sidedefs ≡ slice_get old.lumps was.sidedefs
  pub vertexes : slice_get new.lumps spot.vertexes ≡ slice_get old.lumps was.vertexes
  pub sectors : slice_get new.lumps spot.sectors ≡ slice_get old.lumps was.sectors

-- ---- where a bound stands

inside_then : (k : ℕ) (spot : MapSpot) → spot.marker < reject_then spot → k + spot.marker < reject_then (further k spot)
inside_then k spot = by spot.reject
  where
    by : (o : Option ℕ) → spot.marker < elim o [ Some r ↦ r | None ↦ spot.sectors + 1 ] → k + spot.marker < elim (shifted k o) [ Some r ↦ r | None ↦ k + spot.sectors + 1 ]
    by (Some r) lt = omega (arith, lt)
    by None lt = omega (arith, lt)

pub shift_more : (o : Option ℕ) (k : ℕ) → k ≤ shift_of o k
shift_more (Some r) k = omega arith
shift_more None k = omega arith

pub after_step : (kind : Kind) (lumps front : List WadLump) (k done : ℕ) (c : Change) (cs : List Change) (s : IsStep kind lumps front k done c cs) → with_all (file kind (front ++ drop done lumps)) (c ∷ cs) ≡ with_all (file kind ((front ++ piece lumps done s.spot c.table) ++ drop (place_behind_reject s.spot) lumps)) cs
after_step kind lumps front k done c cs s = ap (λ (w : WadFile). with_all w cs) (changed_at (file kind (front ++ drop done lumps)) c (further k s.spot) s.found ∙ s.put)

-- what holds of all that lies before a bound, and lasts where a map behind the bound gets another REJECT, holds when all changes are made
module _ (Holds : WadFile → ℕ → Type 0)
    (stays : (w : WadFile) (bound : ℕ) (name : List ℕ) (spot : MapSpot) (table : List ℕ) → Holds w bound → spot_of (names_of_lumps w) name ≡ Ok spot → is_run_name name ≡ false → bound ≤ spot.marker → spot.marker < reject_then spot → Holds (with_reject w spot table) bound)
    (grows : (w : WadFile) (b c : ℕ) → b ≤ c → Holds w b → Holds w c) where
  pub through : (kind : Kind) (lumps front : List WadLump) (k done : ℕ) (cs : List Change) → AreSpaced (lump_names lumps) (length lumps) done cs → length front ≡ k + done → AreFurther (lump_names lumps) (lump_names (front ++ drop done lumps)) k cs → Holds (file kind (front ++ drop done lumps)) (k + done) → (end : ℕ) × Holds (with_all (file kind (front ++ drop done lumps)) cs) end
  through kind lumps front k done [] spaced len h holds = (k + done, holds)
  through kind lumps front k done (c ∷ cs) spaced len h holds =
      let s : IsStep kind lumps front k done c cs = step_of kind lumps front k done c cs spaced len h in
      let old : WadFile = file kind (front ++ drop done lumps) in
      let begins : done ≤ s.spot.marker = s.begins in
      let inside : s.spot.marker < reject_then s.spot = s.inside in
      let ends : reject_then s.spot ≤ place_behind_reject s.spot = then_behind s.spot in
      let more : k ≤ shift_of s.spot.reject k = shift_more s.spot.reject k in
      let still : Holds (with_reject old (further k s.spot) c.table) (k + done) = stays old (k + done) c.name (further k s.spot) c.table holds s.found s.other (omega (arith, begins)) (inside_then k s.spot inside) in
      let there : Holds (file kind ((front ++ piece lumps done s.spot c.table) ++ drop (place_behind_reject s.spot) lumps)) (k + done) = subst (λ (w : WadFile). Holds w (k + done)) s.put still in
      let rest = through kind lumps (front ++ piece lumps done s.spot c.table) (shift_of s.spot.reject k) (place_behind_reject s.spot) cs s.spaced s.len s.later (grows _ (k + done) (shift_of s.spot.reject k + place_behind_reject s.spot) (omega (arith, begins, inside, ends, more)) there) in
      (rest.0, subst (λ (w : WadFile). Holds w rest.0) (sym (after_step kind lumps front k done c cs s)) rest.1)

-- ---- where the lumps of a map stand

-- the place is behind the marker, and among so many lumps behind it
abbrev IsAmong : ℕ → ℕ → ℕ → Type 0
IsAmong marker len place = (marker < place) × (place < marker + 1 + len)

record InRun (ns : List (List ℕ)) (spot : MapSpot) : Type 0 where
  linedefs : IsAmong spot.marker (length (run_of ns spot.marker)) spot.linedefs
  sidedefs : IsAmong spot.marker (length (run_of ns spot.marker)) spot.sidedefs
  vertexes : IsAmong spot.marker (length (run_of ns spot.marker)) spot.vertexes
  sectors : IsAmong spot.marker (length (run_of ns spot.marker)) spot.sectors

among : (m len k : ℕ) → k < len → IsAmong m len (m + 1 + k)
among m len k lt = (omega arith, omega (arith, lt))

in_run : (ns : List (List ℕ)) (name : List ℕ) (spot : MapSpot) → spot_of ns name ≡ Ok spot → InRun ns spot
in_run ns name spot found =
    let p = spot_parts ns name spot found in
    let run : List (List ℕ) = run_of ns p.marker in
    let text : Bool = begins_with_textmap (drop (p.marker + 1) ns) in
    let below : (x : List ℕ) (k : ℕ) → place x run ≡ Some k → k < length run = (λ x k e. let h = place_bound (λ n. same_name n x) run 0 k e in omega (arith, h.1)) in
    subst (λ (y : MapSpot). InRun ns y) (sym p.is) (record {
      linedefs = among p.marker (length run) p.l (below (lump_name text Linedefs) p.l p.linedefs);
      sidedefs = among p.marker (length run) p.s (below (lump_name text Sidedefs) p.s p.sidedefs);
      vertexes = among p.marker (length run) p.v (below (lump_name text Vertexes) p.v p.vertexes);
      sectors = among p.marker (length run) p.c (below (lump_name text Sectors) p.c p.sectors);
    })

-- ---- a map behind it gets another REJECT

-- the map is the one of the old WAD, and its marker lies before a bound
record IsStill (first w : WadFile) (name : List ℕ) (bound : ℕ) : Type 0 where
  same : HasSameMap first w name
  marker : same.spot.marker < bound
  other : is_run_name name ≡ false

module _ (first w : WadFile) (a : List ℕ) (bound : ℕ) (name : List ℕ) (spot : MapSpot) (table : List ℕ) (s : IsStill first w a bound) (found : spot_of (names_of_lumps w) name ≡ Ok spot) (other : is_run_name name ≡ false) (behind : bound ≤ spot.marker) (inside : spot.marker < reject_then spot) where
  abbrev at : MapSpot
  at = s.same.spot

  -- all its lumps lie before the marker of that map
  run_ends : at.marker + 1 + length (run_of (names_of_lumps w) at.marker) ≤ spot.marker
  run_ends =
      let marker : at.marker < bound = s.marker in
      run_before (names_of_lumps w) a name at spot s.same.found found other (omega (arith, marker, behind))

  before : (k : ℕ) → IsAmong at.marker (length (run_of (names_of_lumps w) at.marker)) k → k < spot.marker
  before k h = let run = run_ends in let lt = h.1 in omega (arith, run, lt)

  places : InRun (names_of_lumps w) at
  places = in_run (names_of_lumps w) a at s.same.found

  -- where the lumps before that marker are as they were, and the name finds the same spot
  still : (new : WadFile) → spot_of (names_of_lumps new) a ≡ Ok at → ((k : ℕ) → k < spot.marker → slice_get new.lumps k ≡ slice_get w.lumps k) → IsStill first new a bound
  still new there as_before = record {
    same = record {
      was = s.same.was;
      was_found = s.same.was_found;
      spot = at;
      found = there;
      format = s.same.format;
      text = s.same.text;
      linedefs = as_before at.linedefs (before at.linedefs places.linedefs) ∙ s.same.linedefs;
      sidedefs = as_before at.sidedefs (before at.sidedefs places.sidedefs) ∙ s.same.sidedefs;
      vertexes = as_before at.vertexes (before at.vertexes places.vertexes) ∙ s.same.vertexes;
      sectors = as_before at.sectors (before at.sectors places.sectors) ∙ s.same.sectors;
    };
    marker = s.marker;
    other = s.other;
  }

  replaced : (r : ℕ) → spot.marker < r → IsStill first (record { kind = w.kind; lumps = set w.lumps r (with_bytes (get_or w.lumps r (reject_lump table)) table) }) a bound
  replaced r lt =
      let new : List WadLump = set w.lumps r (with_bytes (get_or w.lumps r (reject_lump table)) table) in
      let names : map (λ (l : WadLump). l.name) new ≡ names_of_lumps w = map-set_same (λ (l : WadLump). l.name) w.lumps r (with_bytes (get_or w.lumps r (reject_lump table)) table) (reject_lump table) refl in
      still (record { kind = w.kind; lumps = new }) (ap (λ (ns : List (List ℕ)). spot_of ns a) names ∙ s.same.found)
      (λ k below. get_other w.lumps r k (with_bytes (get_or w.lumps r (reject_lump table)) table) (λ e. omega (arith, e, below, lt)))

  put_in : spot.marker < spot.sectors + 1 → IsStill first (record { kind = w.kind; lumps = insert w.lumps (spot.sectors + 1) (reject_lump table) }) a bound
  put_in lt =
      let long : length (names_of_lumps w) ≡ length w.lumps = length-map w.lumps (λ (l : WadLump). l.name) in
      let within : spot.sectors < length (names_of_lumps w) = sectors_within (names_of_lumps w) name spot (spot_parts (names_of_lumps w) name spot found) in
      let names : map (λ (l : WadLump). l.name) (insert w.lumps (spot.sectors + 1) (reject_lump table)) ≡ insert (names_of_lumps w) (spot.sectors + 1) padded = map_insert (λ (l : WadLump). l.name) w.lumps (spot.sectors + 1) (reject_lump table) in
      let run = run_ends in
      let stays : spot_of (insert (names_of_lumps w) (spot.sectors + 1) padded) a ≡ Ok at = spot_stays (names_of_lumps w) (spot.sectors + 1) a padded at (no_reject a s.other) s.same.found (omega (arith, run, lt)) (omega (arith, within)) in
      still (record { kind = w.kind; lumps = insert w.lumps (spot.sectors + 1) (reject_lump table) }) (ap (λ (ns : List (List ℕ)). spot_of ns a) names ∙ stays)
      (λ k below. get_before w.lumps (spot.sectors + 1) k (reject_lump table) (omega (arith, within, long)) (omega (arith, below, lt)))

  lasts : IsStill first (with_reject w spot table) a bound
  lasts = by spot.reject inside
    where
      by : (o : Option ℕ) → spot.marker < elim o [ Some r ↦ r | None ↦ spot.sectors + 1 ] → IsStill first (record { kind = w.kind; lumps = elim o [ Some r ↦ set w.lumps r (with_bytes (get_or w.lumps r (reject_lump table)) table) | None ↦ insert w.lumps (spot.sectors + 1) (reject_lump table) ] }) a bound
      by (Some r) lt = replaced r lt
      by None lt = put_in lt

wider : (first w : WadFile) (a : List ℕ) (b c : ℕ) → b ≤ c → IsStill first w a b → IsStill first w a c
wider first w a b c le s = let marker : s.same.spot.marker < b = s.marker in record { same = s.same; marker = omega (arith, marker, le); other = s.other }

-- ---- its own change

-- a lump behind what was changed before
get_further : {X : Type 0} (front xs : List X) (k done i : ℕ) → length front ≡ k + done → done ≤ i → slice_get (front ++ drop done xs) (k + i) ≡ slice_get xs i
get_further {X} front xs k done i len le =
    let same : k + i ≡ length front + (i - done) = omega (arith, len, le) in
    ap (λ (j : ℕ). slice_get (front ++ drop done xs) j) same ∙ behind front (i - done) ∙ dropped xs done (i - done) ∙ (let back : done + (i - done) ≡ i = omega (arith, le) in ap (λ (j : ℕ). slice_get xs j) back)
  where
    behind : (ps : List X) (j : ℕ) → slice_get (ps ++ drop done xs) (length ps + j) ≡ slice_get (drop done xs) j
    behind [] j = let at : 0 + j ≡ j = omega arith in ap (λ (n : ℕ). slice_get (drop done xs) n) at
    behind (p ∷ ps) j = let at : suc (length ps) + j ≡ suc (length ps + j) = omega arith in ap (λ (n : ℕ). slice_get (p ∷ (ps ++ drop done xs)) n) at ∙ behind ps j

    dropped : (ys : List X) (n j : ℕ) → slice_get (drop n ys) j ≡ slice_get ys (n + j)
    dropped ys zero j = let at : j ≡ 0 + j = omega arith in ap (λ (k : ℕ). slice_get ys k) at
    dropped [] (suc n) j = refl
    dropped (y ∷ ys) (suc n) j = let at : suc (n + j) ≡ suc n + j = omega arith in dropped ys n j ∙ ap (λ (k : ℕ). slice_get (y ∷ ys) k) at

module _ (kind : Kind) (lumps front : List WadLump) (k done : ℕ) (c : Change) (cs : List Change) (s : IsStep kind lumps front k done c cs) (len : length front ≡ k + done) where
  abbrev old : WadFile
  old = file kind (front ++ drop done lumps)

  abbrev there : MapSpot
  there = further k s.spot

  in_first : (i : ℕ) → IsAmong s.spot.marker (length (run_of (lump_names lumps) s.spot.marker)) i → slice_get (front ++ drop done lumps) (k + i) ≡ slice_get lumps i
  in_first i h = let begins : done ≤ s.spot.marker = s.begins in let lt = h.0 in get_further front lumps k done i len (omega (arith, begins, lt))

  still_by : IsStill (file kind lumps) (file kind ((front ++ piece lumps done s.spot c.table) ++ drop (place_behind_reject s.spot) lumps)) c.name (shift_of s.spot.reject k + place_behind_reject s.spot)
  still_by =
      let h : IsMapKept c.name there c.table old (with_reject old there c.table) = kept old c.name there c.table s.found (no_reject c.name s.other) in
      let run : InRun (lump_names lumps) s.spot = in_run (lump_names lumps) c.name s.spot s.first in
      let inside : s.spot.marker < reject_then s.spot = s.inside in
      let ends : reject_then s.spot ≤ place_behind_reject s.spot = then_behind s.spot in
      let more : k ≤ shift_of s.spot.reject k = shift_more s.spot.reject k in
      subst (λ (w : WadFile). IsStill (file kind lumps) w c.name (shift_of s.spot.reject k + place_behind_reject s.spot)) s.put (record {
        same = record {
          was = s.spot;
          was_found = s.first;
          spot = spot_then there;
          found = h.found;
          format = refl;
          text = refl;
          linedefs = h.linedefs ∙ in_first s.spot.linedefs run.linedefs;
          sidedefs = h.sidedefs ∙ in_first s.spot.sidedefs run.sidedefs;
          vertexes = h.vertexes ∙ in_first s.spot.vertexes run.vertexes;
          sectors = h.sectors ∙ in_first s.spot.sectors run.sectors;
        };
        marker = omega (arith, inside, ends, more);
        other = s.other;
      })

-- ---- all changes

stays_through : (first : WadFile) (kind : Kind) (lumps front : List WadLump) (k done : ℕ) (cs : List Change) (a : List ℕ) → AreSpaced (lump_names lumps) (length lumps) done cs → length front ≡ k + done → AreFurther (lump_names lumps) (lump_names (front ++ drop done lumps)) k cs → IsStill first (file kind (front ++ drop done lumps)) a (k + done) → HasSameMap first (with_all (file kind (front ++ drop done lumps)) cs) a
stays_through first kind lumps front k done cs a spaced len h holds =
    (through (λ w bound. IsStill first w a bound) (λ w bound name spot table s found other behind inside. lasts first w a bound name spot table s found other behind inside) (λ w b c le s. wider first w a b c le s) kind lumps front k done cs spaced len h holds).1.same

maps_there : (kind : Kind) (lumps front : List WadLump) (k done : ℕ) (cs : List Change) → AreSpaced (lump_names lumps) (length lumps) done cs → length front ≡ k + done → AreFurther (lump_names lumps) (lump_names (front ++ drop done lumps)) k cs → AllByRecursion (λ (c : Change). HasSameMap (file kind lumps) (with_all (file kind (front ++ drop done lumps)) cs) c.name) cs
maps_there kind lumps front k done [] spaced len h = tt
maps_there kind lumps front k done (c ∷ cs) spaced len h =
    let s : IsStep kind lumps front k done c cs = step_of kind lumps front k done c cs spaced len h in
    let next : List WadLump = front ++ piece lumps done s.spot c.table in
    let back = sym (after_step kind lumps front k done c cs s) in
    let here : HasSameMap (file kind lumps) (with_all (file kind (next ++ drop (place_behind_reject s.spot) lumps)) cs) c.name = stays_through (file kind lumps) kind lumps next (shift_of s.spot.reject k) (place_behind_reject s.spot) cs c.name s.spaced s.len s.later (still_by kind lumps front k done c cs s len) in
    let others : AllByRecursion (λ (a : Change). HasSameMap (file kind lumps) (with_all (file kind (next ++ drop (place_behind_reject s.spot) lumps)) cs) a.name) cs = maps_there kind lumps next (shift_of s.spot.reject k) (place_behind_reject s.spot) cs s.spaced s.len s.later in
    (subst (λ (w : WadFile). HasSameMap (file kind lumps) w c.name) back here, subst (λ (w : WadFile). AllByRecursion (λ (a : Change). HasSameMap (file kind lumps) w a.name) cs) back others)

-- each name that is changed finds the map there that it found before
pub each_map_is_there : (w : WadFile) (cs : List Change) → HasInOrder (maps_in_names (names_of_lumps w)) (names_changed cs) → AllByRecursion (λ (c : Change). HasSameMap w (with_all w cs) c.name) cs
each_map_is_there w cs among = maps_there w.kind w.lumps [] 0 0 cs (spaced_lumps w cs among) refl (further_start (names_of_lumps w) cs)
