-- A WAD with another REJECT for a map has the map at its place, and all its other lumps.
use Rattle.std.proofs.Common.{◌≡◌, ◌≢◌, ℕ, zero, suc, ◌+◌, ◌<◌, ◌≤◌, List, [], ◌∷◌, length, drop, map, Bool, true, false, not, ◌&&◌, if◌then◌else◌, nat_lt, Option, Some, None, Ok, refl, sym, ap, ◌∙◌, arith}
use Rattle.std.specs.Prelude.{codes, slice_get}
use Rattle.std.specs.List.{insert, position_from}
use Rattle.std.proofs.Math.ListN.{get_or, set}
use Rattle.std.proofs.Math.Seq.{map-set_same}
use Rattle.std.proofs.lemmas.Bool.Decides.{Decides-ltb, not_from_Decides}
use Rattle.std.proofs.lemmas.List.{length-drop, length-map, length-set}
use Rattle.std.proofs.lemmas.List.Edits.{length-insert}
use Rattle.sight_names.specs.declared.faults.Lump.{Lump}
use Rattle.sight_names.specs.declared.faults.Lump.TheVariants.{Linedefs, Sidedefs, Vertexes, Sectors}
use Rattle.wad_dir.specs.declared.parts.MapSpot.{MapSpot}
use Rattle.wad_dir.specs.Map.{begins_with_name, begins_with_textmap, format_behind, format_told, last_from, lump_name, same_name, shifted, spot_of}
use Rattle.wad_dir.specs.Print.{reject_lump, with_bytes, with_reject}
use Rattle.wad_dir.specs.Wad.{WadFile, WadLump, names_of_lumps}
use Rattle.wad_dir.specs.Kept.{IsMapKept, spot_then}
use Rattle.wad_dir.proofs.Inserted.{apart, drop_behind, drop_insert, last_kept, last_within, more, more_insert, more_short, none_there, padded, place_before, place_behind, place_bound, place_new, word}
use Rattle.wad_dir.proofs.Spots.{IsSpot, end_at, is_cut, lump_place, place, run_at, spot_at, spot_from, spot_parts}
use Rattle.wad_dir.proofs.Moved.{head_stays}

-- ---- lists

pub map_insert : {X Y : Type 0} (f : X → Y) (xs : List X) (i : ℕ) (x : X) → map f (insert xs i x) ≡ insert (map f xs) i (f x)
map_insert f xs zero x = refl
map_insert f [] (suc i) x = refl
map_insert {X} {Y} f (y ∷ xs) (suc i) x = ap (λ (ys : List Y). f y ∷ ys) (map_insert f xs i x)

get_at : {X : Type 0} (xs : List X) (i : ℕ) (x : X) → i ≤ length xs → slice_get (insert xs i x) i ≡ Some x
get_at xs zero x le = refl
get_at [] (suc i) x le = absurd (omega (arith, le))
get_at (y ∷ xs) (suc i) x le = get_at xs i x (omega (arith, le))

pub get_before : {X : Type 0} (xs : List X) (i k : ℕ) (x : X) → i ≤ length xs → k < i → slice_get (insert xs i x) k ≡ slice_get xs k
get_before xs zero k x le lt = absurd (omega (arith, lt))
get_before [] (suc i) k x le lt = absurd (omega (arith, le))
get_before (y ∷ xs) (suc i) zero x le lt = refl
get_before (y ∷ xs) (suc i) (suc k) x le lt = get_before xs i k x (omega (arith, le)) (omega (arith, lt))

get_behind : {X : Type 0} (xs : List X) (i k : ℕ) (x : X) → i ≤ length xs → i ≤ k → slice_get (insert xs i x) (suc k) ≡ slice_get xs k
get_behind xs zero k x le lt = refl
get_behind [] (suc i) k x le lt = absurd (omega (arith, le))
get_behind (y ∷ xs) (suc i) zero x le lt = absurd (omega (arith, lt))
get_behind (y ∷ xs) (suc i) (suc k) x le lt = get_behind xs i k x (omega (arith, le)) (omega (arith, lt))

get_set : {X : Type 0} (xs : List X) (i : ℕ) (x : X) → i < length xs → slice_get (set xs i x) i ≡ Some x
get_set [] i x lt = absurd (omega (arith, lt))
get_set (y ∷ xs) zero x lt = refl
get_set (y ∷ xs) (suc i) x lt = get_set xs i x (omega (arith, lt))

pub get_other : {X : Type 0} (xs : List X) (i k : ℕ) (x : X) → k ≢ i → slice_get (set xs i x) k ≡ slice_get xs k
get_other [] i k x other = refl
get_other (y ∷ xs) zero zero x other = absurd (other refl)
get_other (y ∷ xs) zero (suc k) x other = refl
get_other (y ∷ xs) (suc i) zero x other = refl
get_other (y ∷ xs) (suc i) (suc k) x other = get_other xs i k x (λ e. other (ap suc e))

-- ---- numbers that move

-- a place behind c moves by one
abbrev moved : ℕ → ℕ → ℕ
moved c k = if nat_lt c k then k + 1 else k

moved_by : (a c k : ℕ) → a + moved c k ≡ moved (a + c) (a + k)
moved_by a c k = grind (arith, not_from_Decides)

place_moved : {X : Type 0} (test : X → Bool) (xs : List X) (c k : ℕ) (x : X) → position_from test 0 xs ≡ Some k → test x ≡ false → position_from test 0 (insert xs (c + 1) x) ≡ Some (moved c k)
place_moved test xs c k x h other = by (nat_lt c k) refl
  where
    by : (b : Bool) → nat_lt c k ≡ b → position_from test 0 (insert xs (c + 1) x) ≡ Some (if b then k + 1 else k)
    by true e = place_behind test xs (c + 1) 0 k x h (let lt : c < k = (Decides-ltb c k).0 e in omega (arith, lt)) other
    by false e = place_before test xs (c + 1) 0 k x h (let not : ¬ (c < k) = not_from_Decides (nat_lt c k) (Decides-ltb c k) e in omega (arith, not))

-- the name of a REJECT is none of the four
no_reject : (text : Bool) (lump : Lump) → same_name padded (lump_name text lump) ≡ false
no_reject true lump = refl
no_reject false Linedefs = refl
no_reject false Sidedefs = refl
no_reject false Vertexes = refl
no_reject false Sectors = refl

none_of_reject : (text : Bool) (lump : Lump) → same_name (lump_name text lump) word ≡ false
none_of_reject true lump = refl
none_of_reject false Linedefs = refl
none_of_reject false Sidedefs = refl
none_of_reject false Vertexes = refl
none_of_reject false Sectors = refl

-- ---- the REJECT is put in

module _ (ns : List (List ℕ)) (name : List ℕ) (spot : MapSpot) (p : IsSpot ns name spot) where
  abbrev after : List (List ℕ)
  after = drop (p.marker + 1) ns

  abbrev text : Bool
  text = begins_with_textmap after

  abbrev run : List (List ℕ)
  run = run_at after

  marker_within : p.marker < length ns
  marker_within = let h = last_within ns name 0 p.marker p.is_last in omega (arith, h)

  after_length : p.marker + 1 + length after ≡ length ns
  after_length = let h = length-drop (p.marker + 1) ns in let w = marker_within in omega (arith, h, w)

  sectors_in_run : p.c < length run
  sectors_in_run = let h = place_bound (λ n. same_name n (lump_name text Sectors)) run 0 p.c p.sectors in omega (arith, h.1)

  pub sectors_within : spot.sectors < length ns
  sectors_within =
      let a = after_length in
      let b = sectors_in_run in
      let d = more_short text [] after in
      let is : spot.sectors ≡ p.marker + 1 + p.c = ap (λ (x : MapSpot). x.sectors) p.is in
      omega (arith, a, b, d, is)

  -- ---- none is there

  module _ (other : same_name word name ≡ false) (none : p.r ≡ None) where
    abbrev put : List (List ℕ)
    put = insert ns (spot.sectors + 1) padded

    place_put : spot.sectors + 1 ≡ p.marker + 1 + (p.c + 1)
    place_put = let is : spot.sectors ≡ p.marker + 1 + p.c = ap (λ (x : MapSpot). x.sectors) p.is in omega (arith, is)

    last_put : last_from put name 0 None ≡ Some p.marker
    last_put = last_kept ns (spot.sectors + 1) name padded 0 None p.marker other (let e = place_put in omega (arith, e)) p.is_last

    after_put : drop (p.marker + 1) put ≡ insert after (p.c + 1) padded
    after_put = ap (λ (k : ℕ). drop (p.marker + 1) (insert ns k padded)) place_put ∙ drop_insert ns (p.marker + 1) (p.c + 1) padded (let w = marker_within in omega (arith, w))

    text_put : begins_with_textmap (insert after (p.c + 1) padded) ≡ text
    text_put = let a = sectors_in_run in let b = more_short text [] after in head_stays (codes "TEXTMAP") after 0 (p.c + 1) padded (omega arith) (omega (arith, a, b))

    run_put : run_at (insert after (p.c + 1) padded) ≡ insert run (p.c + 1) padded
    run_put = ap (λ (t : Bool). more t [] (insert after (p.c + 1) padded)) text_put ∙ more_insert text (p.c + 1) [] after (let a = sectors_in_run in omega (arith, a)) refl (none_there (λ n. same_name n word) run 0 (p.reject ∙ none))

    end_put : end_at (insert after (p.c + 1) padded) ≡ end_at after
    end_put =
        let a = sectors_in_run in
        let b = more_short text [] after in
        let long : length (insert run (p.c + 1) padded) ≡ suc (length run) = (let h = length-insert run (p.c + 1) padded (omega (arith, a)) in omega (arith, h)) in
        ap (λ (ys : List (List ℕ)). drop (length ys) (insert after (p.c + 1) padded)) run_put ∙ ap (λ (k : ℕ). drop k (insert after (p.c + 1) padded)) long ∙ drop_behind after (p.c + 1) (length run) padded (omega (arith, a)) (omega (arith, a, b))

    -- a place in the new run
    at_put : (lump : Lump) (k : ℕ) → lump_place lump after ≡ Some k → lump_place lump (drop (p.marker + 1) put) ≡ Some (moved p.c k)
    at_put lump k h =
        ap (λ (ys : List (List ℕ)). lump_place lump ys) after_put ∙ (λ i. place (lump_name (text_put i) lump) (run_put i))
        ∙ place_moved (λ n. same_name n (lump_name text lump)) run p.c k padded h (no_reject text lump)

    parts_put : IsSpot put name (spot_at p.marker p.text p.format (moved p.c p.l) (moved p.c p.s) (moved p.c p.v) (moved p.c p.c) (Some (p.c + 1)))
    parts_put =
        let a = sectors_in_run in
        let none_more : 0 + (p.c + 1) ≡ p.c + 1 = omega arith in record {
          marker = p.marker;
          is_last = last_put;
          text = p.text;
          is_text = ap (λ (ys : List (List ℕ)). begins_with_textmap ys) after_put ∙ text_put ∙ p.is_text;
          whole = ap (λ (ys : List (List ℕ)). is_cut ys) after_put ∙ (λ i. text_put i && not (begins_with_name (codes "ENDMAP") (end_put i))) ∙ p.whole;
          format = p.format;
          behind_run = ap (λ (ys : List (List ℕ)). format_behind (end_at ys)) after_put ∙ ap (λ (ys : List (List ℕ)). format_behind ys) end_put ∙ p.behind_run;
          l = moved p.c p.l;
          s = moved p.c p.s;
          v = moved p.c p.v;
          c = moved p.c p.c;
          r = Some (p.c + 1);
          linedefs = at_put Linedefs p.l p.linedefs;
          sidedefs = at_put Sidedefs p.s p.sidedefs;
          vertexes = at_put Vertexes p.v p.vertexes;
          sectors = at_put Sectors p.c p.sectors;
          reject = ap (λ (ys : List (List ℕ)). place (codes "REJECT") (run_at ys)) after_put ∙ ap (λ (ys : List (List ℕ)). place (codes "REJECT") ys) run_put ∙ place_new (λ n. same_name n word) run (p.c + 1) 0 padded (p.reject ∙ none) refl (omega (arith, a)) ∙ ap (λ (k : ℕ). Some k) none_more;
          is = refl;
        }

    -- which is the old spot, moved
    abbrev spot_of_five : ℕ → ℕ → ℕ → ℕ → ℕ → MapSpot
    spot_of_five l s v c r = record { marker = p.marker; linedefs = l; sidedefs = s; vertexes = v; sectors = c; reject = Some r; format = format_told p.text p.format; text = p.text }

    is_then : spot_at p.marker p.text p.format (moved p.c p.l) (moved p.c p.s) (moved p.c p.v) (moved p.c p.c) (Some (p.c + 1)) ≡ spot_then (spot_at p.marker p.text p.format p.l p.s p.v p.c None)
    is_then =
        let r : p.marker + 1 + (p.c + 1) ≡ p.marker + 1 + p.c + 1 = omega arith in
        (λ i. spot_of_five (moved_by (p.marker + 1) p.c p.l i) (moved_by (p.marker + 1) p.c p.s i) (moved_by (p.marker + 1) p.c p.v i) (moved_by (p.marker + 1) p.c p.c i) (r i))

    pub spot_put : spot_of put name ≡ Ok (spot_then spot)
    spot_put = spot_from put name _ parts_put ∙ ap (λ (x : MapSpot). Ok x) (is_then ∙ ap spot_then (ap (spot_at p.marker p.text p.format p.l p.s p.v p.c) (sym none) ∙ sym p.is))

-- ---- one is there, or none

-- the spot with another REJECT
abbrev with_place : MapSpot → Option ℕ → MapSpot
with_place spot o = record { marker = spot.marker; linedefs = spot.linedefs; sidedefs = spot.sidedefs; vertexes = spot.vertexes; sectors = spot.sectors; reject = o; format = spot.format; text = spot.text }

abbrev rewritten : WadFile → MapSpot → Option ℕ → List ℕ → WadFile
rewritten w spot o table = with_reject w (with_place spot o) table

none_of : (by : ℕ) (r : Option ℕ) → None ≡ shifted by r → r ≡ None
none_of by None e = refl
none_of by (Some k) e = absurd cc

record IsShifted (by : ℕ) (r : Option ℕ) (place : ℕ) : Type 0 where
  k : ℕ
  is : r ≡ Some k
  at : place ≡ by + k

some_of : (by : ℕ) (r : Option ℕ) (at : ℕ) → Some at ≡ shifted by r → IsShifted by r at
some_of by None at e = absurd cc
some_of by (Some k) at e = record { k = k; is = refl; at = cc }

get_moved : {X : Type 0} (xs : List X) (s k : ℕ) (x : X) → s < length xs → slice_get (insert xs (s + 1) x) (moved s k) ≡ slice_get xs k
get_moved {X} xs s k x lt = grind (arith, get_before, get_behind, not_from_Decides)

names_put : (w : WadFile) (spot : MapSpot) (table : List ℕ) → names_of_lumps (rewritten w spot None table) ≡ insert (names_of_lumps w) (spot.sectors + 1) padded
names_put w spot table = map_insert (λ (l : WadLump). l.name) w.lumps (spot.sectors + 1) (reject_lump table)

names_stay : (w : WadFile) (spot : MapSpot) (r : ℕ) (table : List ℕ) → names_of_lumps (rewritten w spot (Some r) table) ≡ names_of_lumps w
names_stay w spot r table = map-set_same (λ (l : WadLump). l.name) w.lumps r (with_bytes (get_or w.lumps r (reject_lump table)) table) (reject_lump table) refl

kept_none : (w : WadFile) (name : List ℕ) (spot : MapSpot) (table : List ℕ) → spot_of (names_of_lumps w) name ≡ Ok (with_place spot None) → same_name word name ≡ false → IsMapKept name (with_place spot None) table w (rewritten w spot None table)
kept_none w name spot table found other =
    let p = spot_parts (names_of_lumps w) name (with_place spot None) found in
    let none : p.r ≡ None = none_of (p.marker + 1) p.r (ap (λ (x : MapSpot). x.reject) p.is) in
    let within : spot.sectors < length w.lumps = (let a = sectors_within (names_of_lumps w) name (with_place spot None) p in let b = length-map w.lumps (λ (l : WadLump). l.name) in omega (arith, a, b)) in
    let moves : (k : ℕ) → slice_get (insert w.lumps (spot.sectors + 1) (reject_lump table)) (moved spot.sectors k) ≡ slice_get w.lumps k = (λ k. get_moved w.lumps spot.sectors k (reject_lump table) within) in
    record {
      found = ap (λ (ns : List (List ℕ)). spot_of ns name) (names_put w spot table) ∙ spot_put (names_of_lumps w) name (with_place spot None) p other none;
      linedefs = moves spot.linedefs;
      sidedefs = moves spot.sidedefs;
      vertexes = moves spot.vertexes;
      sectors = moves spot.sectors;
      reject = (reject_lump table, get_at w.lumps (spot.sectors + 1) (reject_lump table) (omega (arith, within)), refl);
      others = λ k not. moves k;
      count = length-insert w.lumps (spot.sectors + 1) (reject_lump table) (omega (arith, within));
    }

kept_some : (w : WadFile) (name : List ℕ) (spot : MapSpot) (r : ℕ) (table : List ℕ) → spot_of (names_of_lumps w) name ≡ Ok (with_place spot (Some r)) → IsMapKept name (with_place spot (Some r)) table w (rewritten w spot (Some r) table)
kept_some w name spot r table found =
    let p = spot_parts (names_of_lumps w) name (with_place spot (Some r)) found in
    let after : List (List ℕ) = drop (p.marker + 1) (names_of_lumps w) in
    let text : Bool = begins_with_textmap after in
    let run : List (List ℕ) = run_at after in
    let at = some_of (p.marker + 1) p.r r (ap (λ (x : MapSpot). x.reject) p.is) in
    let there : place word run ≡ Some at.k = p.reject ∙ at.is in
    let within : r < length w.lumps = (
    let a = place_bound (λ n. same_name n word) run 0 at.k there in
    let b = more_short text [] after in
    let d = after_length (names_of_lumps w) name (with_place spot (Some r)) p in
    let e = length-map w.lumps (λ (l : WadLump). l.name) in
    let f = at.at in
    omega (arith, a.1, b, d, e, f)) in
    let lump : WadLump = with_bytes (get_or w.lumps r (reject_lump table)) table in
    let stays : (k : ℕ) → k ≢ r → slice_get (set w.lumps r lump) k ≡ slice_get w.lumps k = (λ k not. get_other w.lumps r k lump not) in
    let clash : (lump : Lump) (k j : ℕ) → j ≡ p.marker + 1 + k → lump_place lump after ≡ Some k → j ≢ r =
    (λ lump k j is here same. let e : at.k ≡ k = (let f = at.at in omega (arith, is, same, f)) in apart (lump_name text lump) word run 0 k (none_of_reject text lump) here (there ∙ ap (λ (n : ℕ). Some n) e)) in
    record {
      found = ap (λ (ns : List (List ℕ)). spot_of ns name) (names_stay w spot r table) ∙ found;
      linedefs = stays spot.linedefs (clash Linedefs p.l spot.linedefs (ap (λ (x : MapSpot). x.linedefs) p.is) p.linedefs);
      sidedefs = stays spot.sidedefs (clash Sidedefs p.s spot.sidedefs (ap (λ (x : MapSpot). x.sidedefs) p.is) p.sidedefs);
      vertexes = stays spot.vertexes (clash Vertexes p.v spot.vertexes (ap (λ (x : MapSpot). x.vertexes) p.is) p.vertexes);
      sectors = stays spot.sectors (clash Sectors p.c spot.sectors (ap (λ (x : MapSpot). x.sectors) p.is) p.sectors);
      reject = (lump, get_set w.lumps r lump within, refl);
      others = λ k not. stays k (λ e. not (ap (λ (n : ℕ). Some n) (sym e)));
      count = length-set w.lumps r lump;
    }

-- a map that isn't called REJECT is found again, and all is kept
pub kept : (w : WadFile) (name : List ℕ) (spot : MapSpot) (table : List ℕ) → spot_of (names_of_lumps w) name ≡ Ok spot → same_name word name ≡ false → IsMapKept name spot table w (with_reject w spot table)
kept w name spot table found other = by spot.reject found
  where
    by : (o : Option ℕ) → spot_of (names_of_lumps w) name ≡ Ok (with_place spot o) → IsMapKept name (with_place spot o) table w (rewritten w spot o table)
    by None h = kept_none w name spot table h other
    by (Some r) h = kept_some w name spot r table h
