-- One change made in lumps of which the first were changed before.
use Rattle.std.proofs.Common.{◌≡◌, ℕ, ◌+◌, ◌-◌, ◌<◌, ◌≤◌, List, [], ◌∷◌, ◌++◌, length, get_or, set, drop, map, Option, Some, None, Result, Ok, Err, sym, ap, ◌∙◌, append_assoc, arith}
use Rattle.std.specs.Prelude.{slice_index_or, slice_range, slice_set}
use Rattle.std.specs.List.{insert}
use Rattle.std.proofs.Math.Seq.{map-set_same}
use Rattle.std.proofs.lemmas.List.{drop-drop, drop_at, drop_more, get_or_at, length-append, length_push, set_at, take-append-drop, take_at}
use Rattle.std.proofs.lemmas.List.Edits.{length-between}
use Rattle.sight_names.specs.declared.faults.MapFault.{MapFault}
use Rattle.wad_dir.specs.declared.parts.MapSpot.{MapSpot}
use Rattle.wad_dir.specs.Kept.{reject_then}
use Rattle.wad_dir.specs.Map.{shifted, spot_of}
use Rattle.wad_dir.specs.Print.{lumps_with_reject, reject_lump, with_bytes}
use Rattle.wad_dir.specs.Wad.{WadLump}
use Rattle.wad_dir.proofs.Inserted.{padded}
use Rattle.wad_dir.proofs.Moved.{further}
use Rattle.wad_dir.proofs.Rewritten.{map_insert}
use Rattle.wad_dir.specs.declared.all_maps.parts.Change.{Change}
use Rattle.wad_dir.specs.AllMaps.Spliced.{piece, place_behind_reject, reject_with, spliced}

-- ---- lists

-- what stands from one place on, cut at another
tail_split : {X : Type 0} (xs : List X) (a b : ℕ) → a ≤ b → drop a xs ≡ slice_range xs a b ++ drop b xs
tail_split xs a b le =
    let there : a + (b - a) ≡ b = omega (arith, le) in
    sym (take-append-drop (b - a) (drop a xs)) ∙ ap (λ ys. slice_range xs a b ++ ys) (drop-drop (b - a) a xs ∙ ap (λ (i : ℕ). drop i xs) there)

joined : {X : Type 0} (ps ms : List X) (y : X) (bs : List X) → (ps ++ ms) ++ y ∷ bs ≡ (ps ++ (ms ++ y ∷ [])) ++ bs
joined {X} ps ms y bs = append_assoc ps ms (y ∷ bs) ∙ sym (append_assoc ps (ms ++ y ∷ []) bs ∙ ap (λ (zs : List X). ps ++ zs) (append_assoc ms (y ∷ []) bs))

-- an element is replaced behind what was changed before
set_behind : {X : Type 0} (ps xs : List X) (a r n : ℕ) (d : X) (f : X → X) → a ≤ r → r < length xs → length (ps ++ slice_range xs a r) ≡ n
    → set (ps ++ drop a xs) n (f (get_or (ps ++ drop a xs) n d)) ≡ (ps ++ (slice_range xs a r ++ f (get_or xs r d) ∷ [])) ++ drop (r + 1) xs
set_behind {X} ps xs a r n d f le lt len =
    let front : List X = ps ++ slice_range xs a r in
    let x : X = get_or xs r d in
    let bs : List X = drop (r + 1) xs in
    let whole : ps ++ drop a xs ≡ front ++ x ∷ bs = ap (λ (zs : List X). ps ++ zs) (tail_split xs a r le ∙ ap (λ (zs : List X). slice_range xs a r ++ zs) (drop_more xs r d lt)) ∙ sym (append_assoc ps (slice_range xs a r) (x ∷ bs)) in
    ap (λ (zs : List X). set zs n (f (get_or zs n d))) whole
    ∙ ap (λ (y : X). set (front ++ x ∷ bs) n (f y)) (get_or_at front x bs d n len)
    ∙ set_at front x bs (f x) n len
    ∙ joined ps (slice_range xs a r) (f x) bs

-- an element is put in behind what was changed before
insert_behind : {X : Type 0} (ps xs : List X) (a r n : ℕ) (y : X) → a ≤ r → length (ps ++ slice_range xs a r) ≡ n
    → insert (ps ++ drop a xs) n y ≡ (ps ++ (slice_range xs a r ++ y ∷ [])) ++ drop r xs
insert_behind {X} ps xs a r n y le len =
    let front : List X = ps ++ slice_range xs a r in
    let whole : ps ++ drop a xs ≡ front ++ drop r xs = ap (λ (zs : List X). ps ++ zs) (tail_split xs a r le) ∙ sym (append_assoc ps (slice_range xs a r) (drop r xs)) in
    ap (λ (zs : List X). insert zs n y) whole
    ∙ (λ i. take_at front (drop r xs) n len i ++ y ∷ drop_at front (drop r xs) n len i)
    ∙ joined ps (slice_range xs a r) y (drop r xs)

-- ---- a change

-- how many more lumps there are behind a map whose REJECT is there or is put in
abbrev pub shift_of : Option ℕ → ℕ → ℕ
shift_of o k = elim o [ Some r ↦ k | None ↦ 1 + k ]

abbrev then_of : ℕ → Option ℕ → ℕ
then_of c o = elim o [ Some r ↦ r | None ↦ c + 1 ]

abbrev behind_of : ℕ → Option ℕ → ℕ
behind_of c o = elim o [ Some r ↦ r + 1 | None ↦ c + 1 ]

pub then_behind : (spot : MapSpot) → reject_then spot ≤ place_behind_reject spot
then_behind spot = by spot.reject
  where
    by : (o : Option ℕ) → then_of spot.sectors o ≤ behind_of spot.sectors o
    by (Some r) = omega arith
    by None = omega arith

front_len : {X : Type 0} (ps xs : List X) (k a r : ℕ) → length ps ≡ k + a → a ≤ r → r ≤ length xs → length (ps ++ slice_range xs a r) ≡ k + r
front_len ps xs k a r len le within = let h = length-append ps (slice_range xs a r) in let b = length-between xs a r within in omega (arith, h, b, len, le)

-- the lumps with the change made: those before the REJECT, the REJECT, and the others
pub change_made : (ps lumps : List WadLump) (k a : ℕ) (spot : MapSpot) (table : List ℕ) → length ps ≡ k + a → a ≤ reject_then spot → place_behind_reject spot ≤ length lumps
    → lumps_with_reject (ps ++ drop a lumps) (further k spot) table ≡ (ps ++ piece lumps a spot table) ++ drop (place_behind_reject spot) lumps
change_made ps lumps k a spot table len = by spot.reject
  where
    by : (o : Option ℕ) → a ≤ then_of spot.sectors o → behind_of spot.sectors o ≤ length lumps
        → elim (shifted k o) [
          | Some q ↦ slice_set (ps ++ drop a lumps) q (with_bytes (slice_index_or (ps ++ drop a lumps) q (reject_lump table)) table)
          | None ↦ insert (ps ++ drop a lumps) (k + spot.sectors + 1) (reject_lump table)
        ]
        ≡ (ps ++ (slice_range lumps a (then_of spot.sectors o) ++ (elim o [ Some r ↦ with_bytes (slice_index_or lumps r (reject_lump table)) table | None ↦ reject_lump table ]) ∷ [])) ++ drop (behind_of spot.sectors o) lumps
    by (Some r) le within = set_behind ps lumps a r (k + r) (reject_lump table) (λ (l : WadLump). with_bytes l table) le (omega (arith, within)) (front_len ps lumps k a r len le (omega (arith, within)))
    by None le within = insert_behind ps lumps a (spot.sectors + 1) (k + spot.sectors + 1) (reject_lump table) le (let h = front_len ps lumps k a (spot.sectors + 1) len le within in omega (arith, h))

-- how many lumps stand before the others
pub change_len : (ps lumps : List WadLump) (k a : ℕ) (spot : MapSpot) (table : List ℕ) → length ps ≡ k + a → a ≤ reject_then spot → place_behind_reject spot ≤ length lumps
    → length (ps ++ piece lumps a spot table) ≡ shift_of spot.reject k + place_behind_reject spot
change_len ps lumps k a spot table len le within = by_len ∙ by spot.reject
  where
    by_len : length (ps ++ piece lumps a spot table) ≡ k + reject_then spot + 1
    by_len =
        let b = then_behind spot in
        let h = front_len ps lumps k a (reject_then spot) len le (omega (arith, b, within)) in
        let c = length_push (ps ++ slice_range lumps a (reject_then spot)) (reject_with lumps spot table) in
        ap (λ (zs : List WadLump). length zs) (sym (append_assoc ps (slice_range lumps a (reject_then spot)) (reject_with lumps spot table ∷ []))) ∙ c ∙ ap (λ (i : ℕ). i + 1) h

    by : (o : Option ℕ) → k + then_of spot.sectors o + 1 ≡ shift_of o k + behind_of spot.sectors o
    by (Some r) = omega arith
    by None = omega arith

-- the names then
abbrev pub names_then : List (List ℕ) → ℕ → Option ℕ → ℕ → List (List ℕ)
names_then names c o k = elim o [ Some r ↦ names | None ↦ insert names (k + c + 1) padded ]

pub change_names : (lumps : List WadLump) (k : ℕ) (spot : MapSpot) (table : List ℕ) → map (λ (l : WadLump). l.name) (lumps_with_reject lumps (further k spot) table) ≡ names_then (map (λ (l : WadLump). l.name) lumps) spot.sectors spot.reject k
change_names lumps k spot table = grind (arith, map-set_same, map_insert)

-- one pass, one change more
pub spliced_more : (names : List (List ℕ)) (lumps : List WadLump) (done : ℕ) (c : Change) (cs : List Change) (spot : MapSpot) → spot_of names c.name ≡ Ok spot → spliced names lumps done (c ∷ cs) ≡ piece lumps done spot c.table ++ spliced names lumps (place_behind_reject spot) cs
spliced_more names lumps done c cs spot e =
    ap (λ (r : Result MapSpot MapFault). elim r [ Ok s ↦ piece lumps done s c.table ++ spliced names lumps (place_behind_reject s) cs | Err f ↦ spliced names lumps done cs ]) e
