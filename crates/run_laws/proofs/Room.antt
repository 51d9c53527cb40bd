-- Whether a WAD with a REJECT is within the limits is a matter of the REJECT's length alone.
use Rattle.std.proofs.Common.{◌≡◌, ◌⊎◌, inl, inr, ℕ, zero, suc, ◌+◌, ◌*◌, ◌^◌, List, [], ◌∷◌, length, Bool, true, false, if◌then◌else◌, nat_le, nat_lt, get_or, set, Option, Some, None, Result, Ok, Err, refl, sym, ap, ◌∙◌}
use Rattle.std.specs.Prelude.{insert, slice_index_or, slice_set}
use Rattle.std.specs.Int.{div_ceil}
use Rattle.std.proofs.lemmas.List.{length-replicate, length-set}
use Rattle.std.proofs.lemmas.List.Sums.{sum_by-cons, sum_by-insert}
use Rattle.sight_names.specs.declared.limits.TheConstants.{MOST_LUMPS}
use Rattle.sight_names.specs.declared.faults.RewriteFault.{RewriteFault}
use Rattle.sight_names.specs.declared.faults.RewriteFault.TheVariants as fault
use Rattle.sight_names.specs.declared.names.Method.{Method}
use Rattle.wad_dir.specs.declared.parts.MapSpot.{MapSpot}
use Rattle.wad_dir.specs.Print.{body_len, lumps_with_reject, print, printed_len, reject_lump, with_bytes, with_reject}
use Rattle.wad_dir.specs.Wad.{WadFile, WadLump}
use Rattle.wad_dir.specs.WadRewrite.Rewrite.{printed}
use Rattle.map_answers.specs.declared.sight_status.status.Bound.{Bound}
use Rattle.map_answers.specs.declared.sight_status.status.Status.{Status}
use Rattle.map_answers.specs.declared.sight_status.status.Status.TheVariants as status
use Rattle.map_answers.specs.Input.{LocatedMap}
use Rattle.sight_run.specs.Build.{ShowsLimit}
use Rattle.run_laws.specs.Laws.{BuildWithRoomIsDone, EndsBuild, HasRoom}
use Rattle.sight_run.specs.Zero.{of_rewrite}
use Rattle.whole_wad.specs.Rejects.{clear_table, table_len}
use Rattle.run_laws.proofs.Done.{build_is_done}
use Rattle.sight_run.proofs.Round.{was_printed}

-- ---- lengths

size : WadLump → ℕ
size l = length l.bytes

body_set : (xs : List WadLump) (k : ℕ) (u v : WadLump) → length u.bytes ≡ length v.bytes → body_len (set xs k u) ≡ body_len (set xs k v)
unfolding size
body_set [] k u v e = refl
body_set (x ∷ xs) zero u v e = sum_by-cons size u xs ∙ ap (λ (n : ℕ). n + body_len xs) e ∙ sym (sum_by-cons size v xs)
body_set (x ∷ xs) (suc k) u v e = sum_by-cons size x (set xs k u) ∙ ap (λ (n : ℕ). size x + n) (body_set xs k u v e) ∙ sym (sum_by-cons size x (set xs k v))

body_insert : (xs : List WadLump) (k : ℕ) (u v : WadLump) → length u.bytes ≡ length v.bytes → body_len (insert xs k u) ≡ body_len (insert xs k v)
unfolding size
body_insert xs k u v e = sum_by-insert size xs k u ∙ ap (λ (n : ℕ). body_len xs + n) e ∙ sym (sum_by-insert size xs k v)

many_insert : (xs : List WadLump) (k : ℕ) (u v : WadLump) → length (insert xs k u) ≡ length (insert xs k v)
many_insert xs zero u v = refl
many_insert [] (suc k) u v = refl
many_insert (x ∷ xs) (suc k) u v = ap (λ (n : ℕ). suc n) (many_insert xs k u v)

body_same : (lumps : List WadLump) (spot : MapSpot) (t u : List ℕ) → length t ≡ length u → body_len (lumps_with_reject lumps spot t) ≡ body_len (lumps_with_reject lumps spot u)
body_same lumps spot t u e = by spot.reject
  where
    by : (o : Option ℕ) → body_len (elim o [ Some k ↦ slice_set lumps k (with_bytes (slice_index_or lumps k (reject_lump t)) t) | None ↦ insert lumps (spot.sectors + 1) (reject_lump t) ])
        ≡ body_len (elim o [ Some k ↦ slice_set lumps k (with_bytes (slice_index_or lumps k (reject_lump u)) u) | None ↦ insert lumps (spot.sectors + 1) (reject_lump u) ])
    by (Some k) = body_set lumps k (with_bytes (get_or lumps k (reject_lump t)) t) (with_bytes (get_or lumps k (reject_lump u)) u) e
    by None = body_insert lumps (spot.sectors + 1) (reject_lump t) (reject_lump u) e

many_same : (lumps : List WadLump) (spot : MapSpot) (t u : List ℕ) → length (lumps_with_reject lumps spot t) ≡ length (lumps_with_reject lumps spot u)
many_same lumps spot t u = by spot.reject
  where
    by : (o : Option ℕ) → length {A = WadLump} (elim o [ Some k ↦ slice_set lumps k (with_bytes (slice_index_or lumps k (reject_lump t)) t) | None ↦ insert lumps (spot.sectors + 1) (reject_lump t) ])
        ≡ length {A = WadLump} (elim o [ Some k ↦ slice_set lumps k (with_bytes (slice_index_or lumps k (reject_lump u)) u) | None ↦ insert lumps (spot.sectors + 1) (reject_lump u) ])
    by (Some k) = length-set lumps k (with_bytes (get_or lumps k (reject_lump t)) t) ∙ sym (length-set lumps k (with_bytes (get_or lumps k (reject_lump u)) u))
    by None = many_insert lumps (spot.sectors + 1) (reject_lump t) (reject_lump u)

-- ---- limits

tested : Bool → Bool → List ℕ → Result (List ℕ) RewriteFault
tested a b bytes = if a then Err fault.TooManyLumps else (if b then Err fault.TooLong else Ok bytes)

not_both : (a b : Bool) (xs ys bytes : List ℕ) (f : RewriteFault) → tested a b xs ≡ Ok bytes → tested a b ys ≡ Err f → ⊥
unfolding tested
not_both true b xs ys bytes f p q = absurd cc
not_both false true xs ys bytes f p q = absurd cc
not_both false false xs ys bytes f p q = absurd cc

same_limit : (w v : WadFile) (bytes : List ℕ) (f : RewriteFault) → length w.lumps ≡ length v.lumps → body_len w.lumps ≡ body_len v.lumps → printed w ≡ Ok bytes → printed v ≡ Err f → ⊥
unfolding printed tested
same_limit w v bytes f many body p q =
    not_both (nat_lt MOST_LUMPS (length w.lumps)) (nat_le (2 ^ 31) (printed_len w.lumps)) (print w) (print v) bytes f p
    ((λ i. tested (nat_lt MOST_LUMPS (many i)) (nat_le (2 ^ 31) (12 + body i + 16 * many i)) (print v)) ∙ q)

-- why a WAD isn't written
record WasLimited (r : Result (List ℕ) RewriteFault) : Type 0 where
  fault : RewriteFault
  is : r ≡ Err fault

was_limited : (r : Result (List ℕ) RewriteFault) (s : Status) → of_rewrite r ≡ Err s → WasLimited r
was_limited (Ok bytes) s h = absurd cc
was_limited (Err f) s h = record { fault = f; is = refl }

no_limit : (method : Method) (found : LocatedMap) (bound : Bound) → HasRoom found → ShowsLimit method found bound → ⊥
no_limit method found bound room h =
    let table : List ℕ = h.built.table.bytes in
    let clear : List ℕ = clear_table found.map.sectors in
    let len : length clear ≡ length table = length-replicate (table_len found.map.sectors) 0 ∙ sym (h.is_built.table_is_whole.len ∙ ap (λ (n : ℕ). div_ceil (n * n) 8) h.is_built.sectors) in
    let limited = was_limited (printed (with_reject found.wad found.spot table)) (status.Limit bound) h.limit in
    same_limit (with_reject found.wad found.spot clear) (with_reject found.wad found.spot table) room.bytes limited.fault
    (many_same found.wad.lumps found.spot clear table) (body_same found.wad.lumps found.spot clear table len)
    (was_printed (printed (with_reject found.wad found.spot clear)) room.bytes room.clear) limited.is

ends_well : (method : Method) (found : LocatedMap) (s : Status) → HasRoom found → EndsBuild method found s → (s ≡ status.Done) ⊎ (s ≡ status.Memory tt)
ends_well method found status.Done room h = inl refl
ends_well method found (status.Memory _) room h = inr refl
ends_well method found (status.Limit bound) room h = absurd (no_limit method found bound room h)
ends_well method found s room h = absurd h

pub build_with_room_is_done : BuildWithRoomIsDone
build_with_room_is_done words wad name out asked report workers method went found is_asked is_found sound room well =
    ends_well method found went.status room (build_is_done words wad name out asked report workers method went found is_asked is_found sound well)
