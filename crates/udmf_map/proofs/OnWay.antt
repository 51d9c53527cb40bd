-- What a text tells is what its parts so far have told, with those that come.
use Rattle.std.proofs.Common.{◌≡◌, ◌<◌, ◌≤◌, ℕ, zero, suc, ◌+◌, ◌-◌, List, [], ◌∷◌, length, Option, Some, None, Result, Ok, Err, refl, sym, ap, ◌∙◌, arith}
use Rattle.udmf_map.specs.declared.faults.TextFault.{TextFault}
use Rattle.udmf_map.specs.declared.faults.TextFault.TheVariants as faults
use Rattle.udmf_text.specs.Parts.{StageBytes, Outside, FoundBytes, part_at}
use Rattle.udmf_text.specs.Told.{PlacedPart, Told, told_first, told_in}
use Rattle.udmf_map.specs.Reading.{Read, nothing_read, part_read, ended, parts_read, text_read}

-- what parts tell behind what has been read
abbrev told_by : ℕ → Read → Told → Result Read TextFault
told_by total r t = parts_read total r t.parts t.fault

pub parts_go : (total : ℕ) (r more : Read) (p : PlacedPart) (ps : List PlacedPart) (fault : Option ℕ) → part_read r p.at p.part ≡ Ok more → parts_read total r (p ∷ ps) fault ≡ parts_read total more ps fault
parts_go total r more p ps fault e = rw (e, parts_read) refl

pub parts_stop : (total : ℕ) (r : Read) (f : TextFault) (p : PlacedPart) (ps : List PlacedPart) (fault : Option ℕ) → part_read r p.at p.part ≡ Err f → parts_read total r (p ∷ ps) fault ≡ Err f
parts_stop total r f p ps fault e = rw (e, parts_read) refl

-- the parts that are left, so many at most, tell what the whole text does
pub record OnWay (text : List ℕ) (stage : StageBytes) (rest : List ℕ) (r : Read) : Type 0 where
  pub n : ℕ
  pub room : length rest < n
  pub same : told_by (length text) r (told_in (length text) n stage rest) ≡ text_read text

pub begins : (text : List ℕ) → OnWay text Outside text nothing_read
begins text = record { n = length text + 1; room = omega arith; same = refl }

told_goes : (total k : ℕ) (stage : StageBytes) (rest : List ℕ) (f : FoundBytes) → part_at stage rest ≡ Ok (Some f) → told_in total (suc k) stage rest ≡ told_first total f (told_in total k f.stage f.rest)
told_goes total k stage rest f found = rw (found, told_in) refl

told_ends : (total k : ℕ) (stage : StageBytes) (rest : List ℕ) → part_at stage rest ≡ Ok None → told_in total (suc k) stage rest ≡ record { parts = []; fault = None }
told_ends total k stage rest found = rw (found, told_in) refl

told_breaks : (total k : ℕ) (stage : StageBytes) (rest : List ℕ) (left : ℕ) → part_at stage rest ≡ Err left → told_in total (suc k) stage rest ≡ record { parts = []; fault = Some (total - left) }
told_breaks total k stage rest left found = rw (found, told_in) refl

-- there is room for one part more
record Room (text : List ℕ) (stage : StageBytes) (rest : List ℕ) (r : Read) : Type 0 where
  k : ℕ
  room : length rest ≤ k
  same : told_by (length text) r (told_in (length text) (suc k) stage rest) ≡ text_read text

room_of : (text : List ℕ) (stage : StageBytes) (rest : List ℕ) (r : Read) → OnWay text stage rest r → Room text stage rest r
room_of text stage rest r w = by_count w.n w.room w.same
  where
    by_count : (n : ℕ) → length rest < n → told_by (length text) r (told_in (length text) n stage rest) ≡ text_read text → Room text stage rest r
    by_count zero room same = absurd (omega (arith, room))
    by_count (suc k) room same = record { k = k; room = omega (arith, room); same = same }

pub goes : (text : List ℕ) (stage : StageBytes) (rest : List ℕ) (r more : Read) (f : FoundBytes) → OnWay text stage rest r → part_at stage rest ≡ Ok (Some f) → length f.rest < length rest → part_read r (length text - f.left) f.part ≡ Ok more → OnWay text f.stage f.rest more
goes text stage rest r more f w found shorter read =
    let o = room_of text stage rest r w in
    let total = length text in
    let t = told_in total o.k f.stage f.rest in
    let one : told_by total r (told_first total f t) ≡ text_read text = ap (told_by total r) (sym (told_goes total o.k stage rest f found)) ∙ o.same in
    let two : told_by total r (told_first total f t) ≡ told_by total more t = parts_go total r more (record { at = total - f.left; part = f.part }) t.parts t.fault read in
    record { n = o.k; room = omega (arith, shorter, o.room); same = sym two ∙ one }

pub refused : (text : List ℕ) (stage : StageBytes) (rest : List ℕ) (r : Read) (e : TextFault) (f : FoundBytes) → OnWay text stage rest r → part_at stage rest ≡ Ok (Some f) → part_read r (length text - f.left) f.part ≡ Err e → text_read text ≡ Err e
refused text stage rest r e f w found read =
    let o = room_of text stage rest r w in
    let total = length text in
    let t = told_in total o.k f.stage f.rest in
    let one : told_by total r (told_first total f t) ≡ text_read text = ap (told_by total r) (sym (told_goes total o.k stage rest f found)) ∙ o.same in
    let two : told_by total r (told_first total f t) ≡ Err e = parts_stop total r e (record { at = total - f.left; part = f.part }) t.parts t.fault read in
    sym one ∙ two

pub ends : (text : List ℕ) (stage : StageBytes) (rest : List ℕ) (r : Read) → OnWay text stage rest r → part_at stage rest ≡ Ok None → text_read text ≡ ended (length text) r None
ends text stage rest r w found =
    let o = room_of text stage rest r w in
    sym (ap (told_by (length text) r) (sym (told_ends (length text) o.k stage rest found)) ∙ o.same)

pub breaks : (text : List ℕ) (stage : StageBytes) (rest : List ℕ) (r : Read) (left : ℕ) → OnWay text stage rest r → part_at stage rest ≡ Err left → text_read text ≡ Err (faults.Text (length text - left))
breaks text stage rest r left w found =
    let o = room_of text stage rest r w in
    sym (ap (told_by (length text) r) (sym (told_breaks (length text) o.k stage rest left found)) ∙ o.same)
