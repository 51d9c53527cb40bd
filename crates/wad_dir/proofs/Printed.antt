-- What is printed is read as the same WAD.
use Rattle.std.proofs.Common.{◌≡◌, ℕ, zero, suc, ◌+◌, ◌*◌, ◌^◌, ◌==◌, ◌<◌, ◌≤◌, List, [], ◌∷◌, ◌++◌, length, take, drop, map, Bool, true, false, not, ◌&&◌, ◌||◌, nat_lt, nat_le, if◌then◌else◌, Option, Some, None, Ok, refl, sym, ap, ◌∙◌, append_assoc, arith}
use Rattle.std.specs.Prelude.{bytes_eq}
use Rattle.std.specs.Int.{w32, from_le_bytes, to_le_bytes}
use Rattle.std.specs.List.{AllByRecursion, position_from}
use Rattle.std.proofs.lemmas.Bool.{le-ltb, lt-leb}
use Rattle.std.proofs.lemmas.List.{take_at, drop_at, length-append, append-nil}
use Rattle.std.proofs.lemmas.List.Concat.{flat_map-cons, length-flat_map}
use Rattle.std.proofs.lemmas.List.Sums.{sum_by-cons}
use Rattle.std.proofs.lemmas.Nat.{from_le_bytes-to_le_bytes_4}
use Rattle.sight_names.specs.declared.faults.WadFault.{WadFault}
use Rattle.wad_dir.specs.declared.parts.Kind.{Kind}
use Rattle.wad_dir.specs.declared.parts.Kind.TheVariants.{Iwad, Pwad}
use Rattle.wad_dir.specs.Wad.{WadFile, WadLump, Slot, wad_magic, word_at, wad_kind_of, kind_said, lump_count_of, directory_place, slot_at, slots_at, slots_of, is_outside, wad_fault, wad_of, lump_of, unless}
use Rattle.wad_dir.specs.Print.{body, body_len, directory_from, header, print, IsPrintable, PrintsItsLength, ReadsWhatIsPrinted}

-- ---- four bytes of a number

word : ℕ → List ℕ
word n = to_le_bytes w32 n

length-word : (n : ℕ) → length (word n) ≡ 4
unfolding word
length-word n = refl

reads_word : (n : ℕ) (rest : List ℕ) → n < 2 ^ 32 → from_le_bytes w32 (take 4 (word n ++ rest)) ≡ n
unfolding word
reads_word n rest lt = ap (λ (bs : List ℕ). from_le_bytes w32 bs) (take_at (to_le_bytes w32 n) rest 4 refl) ∙ from_le_bytes-to_le_bytes_4 n lt

-- what stands behind two parts
behind : (pre mid rest : List ℕ) (k : ℕ) → length pre + length mid ≡ k → drop k (pre ++ (mid ++ rest)) ≡ rest
behind pre mid rest k e = ap (λ (bs : List ℕ). drop k bs) (sym (append_assoc pre mid rest)) ∙ drop_at (pre ++ mid) rest k (length-append pre mid ∙ e)

-- ---- one entry

abbrev Names : List WadLump → Type 0
Names ls = AllByRecursion (λ (l : WadLump). length l.name ≡ 8) ls

abbrev slot_for : ℕ → WadLump → Slot
slot_for at l = record { offset = at; size = length l.bytes; name = l.name }

entry : ℕ → WadLump → List ℕ
entry at l = (word at ++ word (length l.bytes)) ++ l.name

length-entry : (at : ℕ) (l : WadLump) → length l.name ≡ 8 → length (entry at l) ≡ 16
unfolding entry
length-entry at l e = omega (arith, length-append (word at ++ word (length l.bytes)) l.name, length-append (word at) (word (length l.bytes)), length-word at, length-word (length l.bytes))

slot_with : ℕ → ℕ → List ℕ → Slot
slot_with offset size name = record { offset = offset; size = size; name = name }

same_slot : (o s : ℕ) (n : List ℕ) (o' s' : ℕ) (n' : List ℕ) → o ≡ o' → s ≡ s' → n ≡ n' → slot_with o s n ≡ slot_with o' s' n'
same_slot o s n o' s' n' p q r = ap (λ (x : ℕ). slot_with x s n) p ∙ ap (λ (x : ℕ). slot_with o' x n) q ∙ ap (λ (x : List ℕ). slot_with o' s' x) r

-- the entry is read where it was printed
slot_here : (pre rest : List ℕ) (place at : ℕ) (l : WadLump) → length pre ≡ place → length l.name ≡ 8 → at < 2 ^ 32 → length l.bytes < 2 ^ 32 → slot_at (pre ++ (entry at l ++ rest)) place ≡ slot_for at l
unfolding entry slot_with
slot_here pre rest place at l p name lt fits =
    let size : List ℕ = word (length l.bytes) in
    let whole : List ℕ = pre ++ (entry at l ++ rest) in
    let apart : whole ≡ pre ++ (word at ++ (size ++ (l.name ++ rest))) = ap (λ (bs : List ℕ). pre ++ bs) (append_assoc (word at ++ size) l.name rest ∙ append_assoc (word at) size (l.name ++ rest)) in
    let offset_is : word_at whole place ≡ at =
    ap (λ (bs : List ℕ). from_le_bytes w32 (take 4 (drop place bs))) apart ∙ ap (λ (bs : List ℕ). from_le_bytes w32 (take 4 bs)) (drop_at pre (word at ++ (size ++ (l.name ++ rest))) place p) ∙ reads_word at (size ++ (l.name ++ rest)) lt in
    let size_is : word_at whole (place + 4) ≡ length l.bytes =
    ap (λ (bs : List ℕ). from_le_bytes w32 (take 4 (drop (place + 4) bs))) apart ∙ ap (λ (bs : List ℕ). from_le_bytes w32 (take 4 bs)) (behind pre (word at) (size ++ (l.name ++ rest)) (place + 4) (omega (arith, length-word at))) ∙ reads_word (length l.bytes) (l.name ++ rest) fits in
    let name_is : take 8 (drop (place + 8) whole) ≡ l.name =
    ap (λ (bs : List ℕ). take 8 (drop (place + 8) (pre ++ bs))) (append_assoc (word at ++ size) l.name rest) ∙ ap (λ (bs : List ℕ). take 8 bs) (behind pre (word at ++ size) (l.name ++ rest) (place + 8) (omega (arith, length-append (word at) size, length-word at, length-word (length l.bytes)))) ∙ take_at l.name rest 8 name in
    same_slot (word_at whole place) (word_at whole (place + 4)) (take 8 (drop (place + 8) whole)) at (length l.bytes) l.name offset_is size_is name_is

-- ---- the directory

slots_for : ℕ → List WadLump → List Slot
slots_for at [] = []
slots_for at (l ∷ ls) = slot_for at l ∷ slots_for (at + length l.bytes) ls

-- the entries, the first one first
slots_front : (bytes : List ℕ) (at n : ℕ) → slots_at bytes at (suc n) ≡ slot_at bytes at ∷ slots_at bytes (at + 16) n
slots_front bytes at zero =
    let same : at + 16 * 0 ≡ at = omega arith in
    ap (λ (k : ℕ). slot_at bytes k ∷ []) same
slots_front bytes at (suc n) =
    let same : at + 16 * suc n ≡ at + 16 + 16 * n = omega arith in
    ap (λ (ss : List Slot). ss ++ slot_at bytes (at + 16 * suc n) ∷ []) (slots_front bytes at n) ∙ ap (λ (k : ℕ). (slot_at bytes at ∷ slots_at bytes (at + 16) n) ++ slot_at bytes k ∷ []) same

directory-cons : (at : ℕ) (l : WadLump) (ls : List WadLump) (rest : List ℕ) → directory_from at (l ∷ ls) ++ rest ≡ entry at l ++ (directory_from (at + length l.bytes) ls ++ rest)
unfolding entry word
directory-cons at l ls rest =
    ap (λ (bs : List ℕ). (bs ++ directory_from (at + length l.bytes) ls) ++ rest) (sym (append_assoc (to_le_bytes w32 at) (to_le_bytes w32 (length l.bytes)) l.name)) ∙ append_assoc ((to_le_bytes w32 at ++ to_le_bytes w32 (length l.bytes)) ++ l.name) (directory_from (at + length l.bytes) ls) rest

body_len-cons : (l : WadLump) (ls : List WadLump) → body_len (l ∷ ls) ≡ length l.bytes + body_len ls
body_len-cons l ls = sum_by-cons (λ (x : WadLump). length x.bytes) l ls

slots_read : (ls : List WadLump) (pre rest : List ℕ) (place at : ℕ) → length pre ≡ place → Names ls → at + body_len ls < 2 ^ 32 → slots_at (pre ++ (directory_from at ls ++ rest)) place (length ls) ≡ slots_for at ls
unfolding slots_for
slots_read [] pre rest place at p names fits = refl
slots_read (l ∷ ls) pre rest place at p names fits =
    let tail : List ℕ = directory_from (at + length l.bytes) ls ++ rest in
    let apart : pre ++ (directory_from at (l ∷ ls) ++ rest) ≡ pre ++ (entry at l ++ tail) = ap (λ (bs : List ℕ). pre ++ bs) (directory-cons at l ls rest) in
    let longer : length (pre ++ entry at l) ≡ place + 16 = omega (arith, length-append pre (entry at l), length-entry at l names.0) in
    let some : at + body_len (l ∷ ls) ≡ at + length l.bytes + body_len ls = omega (arith, body_len-cons l ls) in
    let here : slot_at (pre ++ (entry at l ++ tail)) place ≡ slot_for at l = slot_here pre tail place at l p names.0 (omega arith) (omega arith) in
    let there : slots_at (pre ++ (entry at l ++ tail)) (place + 16) (length ls) ≡ slots_for (at + length l.bytes) ls =
    ap (λ (bs : List ℕ). slots_at bs (place + 16) (length ls)) (sym (append_assoc pre (entry at l) tail)) ∙ slots_read ls (pre ++ entry at l) rest (place + 16) (at + length l.bytes) longer names.1 (omega arith) in
    ap (λ (bs : List ℕ). slots_at bs place (length (l ∷ ls))) apart
    ∙ slots_front (pre ++ (entry at l ++ tail)) place (length ls)
    ∙ ap (λ (x : Slot). x ∷ slots_at (pre ++ (entry at l ++ tail)) (place + 16) (length ls)) here
    ∙ ap (λ (xs : List Slot). slot_for at l ∷ xs) there

-- ---- the lumps

lump_here : (pre rest : List ℕ) (at : ℕ) (l : WadLump) → length pre ≡ at → lump_of (pre ++ (l.bytes ++ rest)) (slot_for at l) ≡ l
lump_here pre rest at l p =
    let same : take (length l.bytes) (drop at (pre ++ (l.bytes ++ rest))) ≡ l.bytes = ap (λ (bs : List ℕ). take (length l.bytes) bs) (drop_at pre (l.bytes ++ rest) at p) ∙ take_at l.bytes rest (length l.bytes) refl in
    ap (λ (bs : List ℕ). named bs) same
  where
    named : List ℕ → WadLump
    named bs = record { name = l.name; bytes = bs }

lumps_read : (ls : List WadLump) (pre post : List ℕ) (at : ℕ) → length pre ≡ at → map (lump_of (pre ++ (body ls ++ post))) (slots_for at ls) ≡ ls
unfolding slots_for
lumps_read [] pre post at p = refl
lumps_read (l ∷ ls) pre post at p =
    let apart : pre ++ (body (l ∷ ls) ++ post) ≡ pre ++ (l.bytes ++ (body ls ++ post)) =
    ap (λ (bs : List ℕ). pre ++ bs) (ap (λ (bs : List ℕ). bs ++ post) (flat_map-cons (λ (x : WadLump). x.bytes) l ls) ∙ append_assoc l.bytes (body ls) post) in
    let longer : length (pre ++ l.bytes) ≡ at + length l.bytes = omega (arith, length-append pre l.bytes) in
    ap (λ (bs : List ℕ). map (lump_of bs) (slots_for at (l ∷ ls))) apart
    ∙ ap (λ (x : WadLump). x ∷ map (lump_of (pre ++ (l.bytes ++ (body ls ++ post)))) (slots_for (at + length l.bytes) ls)) (lump_here pre (body ls ++ post) at l p)
    ∙ ap (λ (xs : List WadLump). l ∷ xs) (ap (λ (bs : List ℕ). map (lump_of bs) (slots_for (at + length l.bytes) ls)) (sym (append_assoc pre l.bytes (body ls ++ post))) ∙ lumps_read ls (pre ++ l.bytes) post (at + length l.bytes) longer)

-- ---- no check fails

is_inside : (len at size : ℕ) (name : List ℕ) → at + size < 2 ^ 31 → at + size ≤ len → is_outside len (slot_with at size name) ≡ false
unfolding slot_with
is_inside len at size name short fits =
    let a : nat_le (2 ^ 31) size ≡ false = lt-leb (2 ^ 31) size (omega arith) in
    let b : nat_le (2 ^ 31) at ≡ false = lt-leb (2 ^ 31) at (omega arith) in
    let c : nat_lt len (at + size) ≡ false = le-ltb len (at + size) fits in
    rw (a, b, c) (never (size == 0))
  where
    never : (b : Bool) → false || (not b && (false || false)) ≡ false
    never true = refl
    never false = refl

none_outside : (ls : List WadLump) (len at k : ℕ) → at + body_len ls < 2 ^ 31 → at + body_len ls ≤ len → position_from (is_outside len) k (slots_for at ls) ≡ None
unfolding slots_for slot_with
none_outside [] len at k short fits = refl
none_outside (l ∷ ls) len at k short fits =
    let some : at + body_len (l ∷ ls) ≡ at + length l.bytes + body_len ls = omega (arith, body_len-cons l ls) in
    rw (is_inside len at (length l.bytes) l.name (omega arith) (omega arith)) (none_outside ls len (at + length l.bytes) (k + 1) (omega arith) (omega arith))

none_fails : (a b c d e : Bool) (p q r s t : WadFault) (o : Option WadFault) → a ≡ false → b ≡ false → c ≡ false → d ≡ false → e ≡ false → o ≡ None
    → (if a then Some p else (if b then Some q else (if c then Some r else (if d then Some s else (if e then Some t else o))))) ≡ None
none_fails a b c d e p q r s t o ea eb ec ed ee eo = rw (ea, eb, ec, ed, ee) eo

-- ---- the whole

length-body : (ls : List WadLump) → length (body ls) ≡ body_len ls
length-body ls = length-flat_map (λ (l : WadLump). l.bytes) ls

directory-front : (at : ℕ) (l : WadLump) (ls : List WadLump) → directory_from at (l ∷ ls) ≡ entry at l ++ directory_from (at + length l.bytes) ls
unfolding entry word
directory-front at l ls = ap (λ (bs : List ℕ). bs ++ directory_from (at + length l.bytes) ls) (sym (append_assoc (to_le_bytes w32 at) (to_le_bytes w32 (length l.bytes)) l.name))

length-directory : (ls : List WadLump) (at : ℕ) → Names ls → length (directory_from at ls) ≡ 16 * length ls
length-directory [] at names = refl
length-directory (l ∷ ls) at names =
    omega (arith, ap (λ (bs : List ℕ). length bs) (directory-front at l ls), length-append (entry at l) (directory_from (at + length l.bytes) ls), length-entry at l names.0, length-directory ls (at + length l.bytes) names.1)

length-magic : (k : Kind) → length (wad_magic k) ≡ 4
length-magic Iwad = refl
length-magic Pwad = refl

header_parts : (w : WadFile) → header w ≡ (wad_magic w.kind ++ word (length w.lumps)) ++ word (12 + body_len w.lumps)
unfolding word
header_parts w = refl

length-header : (w : WadFile) → length (header w) ≡ 12
length-header w = search (header_parts, length-append, length-magic, length-word, word)

pub prints_its_length : PrintsItsLength
unfolding print
prints_its_length w names =
    omega (arith, length-append (header w ++ body w.lumps) (directory_from 12 w.lumps), length-append (header w) (body w.lumps), length-header w, length-body w.lumps, length-directory w.lumps 12 names)

kind_is : (bytes : List ℕ) (k : Kind) → take 4 bytes ≡ wad_magic k → wad_kind_of bytes ≡ Some k
kind_is bytes k e = grind arith

says_kind : (bytes : List ℕ) (k : Kind) → take 4 bytes ≡ wad_magic k → kind_said bytes ≡ k
says_kind bytes k e = rw e (same k)
  where
    same : (x : Kind) → (if bytes_eq (wad_magic x) (wad_magic Iwad) then Iwad else Pwad) ≡ x
    same Iwad = refl
    same Pwad = refl

directory_inside : (len place count : ℕ) → place < 2 ^ 31 → place + 16 * count ≤ len → (not (count == 0) && (nat_le (2 ^ 31) place || nat_lt len (place + 16 * count))) ≡ false
directory_inside len place count short fits = grind (arith, le-ltb, lt-leb)

-- what is said of a print, in its parts
record Said (w : WadFile) (bytes : List ℕ) : Type 0 where
  length_is : length bytes ≡ 12 + body_len w.lumps + 16 * length w.lumps
  first : take 4 bytes ≡ wad_magic w.kind
  count : lump_count_of bytes ≡ length w.lumps
  place : directory_place bytes ≡ 12 + body_len w.lumps
  slots : slots_of bytes ≡ slots_for 12 w.lumps
  lumps : map (lump_of bytes) (slots_for 12 w.lumps) ≡ w.lumps

said : (w : WadFile) → IsPrintable w → Said w (print w)
unfolding print
said w ok =
    let whole : List ℕ = header w ++ body w.lumps ++ directory_from 12 w.lumps in
    let counted : List ℕ = word (length w.lumps) in
    let placed : List ℕ = word (12 + body_len w.lumps) in
    let rest : List ℕ = body w.lumps ++ directory_from 12 w.lumps in
    let bodied : whole ≡ header w ++ rest = append_assoc (header w) (body w.lumps) (directory_from 12 w.lumps) in
    let apart : whole ≡ wad_magic w.kind ++ (counted ++ (placed ++ rest)) =
    bodied ∙ ap (λ (bs : List ℕ). bs ++ rest) (header_parts w) ∙ append_assoc (wad_magic w.kind ++ counted) placed rest ∙ append_assoc (wad_magic w.kind) counted (placed ++ rest) in
    let count_is : lump_count_of whole ≡ length w.lumps =
    ap (λ (bs : List ℕ). from_le_bytes w32 (take 4 (drop 4 bs))) apart ∙ ap (λ (bs : List ℕ). from_le_bytes w32 (take 4 bs)) (drop_at (wad_magic w.kind) (counted ++ (placed ++ rest)) 4 (length-magic w.kind)) ∙ reads_word (length w.lumps) (placed ++ rest) (omega (arith, ok.few)) in
    let place_is : directory_place whole ≡ 12 + body_len w.lumps =
    ap (λ (bs : List ℕ). from_le_bytes w32 (take 4 (drop 8 bs))) apart ∙ ap (λ (bs : List ℕ). from_le_bytes w32 (take 4 bs)) (behind (wad_magic w.kind) counted (placed ++ rest) 8 (omega (arith, length-magic w.kind, length-word (length w.lumps)))) ∙ reads_word (12 + body_len w.lumps) rest (omega (arith, ok.short)) in
    let front : length (header w ++ body w.lumps) ≡ 12 + body_len w.lumps = omega (arith, length-append (header w) (body w.lumps), length-header w, length-body w.lumps) in
    let slots_are : slots_at whole (12 + body_len w.lumps) (length w.lumps) ≡ slots_for 12 w.lumps =
    ap (λ (bs : List ℕ). slots_at ((header w ++ body w.lumps) ++ bs) (12 + body_len w.lumps) (length w.lumps)) (sym (append-nil (directory_from 12 w.lumps))) ∙ slots_read w.lumps (header w ++ body w.lumps) [] (12 + body_len w.lumps) 12 front ok.names (omega (arith, ok.short)) in
    record {
      length_is = omega (arith, length-append (header w ++ body w.lumps) (directory_from 12 w.lumps), front, length-directory w.lumps 12 ok.names);
      first = ap (λ (bs : List ℕ). take 4 bs) apart ∙ take_at (wad_magic w.kind) (counted ++ (placed ++ rest)) 4 (length-magic w.kind);
      count = count_is;
      place = place_is;
      slots = ap (λ (k : ℕ). slots_at whole k (lump_count_of whole)) place_is ∙ ap (λ (k : ℕ). slots_at whole (12 + body_len w.lumps) k) count_is ∙ slots_are;
      lumps = ap (λ (bs : List ℕ). map (lump_of bs) (slots_for 12 w.lumps)) bodied ∙ lumps_read w.lumps (header w) (directory_from 12 w.lumps) 12 (length-header w);
    }

no_fault : (w : WadFile) (bytes : List ℕ) → IsPrintable w → Said w bytes → wad_fault bytes ≡ None
unfolding wad_fault
no_fault w bytes ok s = grind (arith, directory_inside, kind_is, le-ltb, lt-leb, none_fails, none_outside)

reads_said : (w : WadFile) (bytes : List ℕ) → IsPrintable w → Said w bytes → wad_of bytes ≡ Ok w
unfolding wad_of
reads_said w bytes ok s =
    ap (λ (o : Option WadFault). unless o (record { kind = kind_said bytes; lumps = map (lump_of bytes) (slots_of bytes) })) (no_fault w bytes ok s)
    ∙ ap (λ (k : Kind). Ok (file k (map (lump_of bytes) (slots_of bytes)))) (says_kind bytes w.kind s.first)
    ∙ ap (λ (ls : List WadLump). Ok (file w.kind ls)) (ap (λ (ss : List Slot). map (lump_of bytes) ss) s.slots ∙ s.lumps)
  where
    file : Kind → List WadLump → WadFile
    file k ls = record { kind = k; lumps = ls }

pub reads_what_is_printed : ReadsWhatIsPrinted
reads_what_is_printed w ok = reads_said w (print w) ok (said w ok)
