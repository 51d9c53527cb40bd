-- The directory that is read stands for the WAD of the bytes.
use Rattle.std.proofs.Common.{◌≡◌, ℕ, zero, suc, refl, ap, sym, ◌∙◌, List, [], ◌∷◌, map, if◌then◌else◌, Bool, Option, Some, None, Result, Ok, Err, IfOk}
use Rattle.std.proofs.Math.Dec.{eqb-suc-zero}
use Rattle.sight_names.specs.declared.faults.WadFault.{WadFault}
use Rattle.sight_names.specs.declared.faults.WadFault.TheVariants as fault
use Rattle.wad_dir.specs.Wad.{WadFile, WadLump, Slot, Directory, ReadsWad, wad_fault, wad_of, directory_of, directory_of_wad, file_of, lump_of, lump_under, entry_of, kind_said, unless, slots_of, names_of_lumps}
use Rattle.wad_dir.specs.Map.{entry_names}
use Rattle.wad_dir.specs.declared.parts.Kind.{Kind}
use Rattle.wad_dir.specs.declared.parts.Entry.{Entry}
use Rattle.wad_dir.specs.declared.parts.Wad.{Wad}

same_lump : (bytes : List ℕ) (name : List ℕ) (at size : ℕ)
    → lump_under bytes (entry_of (record { offset = at; size = size; name = name })) ≡ lump_of bytes (record { offset = at; size = size; name = name })
same_lump bytes name at zero = refl
same_lump bytes name at (suc size) = ap (λ (b : Bool). lump_under bytes (record { name = name; at = if b then 0 else at; size = suc size })) (eqb-suc-zero size)

same_lumps : (bytes : List ℕ) (slots : List Slot) → map (lump_under bytes) (map entry_of slots) ≡ map (lump_of bytes) slots
same_lumps bytes [] = refl
same_lumps bytes (s ∷ slots) = ap (λ (l : WadLump). l ∷ map (lump_under bytes) (map entry_of slots)) (same_lump bytes s.name s.offset s.size) ∙ ap (λ (ls : List WadLump). lump_of bytes s ∷ ls) (same_lumps bytes slots)

-- a kind and entries as the WAD that they stand for
file_under : List ℕ → Directory → WadFile
file_under bytes d = record { kind = d.kind; lumps = map (lump_under bytes) d.entries }

-- a fault is the same for both
same_fault : {A B : Type 0} (o : Option WadFault) (x : A) (y : B) (f : WadFault) → unless o x ≡ Err f → unless o y ≡ Err f
same_fault (Some g) x y f e = cc
same_fault None x y f e = absurd cc

same_wad : (bytes : List ℕ) (o : Option WadFault) (kind : Kind) (slots : List Slot) (d : Directory)
    → unless o (record { kind = kind; entries = map entry_of slots }) ≡ Ok d → unless o (record { kind = kind; lumps = map (lump_of bytes) slots }) ≡ Ok (file_under bytes d)
unfolding file_under
same_wad bytes (Some g) kind slots d e = absurd cc
same_wad bytes None kind slots d e =
    let same : record { kind = kind; entries = map entry_of slots } ≡ d = cc in
    ap (λ (ls : List WadLump). Ok (with_kind ls)) (sym (same_lumps bytes slots)) ∙ ap (λ (x : Directory). Ok (file_under bytes x)) same
  where
    with_kind : List WadLump → WadFile
    with_kind ls = record { kind = kind; lumps = ls }

both : (bytes : List ℕ) (o : Option WadFault) (kind : Kind) (slots : List Slot) (r : Result Wad WadFault)
    → ReadsWad directory_of_wad r (unless o (record { kind = kind; entries = map entry_of slots })) → ReadsWad (file_of bytes) r (unless o (record { kind = kind; lumps = map (lump_of bytes) slots }))
unfolding file_under
both bytes o kind slots (Ok wad) h = same_wad bytes o kind slots (directory_of_wad wad) h
both bytes o kind slots (Err fault.ShortHeader) h = same_fault o _ _ fault.ShortHeader h
both bytes o kind slots (Err fault.BadMagic) h = same_fault o _ _ fault.BadMagic h
both bytes o kind slots (Err fault.BadCount) h = same_fault o _ _ fault.BadCount h
both bytes o kind slots (Err fault.TooManyLumps) h = same_fault o _ _ fault.TooManyLumps h
both bytes o kind slots (Err fault.DirectoryOutside) h = same_fault o _ _ fault.DirectoryOutside h
both bytes o kind slots (Err (fault.LumpOutside k)) h = same_fault o _ _ (fault.LumpOutside k) h
both bytes o kind slots (Err (fault.Memory _)) h = tt

pub reads_wad : (bytes : List ℕ) (r : Result Wad WadFault) → ReadsWad directory_of_wad r (directory_of bytes) → ReadsWad (file_of bytes) r (wad_of bytes)
unfolding directory_of wad_of
reads_wad bytes r h = both bytes (wad_fault bytes) (kind_said bytes) (slots_of bytes) r h

same_names : (bytes : List ℕ) (entries : List Entry) → map (λ (l : WadLump). l.name) (map (lump_under bytes) entries) ≡ entry_names entries
same_names bytes [] = refl
same_names bytes (e ∷ entries) = ap (λ (ns : List (List ℕ)). e.name ∷ ns) (same_names bytes entries)

pub names_read : (bytes : List ℕ) (r : Result Wad WadFault) → IfOk r (λ wad. names_of_lumps (file_of bytes wad) ≡ entry_names wad.entries)
names_read bytes (Ok wad) = same_names bytes wad.entries
names_read bytes (Err f) = tt
