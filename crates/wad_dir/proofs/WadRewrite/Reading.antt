-- What was written with another REJECT is read again.
use Rattle.std.proofs.Common.{◌≡◌, ℕ, ◌^◌, ◌<◌, List, Bool, true, false, if◌then◌else◌, length, nat_lt, nat_le, Result, Ok, Err, refl, subst, arith}
use Rattle.std.proofs.lemmas.Bool.{leb-false, ltb-false}
use Rattle.sight_names.specs.declared.limits.TheConstants.{MOST_LUMPS}
use Rattle.sight_names.specs.declared.faults.RewriteFault.{RewriteFault}
use Rattle.sight_names.specs.declared.faults.RewriteFault.TheVariants as fault
use Rattle.wad_dir.specs.Print.{print, printed_len, with_reject}
use Rattle.wad_dir.specs.Wad.{WadFile, wad_of}
use Rattle.wad_dir.proofs.Eight.{HasNames, names_read, names_rewritten}
use Rattle.wad_dir.proofs.Printed.{prints_its_length, reads_what_is_printed}
use Rattle.wad_dir.proofs.Rewritten.{kept}
use Rattle.wad_dir.specs.WadRewrite.Again.{RewrittenIsRead}
use Rattle.wad_dir.specs.WadRewrite.Rewrite.{printed}

same_bytes : (x y : List ℕ) → ◌≡◌ {A = Result (List ℕ) RewriteFault} (Ok x) (Ok y) → x ≡ y
same_bytes x y e = cc

pub record IsPrinted (w : WadFile) (bytes : List ℕ) : Type 0 where
  pub read : wad_of bytes ≡ Ok w
  pub short : length bytes < 2 ^ 31

-- what was printed is read
pub printed_reads : (w : WadFile) (bytes : List ℕ) → HasNames w.lumps → printed w ≡ Ok bytes → IsPrinted w bytes
unfolding printed
printed_reads w bytes names h = by (nat_lt MOST_LUMPS (length w.lumps)) (nat_le (2 ^ 31) (printed_len w.lumps)) refl refl h
  where
    by : (a b : Bool) → nat_lt MOST_LUMPS (length w.lumps) ≡ a → nat_le (2 ^ 31) (printed_len w.lumps) ≡ b → (if a then Err fault.TooManyLumps else (if b then Err fault.TooLong else Ok (print w))) ≡ Ok bytes → IsPrinted w bytes
    by true b e f q = absurd cc
    by false true e f q = absurd cc
    by false false e f q =
        let short : printed_len w.lumps < 2 ^ 31 = leb-false (2 ^ 31) (printed_len w.lumps) f in
        subst (λ (bs : List ℕ). IsPrinted w bs) (same_bytes (print w) bytes q) (record {
          read = reads_what_is_printed w (record { names = names; few = ltb-false MOST_LUMPS (length w.lumps) e; short = short });
          short = (let l = prints_its_length w names in omega (arith, l, short));
        })

pub rewritten_is_read : RewrittenIsRead
rewritten_is_read file w name spot table bytes read found other made =
    let printed = printed_reads (with_reject w spot table) bytes (names_rewritten w spot table (names_read file w read)) made in
    record { read = printed.read; short = printed.short; kept = kept w name spot table found other }
