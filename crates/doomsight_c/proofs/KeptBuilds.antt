-- What is kept is what was built, why nothing is kept, and what is copied out is what is given.
use Rattle.std.proofs.Common.{◌≡◌, ◌∙◌, ℕ, List, Option, Some, Result, Ok, Err, refl, sym, ap, subst, length, min, take, drop, arith}
use Rattle.sight_names.specs.declared.names.Method.{Method}
use Rattle.sight_names.specs.Map.{Map, map_of}
use Rattle.certificates.specs.Grammar.{IsInOrder}
use Rattle.map_answers.specs.Counts.{counts_with}
use Rattle.map_answers.specs.Sound.{IsAuditRefusal}
use Rattle.map_answers.specs.declared.sight_status.status.Status.{Status}
use Rattle.map_answers.specs.SightStatus.Answer.{MakesAnswer}
use Rattle.map_answers.specs.SightStatus.Status.{IsOfBytes}
use Rattle.whole_wad.specs.declared.building.Built.{Built}
use Rattle.whole_wad.specs.Built.{IsBuiltOf}
use Rattle.doomsight_c.specs.declared.counts.DoomsightCounts.{DoomsightCounts}
use Rattle.doomsight_c.specs.declared.fault.DoomsightFault.{DoomsightFault}
use Rattle.doomsight_c.specs.declared.kept.Kept.{Kept}
use Rattle.doomsight_c.specs.Built.{SpellsInto, counts_view}
use Rattle.doomsight_c.specs.Faults.{fault_view}
use Rattle.doomsight_c.specs.Keeping.{HoldsWhole, IsCalledFor, IsKept, KeptIsGiven, kept_cert, table_of}
use Rattle.doomsight_c.specs.Lines.{IsOfLibrary, status_in}
use Rattle.doomsight_c.specs.Piece.{CopiesFrom}
use Rattle.doomsight_c.specs.Whole.{IsWholeOf}
use Rattle.doomsight_c.proofs.Giving.{IsLibrarys, called_by_reading, of_audit, of_reading}

-- ---- why nothing is kept

module _ (tells : (s : Status) → IsOfLibrary s → status_in (fault_view s) ≡ s) where
  pub called_read : (read : Result Map Status) → IsLibrarys read → (s : Status) → IsOfBytes s → MakesAnswer map_of (Err s) read → (f : DoomsightFault) → f ≡ fault_view s → IsCalledFor read f
  called_read read lib s h made f is = record {
    refusal = s;
    is = is;
    told = ap status_in is ∙ tells s (of_reading read lib s h made);
    called = called_by_reading read s h made;
  }

  pub called_map : (m : Map) (s : Status) → IsAuditRefusal m s → (f : DoomsightFault) → f ≡ fault_view s → IsCalledFor (Ok m) f
  called_map m s h f is = record { refusal = s; is = is; told = ap status_in is ∙ tells s (of_audit m s h); called = h }

-- ---- what is kept

pub holds : (b : Built) (kept : Kept) (held : Option Kept) → held ≡ Some kept → (counts : DoomsightCounts) → IsWholeOf b kept.table.bytes kept.cert.items counts → HoldsWhole b held counts
holds b kept held is counts whole = record { kept = kept; is_held = is; whole = whole }

pub in_order_of : (m : Map) (by : Method) (b : Built) → IsBuiltOf m by b → IsInOrder b.cert
in_order_of m by b is = is.in_order

pub kept_of : (m : Map) (by : Method) (b : Built) → IsBuiltOf m by b → (held : Option Kept) (counts : DoomsightCounts) → HoldsWhole b held counts → IsKept (Ok m) by held counts
kept_of m by b is held counts h = record { map = m; is_read = refl; built = b; is_built = is; holds = h }

-- ---- what is copied out of it

-- a piece from the start on is the front of the bytes
module _ (bytes before after : List ℕ) (count : ℕ) (from : CopiesFrom bytes 0 before after count) where
  many : count ≡ min (length before) (length bytes)
  many = omega (arith, from.many)

  front : take (min (length before) (length bytes)) after ≡ take (min (length before) (length bytes)) bytes
  front = subst (λ (n : ℕ). take n after ≡ take n bytes) many from.piece

  rest : drop (min (length before) (length bytes)) after ≡ drop (min (length before) (length bytes)) before
  rest = subst (λ (n : ℕ). drop n after ≡ drop n before) many from.rest

pub given_of_kept : KeptIsGiven
given_of_kept read by held counts k reject before after count same copied =
    let b = k.built in let kept = k.holds.kept in let bytes = kept.cert.items in let whole = k.holds.whole in
    let from : CopiesFrom bytes 0 before after count = subst (λ (xs : List ℕ). CopiesFrom xs 0 before after count) (ap kept_cert k.holds.is_held) copied in
    let size : counts.cert_size ≡ length bytes = ap (λ (n : DoomsightCounts). n.cert_size) whole.counted in
    let spells : SpellsInto b.cert before after counts.cert_size = record {
      bytes = bytes;
      spells = whole.cert;
      front = front bytes before after count from;
      rest = rest bytes before after count from;
      counted = λ _. size;
      not_more = λ _. size;
    } in
    record {
      map = k.map;
      is_read = k.is_read;
      built = b;
      is_built = k.is_built;
      put = record {
        table = same ∙ ap table_of k.holds.is_held ∙ whole.table;
        cert = spells;
        counted = whole.counted ∙ ap (counts_view (counts_with b.table (length b.listed))) (sym size);
      };
    }
