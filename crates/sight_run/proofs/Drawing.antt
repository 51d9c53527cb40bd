-- What `draw` answers by the table of the map.
use Rattle.std.proofs.Common.{◌≡◌, ℕ, List, Result, Ok, Err, refl, sym, subst, ◌∙◌}
use Rattle.std.specs.Prelude.{⊤}
use Rattle.sight_names.specs.declared.faults.TableFault.TheVariants as table
use Rattle.sight_names.specs.Map.{Map}
use Rattle.reject_bits.specs.Parts.{TableParts}
use Rattle.map_answers.specs.declared.sight_status.status.Why.TheVariants as why
use Rattle.map_answers.specs.declared.sight_status.status.Status.{Status}
use Rattle.map_answers.specs.declared.sight_status.status.Status.TheVariants as status
use Rattle.map_answers.specs.SightStatus.Answer.{Answer, GivesCalled}
use Rattle.map_answers.specs.SightStatus.Status.{IsOfTableTest}
use Rattle.map_answers.specs.Input.{LocatedMap}
use Rattle.sight_run.specs.Check.{IsTableOfBytes, TakesTable, of_length, reject_bytes}
use Rattle.sight_run.specs.Draw.{ByOwnTable, IsCallIn, OnTable}
use Rattle.sight_run.proofs.OneRow.{IsFixed}

module _ (m : Map) (Called : TableParts → Result Answer Status → Type 0) (fixed : IsFixed m Called) where
  gives_called : (bytes : List ℕ) (t : TableParts) (r : Result Answer Status) → IsTableOfBytes m.sectors bytes t → GivesCalled ⊤ (Called t) r → GivesCalled ⊤ (IsCallIn Called m bytes) r
  gives_called bytes t (Err (status.Memory _)) is h = tt
  gives_called bytes t (Err (status.ReadFault k)) is h = tt
  gives_called bytes t r is h = record {
    called = record { table = t; spelled = is; called = h.called };
    only = λ sole other q. h.only sole other (fixed bytes t q.table other is q.spelled q.called);
  }

module _ (found : LocatedMap) (Called : TableParts → Result Answer Status → Type 0) (n : ℕ) (raw : List ℕ) (size : n ≡ found.map.sectors) (same : raw ≡ reject_bytes found) where
  -- the bytes of the map's REJECT are a table
  pub table_drawn : IsFixed found.map Called → (t : TableParts) (r : Result Answer Status) → of_length n raw ≡ Ok raw → IsTableOfBytes n raw t → GivesCalled ⊤ (Called t) r → GivesCalled ⊤ (ByOwnTable Called found) r
  table_drawn fixed t r taken is h =
      let e : of_length found.map.sectors (reject_bytes found) ≡ Ok raw = sym (λ i. of_length (size i) (same i)) ∙ taken in
      subst (λ (x : Result (List ℕ) Status). GivesCalled ⊤ (OnTable Called found.map x) r) (sym e) (gives_called found.map Called fixed raw t r (subst (λ (k : ℕ). IsTableOfBytes k raw t) size is) h)

  unspelled : (s : Status) → of_length n raw ≡ Err s → GivesCalled ⊤ (OnTable Called found.map (Err s)) (Err s) → GivesCalled ⊤ (ByOwnTable Called found) (Err s)
  unspelled s h given =
      let e : of_length found.map.sectors (reject_bytes found) ≡ Err s = sym (λ i. of_length (size i) (same i)) ∙ h in
      subst (λ (x : Result (List ℕ) Status). GivesCalled ⊤ (OnTable Called found.map x) (Err s)) (sym e) given

  -- .. or they are none
  pub table_refused : (V : Type 0) (s : Status) → IsOfTableTest s → TakesTable {V = V} n raw (Err s) → GivesCalled ⊤ (ByOwnTable Called found) (Err s)
  table_refused V (status.Memory _) of h = tt
  table_refused V (status.No (why.Table (table.Memory _))) of h = absurd of
  table_refused V (status.No (why.Table (table.WrongLength x y))) of h = unspelled (status.No (why.Table (table.WrongLength x y))) h (record { called = refl; only = λ sole other q. q })
  table_refused V s of h = absurd of
