-- A judge that is fed the first bytes of a file, and more and more of them.
use Rattle.std.proofs.Common.{◌≡◌, ℕ, ◌+◌, ◌<◌, ◌≤◌, List, [], ◌++◌, length, take, Option, Some, Ok, refl, arith}
use Rattle.std.proofs.lemmas.List.{length-append}
use Rattle.sight_names.specs.Plan.{PlanParts}
use Rattle.shelf_io.specs.Shelf.{Files, ReadsFile}
use Rattle.shelf_io.proofs.FetchLemmas.{ReadSoFar, end_is, goes_on, starts}
use Rattle.reject_bits.specs.Parts.{TableParts}
use Rattle.any_judge.specs.declared.judge.Judge.{Judge}
use Rattle.any_judge.specs.Judge.{HasBeenFed, MayBeFed}
use Rattle.any_judge.specs.CertFile.Fed.{HoldsFile}

-- the judge was fed so many bytes, and where the files are told these are the first of the file
pub record IsUnderWay (p : PlanParts) (t : TableParts) (files : Option Files) (name : List ℕ) (at : ℕ) (j : Judge) : Type 0 where
  pub bytes : List ℕ
  pub fed : HasBeenFed p t bytes j
  pub count : at ≡ length bytes
  pub told : (fs : Files) → files ≡ Some fs → ReadSoFar (fs name) bytes

module _ (p : PlanParts) (t : TableParts) (files : Option Files) (name : List ℕ) where
  pub begun : (j : Judge) → HasBeenFed p t [] j → IsUnderWay p t files name 0 j
  begun j h = record { bytes = []; fed = h; count = refl; told = λ fs e. starts (fs name) }

  module _ (at : ℕ) (j : Judge) (way : IsUnderWay p t files name at j) where
    pub may_be_fed : (piece : List ℕ) → at + length piece ≤ 9223372036854775807 → MayBeFed piece j
    may_be_fed piece few = record { plan = p; table = t; bytes = way.bytes; fed = way.fed; few = omega (arith, few, way.count) }

    -- one more piece
    pub fed_on : (k : Judge) (n : ℕ) (before after : List ℕ) → ((bytes : List ℕ) → HasBeenFed p t bytes j → HasBeenFed p t (bytes ++ take n after) k) → length (take n after) ≡ n
        → ((fs : Files) → files ≡ Some fs → ReadsFile (fs name) at before after (Ok n)) → IsUnderWay p t files name (at + n) k
    fed_on k n before after fed taken read = record {
      bytes = way.bytes ++ take n after;
      fed = fed way.bytes way.fed;
      count = omega (arith, way.count, length-append way.bytes (take n after), taken);
      told = λ fs e. goes_on at n way.bytes before after after way.count refl (fs name) (way.told fs e) (read fs e);
    }

    -- nothing is left
    pub whole_held : (n : ℕ) (before after : List ℕ) → n ≡ 0 → 0 < length before → at ≤ 9223372036854775807 → ((fs : Files) → files ≡ Some fs → ReadsFile (fs name) at before after (Ok n)) → HoldsFile p t files name j
    whole_held n before after none room few read = record {
      bytes = way.bytes;
      fed = way.fed;
      whole = λ fs e. end_is (λ (b : List ℕ). b) way.bytes 9223372036854775807 at n before after way.count none room few (fs name) (way.told fs e) (read fs e);
    }
