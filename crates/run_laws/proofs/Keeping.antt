-- What a WAD that was written keeps of the one that was read.
use Rattle.std.proofs.Common.{◌≡◌, ℕ, ◌*◌, List, ◌∷◌, ◌++◌, Bool, false, if◌then◌else◌, Option, Some, None, Result, Ok, Err, refl, sym, ap, ◌∙◌, subst}
use Rattle.std.specs.Int.{div_ceil}
use Rattle.shelf_io.specs.Shelf.{Files, put}
use Rattle.order_words.specs.declared.order.Order.TheVariants as order
use Rattle.map_answers.specs.declared.sight_status.status.Role.TheVariants as role
use Rattle.map_answers.specs.declared.sight_status.status.Status.{Status}
use Rattle.map_answers.specs.SightStatus.Answer.{Answer}
use Rattle.sight_run.specs.Build.{BuildCalls, build_writes, report_behind}
use Rattle.map_answers.specs.Input.{LocatedMap, OnFound}
use Rattle.sight_run.specs.Reading.{found_of}
use Rattle.run_laws.specs.Laws.{BuildKeepsLumps, HasTableLength, IsClearTable, KeepsLumps, ZeroKeepsLumps}
use Rattle.sight_run.specs.Obeys.{AnswersOrder}
use Rattle.sight_run.specs.Reply.{one_output}
use Rattle.sight_run.specs.Run.{put_outputs}
use Rattle.sight_run.specs.Words.{given, has_twice}
use Rattle.sight_run.specs.Zero.{ZeroCalls, with_table, zero_line, zeroed}
use Rattle.whole_wad.specs.Rejects.{clear_table}
use Rattle.sight_run.proofs.Round.{passes, same_ok, written_again}
use Rattle.sight_run.proofs.Stood.{IsOther, before_report, bytes_of, of_words, out_apart, under_out}
use Rattle.shelf_io.proofs.FilesLemmas.{bytes_eq-refl}

pub stored : (files : Files) (out bytes : List ℕ) → put files out bytes out ≡ Some bytes
stored files out bytes = ap (λ (b : Bool). if b then Some bytes else files out) (bytes_eq-refl out)

pub zero_keeps_lumps : ZeroKeepsLumps
unfolding zeroed
zero_keeps_lumps words wad name out files heard answer asked other h = on (found_of wad name files) refl (subst (λ r. AnswersOrder r files heard (Ok answer)) asked h)
  where
    made : (found : LocatedMap) → Ok answer ≡ zeroed name out found → found_of wad name files ≡ Ok found → KeepsLumps wad name out files (put_outputs files answer.writes) IsClearTable
    made found e q =
        let table : List ℕ = clear_table found.map.sectors in
        let p = passes (with_table found table) (λ bytes. Ok (one_output role.Wad out bytes (zero_line name found.map.sectors))) answer (sym e) in
        let is : one_output role.Wad out p.x (zero_line name found.map.sectors) ≡ answer = same_ok (one_output role.Wad out p.x (zero_line name found.map.sectors)) answer p.rest in
        let old = bytes_of wad name files found q in
        record {
          found = found;
          was = q;
          table = table;
          is_right = refl;
          bytes = p.x;
          stands = ap (λ (a : Answer). put_outputs files a.writes out) (sym is) ∙ stored files out p.x;
          again = written_again wad.large name old.bytes table p.x found old.are other p.step;
        }

    on : (r : Result LocatedMap Status) → found_of wad name files ≡ r → OnFound r (ZeroCalls name out) (Ok answer) → KeepsLumps wad name out files (put_outputs files answer.writes) IsClearTable
    on (Err s) e q = absurd cc
    on (Ok found) e q = made found q e

-- the WAD stands, with the certificate beside it or without
made_stands : (files : Files) (out bytes : List ℕ) (asked : Option (List ℕ)) (spelled : List ℕ) → IsOther out asked → put_outputs files (build_writes out bytes asked spelled) out ≡ Some bytes
made_stands files out bytes None spelled apart = stored files out bytes
made_stands files out bytes (Some cert) spelled apart = under_out files out cert bytes spelled apart

-- .. and with the report or without
pub built_stands : (files : Files) (wad out bytes : List ℕ) (asked reported : Option (List ℕ)) (spelled report : List ℕ) → has_twice (wad ∷ out ∷ (given asked ++ given reported)) ≡ false
    → put_outputs files (report_behind reported report (build_writes out bytes asked spelled)) out ≡ Some bytes
built_stands files wad out bytes asked reported spelled report apart =
    let p = out_apart wad out asked reported apart in
    before_report files (build_writes out bytes asked spelled) reported report out p.1 ∙ made_stands files out bytes asked spelled p.0

pub build_keeps_lumps : BuildKeepsLumps
build_keeps_lumps words wad name out asked report workers method files heard answer is_asked other h = on (found_of wad name files) refl (subst (λ r. AnswersOrder r files heard (Ok answer)) is_asked h)
  where
    on : (r : Result LocatedMap Status) → found_of wad name files ≡ r → OnFound r (BuildCalls name out asked report method heard) (Ok answer) → KeepsLumps wad name out files (put_outputs files answer.writes) HasTableLength
    on (Err s) e q = absurd cc
    on (Ok found) e q =
        let old = bytes_of wad name files found e in
        record {
          found = found;
          was = e;
          table = q.built.table.bytes;
          is_right = q.is_built.table_is_whole.len ∙ ap (λ n. div_ceil (n * n) 8) q.is_built.sectors;
          bytes = q.bytes;
          stands = ap (λ (a : Answer). put_outputs files a.writes out) q.is ∙ built_stands files wad.file out q.bytes asked report q.spelled q.report (of_words words (order.Build wad name out asked report workers method) is_asked);
          again = written_again wad.large name old.bytes q.built.table.bytes q.bytes found old.are other q.made;
        }
