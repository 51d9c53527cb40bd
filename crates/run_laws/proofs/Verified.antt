-- What `verify` that ended tells of the REJECT of each map.
use Rattle.std.proofs.Common.{◌≡◌, ℕ, zero, suc, ◌+◌, ◌<◌, ◌==◌, ◌&&◌, not, cond, Bool, true, false, List, [], ◌∷◌, ◌++◌, Option, Some, None, Result, Ok, Err, IsOk, refl, sym, ap, subst, ◌∙◌, arith}
use Rattle.std.specs.List.{AllByRecursion, count_by}
use Rattle.std.specs.Option.{option_map}
use Rattle.std.proofs.lemmas.List.Sums.{sum_by-cons}
use Rattle.math_base.proofs.Bools.{first_true, second_true}
use Rattle.math_base.proofs.Lists.{all_so}
use Rattle.math_base.proofs.Numbers.{is_told_same}
use Rattle.math_base.proofs.Options.{some_is_same}
use Rattle.sight_names.specs.declared.names.Ask.TheVariants.{Full}
use Rattle.sight_names.specs.declared.names.Ray.{Ray}
use Rattle.sight_names.specs.Map.{Map}
use Rattle.sight_names.specs.Ray.{IsSightRay}
use Rattle.sight_names.specs.Sound.{IsSound}
use Rattle.shelf_io.specs.Shelf.{Files, ShelfState}
use Rattle.shelf_io.specs.Sink.{SinkState}
use Rattle.wad_dir.specs.AllMaps.Names.{name_before_nul}
use Rattle.wad_dir.specs.Map.{spot_of}
use Rattle.wad_dir.specs.Wad.{WadFile, names_of_lumps}
use Rattle.order_words.specs.declared.order.Order.TheVariants as order
use Rattle.order_words.specs.declared.order.ReportFile.{ReportFile}
use Rattle.order_words.specs.declared.order.Source.{Source}
use Rattle.map_answers.specs.declared.sight_status.status.Status.{Status}
use Rattle.map_answers.specs.declared.sight_status.status.Status.TheVariants as status
use Rattle.map_answers.specs.Input.{map_at, map_named, of_spot}
use Rattle.map_answers.specs.SightStatus.Answer.{Answer}
use Rattle.map_answers.specs.SightStatus.Status.{done_as}
use Rattle.pair_answer.specs.declared.answer.PairAnswer.TheVariants as answer
use Rattle.pair_answer.specs.Answer.{IsAnswerFor}
use Rattle.pair_answer.proofs.OneName.{ray_of_sectors}
use Rattle.table_verdicts.specs.declared.verdict.Findings.{Findings}
use Rattle.table_verdicts.specs.declared.verdict.FirstWrong.{FirstWrong}
use Rattle.table_verdicts.specs.declared.verdict.MapVerdict.{MapVerdict}
use Rattle.table_verdicts.specs.declared.verdict.Shown.{Shown}
use Rattle.table_verdicts.specs.declared.verdict.Shown.TheVariants as shown
use Rattle.table_verdicts.specs.declared.verdict.Verdict.{Verdict}
use Rattle.table_verdicts.specs.declared.verdict.Verdict.TheVariants as verdict
use Rattle.whole_wad.specs.Rejects.{reject_named}
use Rattle.table_verdicts.specs.Tallies.{all_right, count_of, is_short, is_wrong, tally_of}
use Rattle.table_verdicts.specs.Verdict.{AreRejectFindings, HasFirstWrong, IsRejectVerdict, answer_of}
use Rattle.table_compare.proofs.OneKind.{none_counted}
use Rattle.sight_run.specs.All.{OnRead}
use Rattle.sight_run.specs.Asked.{AskedMaps, asked_in}
use Rattle.sight_run.specs.Heard.{ListenersHeard}
use Rattle.sight_run.specs.Obeys.{AnswersOrder, IsAnswer}
use Rattle.sight_run.specs.Run.{RunEnds, put_outputs}
use Rattle.sight_run.specs.Verify.{MapsVerified, ShowsVerify}
use Rattle.sight_run.specs.Words.{asked_of}
use Rattle.sight_run.proofs.Round.{passes}
use Rattle.run_laws.specs.Laws.{Sinks}
use Rattle.run_laws.specs.Verified.{IsBlindWhereSet, IsRightReject, TellsBits, TellsFirst, TellsFirstOf, TellsReject, TellsRejects, VerifiedIsRight}
use Rattle.whole_wad.proofs.OneOutcome.{no_flaw}
use Rattle.run_laws.proofs.FoundPlan.{map_at_plan, of_plan}
use Rattle.run_laws.proofs.Planned.{HasPlan}

-- ---- one REJECT

named_plan : (large : Bool) (w : WadFile) (name : List ℕ) (m : Map) → map_named large w name ≡ Ok m → HasPlan m
unfolding map_named
named_plan large w name m is = let b = passes (of_spot (spot_of (names_of_lumps w) name)) (λ s. map_at large w s) m is in map_at_plan large w b.x m b.rest

module _ (m : Map) (plan : HasPlan m) (reject : List ℕ) where
  first_ray : (first : FirstWrong) → IsAnswerFor m Full first.pair (answer_of first.by) → (ray : Ray) → first.by ≡ shown.Ray ray → IsSound m → IsSightRay m ray first.pair.a first.pair.b
  first_ray first sight ray is sound =
      of_plan (λ (k : Map). IsSound k → IsAnswerFor k Full first.pair (answer.Sight ray) → IsSightRay k ray first.pair.a first.pair.b) m plan
      (λ p is_plan s a. ray_of_sectors p Full first.pair ray is_plan s a) sound (subst (λ (by : Shown). IsAnswerFor m Full first.pair (answer_of by)) is sight)

  tells_first : (first : Option FirstWrong) → HasFirstWrong m reject first → TellsFirstOf m reject first
  tells_first (Some first) h = record { is_first = h.is_first; sight = h.sight; ray = first_ray first h.sight }
  tells_first None h = λ a b la lb set sees. h a b la lb (set, sees)

  blind_where_none : (findings : Findings) → AreRejectFindings m reject findings → findings.wrong ≡ 0 → IsBlindWhereSet m reject
  blind_where_none findings h none a b la lb set sees = none_counted m.sectors _ findings.wrong h.wrong none a b la lb (set, sees)

  tells_bits : (findings : Findings) → AreRejectFindings m reject findings → TellsBits m reject findings
  tells_bits findings h = record {
    enough = h.enough;
    faces = h.faces;
    wrong = h.wrong;
    missing = h.missing;
    blind = blind_where_none findings h;
    first = tells_first findings.first h.first;
  }

  tells_of_map : (said : Result Verdict Status) → IsRejectVerdict (Ok m) reject said → TellsReject (Ok m) reject said
  tells_of_map (Ok (verdict.Short found expected)) h = h
  tells_of_map (Ok (verdict.Judged findings)) h = tells_bits findings h
  tells_of_map (Err refusal) h = λ closed. no_flaw m refusal closed h.flaw

tells_of : (large : Bool) (w : WadFile) (name reject : List ℕ) (read : Result Map Status) (said : Result Verdict Status) → map_named large w name ≡ read → IsRejectVerdict read reject said → TellsReject read reject said
tells_of large w name reject (Ok m) said is h = tells_of_map m (named_plan large w name m is) reject said h
tells_of large w name reject (Err refusal) said is h = h

-- ---- none is wrong, and none is short

AreNone : (Result Verdict Status → Bool) → List MapVerdict → Type 0
AreNone test verdicts = AllByRecursion (λ (v : MapVerdict). test v.said ≡ false) verdicts

uncounted : (b : Bool) (n : ℕ) → cond b 1 0 + n ≡ 0 → b ≡ false
uncounted true n e = absurd (omega arith)
uncounted false n e = refl

none_of : (test : Result Verdict Status → Bool) (verdicts : List MapVerdict) → count_of test verdicts ≡ 0 → AreNone test verdicts
unfolding AreNone
none_of test [] e = tt
none_of test (v ∷ vs) e =
    let parts = sum_by-cons (λ (x : MapVerdict). cond (test x.said) 1 0) v vs in
    (uncounted (test v.said) (count_of test vs) (sym parts ∙ e), none_of test vs (rest (cond (test v.said) 1 0) (count_of test vs) (sym parts ∙ e)))
  where
    rest : (a b : ℕ) → a + b ≡ 0 → b ≡ 0
    rest a b e = omega arith

right_by : (m : Map) (plan : HasPlan m) (reject : List ℕ) (said : Result Verdict Status) → IsRejectVerdict (Ok m) reject said → is_wrong said ≡ false → is_short said ≡ false → IsOk said → IsRightReject (Ok m) reject
right_by m plan reject (Ok (verdict.Short found expected)) h wrong short ok = absurd cc
right_by m plan reject (Ok (verdict.Judged findings)) h wrong short ok = record { m = m; is_read = refl; enough = h.enough; blind = blind_where_none m plan reject findings h (none findings.wrong wrong) }
  where
    none : (n : ℕ) → not (n == 0) ≡ false → n ≡ 0
    none n e = is_told_same n 0 (told (n == 0) e)
      where
        told : (b : Bool) → not b ≡ false → b ≡ true
        told true h = refl
        told false h = sym h
right_by m plan reject (Err refusal) h wrong short ok = absurd cc

right_of : (large : Bool) (w : WadFile) (name reject : List ℕ) (read : Result Map Status) (said : Result Verdict Status) → map_named large w name ≡ read → IsRejectVerdict read reject said → is_wrong said ≡ false → is_short said ≡ false → IsOk said → IsRightReject read reject
right_of large w name reject (Ok m) said is h wrong short ok = right_by m (named_plan large w name m is) reject said h wrong short ok
right_of large w name reject (Err refusal) said is h wrong short ok = absurd (refused said h ok)
  where
    refused : (said : Result Verdict Status) → said ≡ Err refusal → IsOk said → ⊥
    refused (Ok v) e ok = absurd cc
    refused (Err s) e ok = absurd cc

abbrev SaysOf : WadFile → Bool → MapVerdict → Type 0
SaysOf w large v = IsRejectVerdict (map_named large w (name_before_nul v.name)) (reject_named w (name_before_nul v.name)) v.said

all_blind : (large : Bool) (w : WadFile) (verdicts : List MapVerdict) → AllByRecursion (SaysOf w large) verdicts → AreNone is_wrong verdicts → AreNone is_short verdicts
    → AllByRecursion (λ (v : MapVerdict). IsOk v.said → IsRightReject (map_named large w (name_before_nul v.name)) (reject_named w (name_before_nul v.name))) verdicts
unfolding AreNone
all_blind large w [] says wrong short = tt
all_blind large w (v ∷ vs) says wrong short = (
  (λ ok. right_of large w (name_before_nul v.name) (reject_named w (name_before_nul v.name)) (map_named large w (name_before_nul v.name)) v.said refl says.0 wrong.0 short.0 ok),
  all_blind large w vs says.1 wrong.1 short.1,
)

all_are_right : (large : Bool) (w : WadFile) (verdicts : List MapVerdict) → AllByRecursion (SaysOf w large) verdicts → all_right (tally_of verdicts) ≡ true
    → AllByRecursion (λ (v : MapVerdict). IsOk v.said → IsRightReject (map_named large w (name_before_nul v.name)) (reject_named w (name_before_nul v.name))) verdicts
all_are_right large w verdicts says right =
    let wrong : count_of is_wrong verdicts ≡ 0 = is_told_same (count_of is_wrong verdicts) 0 (first_true (count_of is_wrong verdicts == 0) (count_of is_short verdicts == 0) right) in
    let short : count_of is_short verdicts ≡ 0 = is_told_same (count_of is_short verdicts) 0 (second_true (count_of is_wrong verdicts == 0) (count_of is_short verdicts == 0) right) in
    all_blind large w verdicts says (none_of is_wrong verdicts wrong) (none_of is_short verdicts short)

-- ---- the run

-- the answer that a run gave which did what it is asked
record EndsTold (words : List (List ℕ)) (files stand : Files) (heard : ListenersHeard) (sinks : Sinks) (right : Bool) : Type 0 where
  answer : Answer
  called : IsAnswer words files heard (Ok answer)
  right_is : answer.right ≡ right
  stands : stand ≡ put_outputs files answer.writes
  said : sinks.new.held ≡ option_map (λ held. held ++ answer.line) sinks.old.held

ends_told : (words : List (List ℕ)) (files stand : Files) (heard : ListenersHeard) (before after : ShelfState) (sinks : Sinks) (right : Bool) → RunEnds words files heard before after sinks.old sinks.new (done_as right) → after.files ≡ Some stand
    → EndsTold words files stand heard sinks right
ends_told words files stand heard before after sinks true h e = record {
  answer = h.ends.answer;
  called = h.ends.called.called;
  right_is = h.ends.right_is;
  stands = some_is_same stand (put_outputs files h.ends.answer.writes) (sym e ∙ h.ends.stands);
  said = h.said ∙ ap (λ (l : List ℕ). option_map (λ held. held ++ l) sinks.old.held) h.ends.line_is;
}
ends_told words files stand heard before after sinks false h e = record {
  answer = h.ends.answer;
  called = h.ends.called.called;
  right_is = h.ends.right_is;
  stands = some_is_same stand (put_outputs files h.ends.answer.writes) (sym e ∙ h.ends.stands);
  said = h.said ∙ ap (λ (l : List ℕ). option_map (λ held. held ++ l) sinks.old.held) h.ends.line_is;
}

module _ (wad : Source) (only : Option (List (List ℕ))) (report : Option ReportFile) (files stand : Files) (sink : Sinks) (right : Bool) where
  verdicts_shown : (asked : AskedMaps) (answer : Answer) → asked_in wad.file only files ≡ Ok asked → ShowsVerify report wad.large asked answer → answer.right ≡ right → stand ≡ put_outputs files answer.writes
      → sink.new.held ≡ option_map (λ held. held ++ answer.line) sink.old.held → TellsRejects wad only report files stand sink right
  verdicts_shown asked answer e q is stands said =
      let right_is : right ≡ all_right (tally_of q.verdicts) = sym is ∙ ap (λ (a : Answer). a.right) q.is in
      record {
        asked = asked;
        are_asked = e;
        verdicts = q.verdicts;
        each = q.are.each;
        tells = all_so (SaysOf asked.wad wad.large) (λ (v : MapVerdict). TellsReject (map_named wad.large asked.wad (name_before_nul v.name)) (reject_named asked.wad (name_before_nul v.name)) v.said) q.verdicts
            (λ v h. tells_of wad.large asked.wad (name_before_nul v.name) (reject_named asked.wad (name_before_nul v.name)) (map_named wad.large asked.wad (name_before_nul v.name)) v.said refl h) q.are.says;
        said = said ∙ ap (λ (a : Answer). option_map (λ held. held ++ a.line) sink.old.held) q.is;
        stands = stands ∙ ap (λ (a : Answer). put_outputs files a.writes) q.is;
        right_is = right_is;
        blind = λ done. all_are_right wad.large asked.wad q.verdicts q.are.says (sym right_is ∙ done);
      }

  of_asked : (r : Result AskedMaps Status) (answer : Answer) → asked_in wad.file only files ≡ r → OnRead r (MapsVerified report wad.large) (Ok answer) → answer.right ≡ right → stand ≡ put_outputs files answer.writes
      → sink.new.held ≡ option_map (λ held. held ++ answer.line) sink.old.held → TellsRejects wad only report files stand sink right
  of_asked (Ok asked) answer e q is stands said = verdicts_shown asked answer e q is stands said
  of_asked (Err s) answer e q is stands said = absurd cc

pub verified_is_right : VerifiedIsRight
verified_is_right words wad only report workers files stand right is_asked ended =
    let told = ends_told words files stand ended.heard ended.before ended.after ended.sink right ended.ends ended.left in
    of_asked wad only report files stand ended.sink right (asked_in wad.file only files) told.answer refl (subst (λ r. AnswersOrder r files ended.heard (Ok told.answer)) is_asked told.called) told.right_is told.stands told.said
