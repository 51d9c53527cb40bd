-- `all` has one answer to a WAD by a method and what is chosen for refused maps: what comes of the maps that are to be built is one.
use Rattle.std.proofs.Common.{◌≡◌, inl, inr, ℕ, Bool, true, List, Option, Result, Ok, Err, refl, sym, ap, ◌∙◌}
use Rattle.std.specs.Prelude.{string_bytes, ⊤}
use Rattle.sight_names.specs.declared.faults.RewriteFault.{RewriteFault}
use Rattle.sight_names.specs.declared.faults.RewriteFault.TheVariants as rewrite
use Rattle.sight_names.specs.declared.names.Method.{Method}
use Rattle.wad_dir.specs.Wad.{WadFile, names_of_lumps}
use Rattle.wad_dir.specs.AllMaps.All.{HasInOrder}
use Rattle.wad_dir.specs.AllMaps.Maps.{maps_in_names}
use Rattle.order_words.specs.declared.order.ReportFile.{ReportFile}
use Rattle.refused_maps.specs.declared.Refused.{Refused}
use Rattle.refused_maps.specs.Stops.{Stops}
use Rattle.map_answers.specs.declared.sight_status.status.Bound.TheVariants as bound
use Rattle.map_answers.specs.declared.sight_status.status.Status.{Status}
use Rattle.map_answers.specs.declared.sight_status.status.Status.TheVariants as status
use Rattle.map_answers.specs.SightStatus.Answer.{Answer, GivesCalled, IsTheAnswer}
use Rattle.whole_wad.specs.declared.outcomes.MapOutcome.{MapOutcome}
use Rattle.whole_wad.specs.Outcomes.{AreOutcomes}
use Rattle.whole_wad.specs.Report.{outcomes_report}
use Rattle.whole_wad.specs.declared.whole.Unmade.{Unmade}
use Rattle.whole_wad.specs.declared.whole.Unmade.TheVariants as unmade
use Rattle.whole_wad.specs.declared.whole.WholeWad.{WholeWad}
use Rattle.whole_wad.specs.Stop.{StopsAt}
use Rattle.whole_wad.specs.Whole.{IsAboveLimit, MakesWhole, ShowsWhole, written_of}
use Rattle.whole_wad.proofs.OneOutcome.{none_stops, one_stop, outcomes_are_one}
use Rattle.sight_run.specs.All.{IsTooMuch, IsUnmade, MapsCall, ShowsAll, all_writes, of_unmade, build_tally_line, tally_of_outcomes}
use Rattle.sight_run.specs.Run.{IsOfStop}
use Rattle.sight_run.specs.Words.{file_in, spelling_in}
use Rattle.sight_run.proofs.Round.{same_ok}
use Rattle.whole_wad.proofs.Stopping.{IsOfMap, stop_of_map}

-- what is written of the maps of a WAD, and why it isn't
answered : List ℕ → Option ReportFile → Refused → List ℕ → List MapOutcome → Answer
answered out reported choice bytes os = record { writes = all_writes out bytes (file_in reported) (outcomes_report (spelling_in reported) os); line = tally_of_outcomes choice os; right = true }

module _ (out : List ℕ) (reported : Option ReportFile) (large : Bool) (maps : List (List ℕ)) (method : Method) (choice : Refused) (w : WadFile) where
  -- two lists of what comes of the maps are written alike
  alike : (ones others : List MapOutcome) → AreOutcomes w large maps method choice ones → AreOutcomes w large maps method choice others → (r s : Result (List ℕ) RewriteFault) → written_of w ones ≡ r → written_of w others ≡ s → r ≡ s
  alike ones others h k r s e f = sym e ∙ ap (written_of w) (outcomes_are_one w large maps method choice ones others h k) ∙ f

  one_shown : (one other : Answer) → ShowsAll out reported large maps method choice w one → ShowsAll out reported large maps method choice w other → other ≡ one
  unfolding answered
  one_shown one other p q =
      let bytes : p.bytes ≡ q.bytes = same_ok p.bytes q.bytes (alike p.outcomes q.outcomes p.are q.are (Ok p.bytes) (Ok q.bytes) p.made q.made) in
      let outcomes = outcomes_are_one w large maps method choice p.outcomes q.outcomes p.are q.are in
      q.is ∙ sym (λ i. answered out reported choice (bytes i) (outcomes i)) ∙ sym p.is

  -- ---- above a limit

  shown_and_above : (answer : Answer) (fault : RewriteFault) → ShowsAll out reported large maps method choice w answer → IsAboveLimit w large maps method choice fault → ⊥
  shown_and_above answer fault p q = let e = alike p.outcomes q.outcomes p.are q.are (Ok p.bytes) (Err fault) p.made q.limit in absurd cc

  two_limits : IsAboveLimit w large maps method choice rewrite.TooManyLumps → IsAboveLimit w large maps method choice rewrite.TooLong → ⊥
  two_limits p q = let e = alike p.outcomes q.outcomes p.are q.are (Err rewrite.TooManyLumps) (Err rewrite.TooLong) p.limit q.limit in absurd cc

  -- some limit it is above
  some_limit : (s : Status) → IsTooMuch w large maps method choice s → (fault : RewriteFault) × IsAboveLimit w large maps method choice fault
  some_limit (status.Limit bound.Lumps) p = (rewrite.TooManyLumps, p)
  some_limit (status.Limit bound.OutputBytes) p = (rewrite.TooLong, p)
  some_limit s p = absurd p

  one_limit : (s t : Status) → IsTooMuch w large maps method choice s → IsTooMuch w large maps method choice t → t ≡ s
  one_limit (status.Limit bound.Lumps) (status.Limit bound.Lumps) p q = refl
  one_limit (status.Limit bound.Lumps) (status.Limit bound.OutputBytes) p q = absurd (two_limits p q)
  one_limit (status.Limit bound.Lumps) t p q = absurd q
  one_limit (status.Limit bound.OutputBytes) (status.Limit bound.Lumps) p q = absurd (two_limits q p)
  one_limit (status.Limit bound.OutputBytes) (status.Limit bound.OutputBytes) p q = refl
  one_limit (status.Limit bound.OutputBytes) t p q = absurd q
  one_limit s t p q = absurd p

  -- ---- nothing is made

  above_and_stopped : (s t : Status) → IsTooMuch w large maps method choice s → StopsAt w large method choice t maps → ⊥
  above_and_stopped s t p q = let h = some_limit s p in none_stops w large method choice t maps h.1.outcomes h.1.are q

  shown_and_unmade : (answer : Answer) (s : Status) → ShowsAll out reported large maps method choice w answer → IsUnmade w large maps method choice s → ⊥
  shown_and_unmade answer s p (inl stop) = none_stops w large method choice s maps p.outcomes p.are stop
  shown_and_unmade answer s p (inr much) = let h = some_limit s much in shown_and_above answer h.0 p h.1

  one_unmade : (s t : Status) → IsUnmade w large maps method choice s → IsUnmade w large maps method choice t → t ≡ s
  one_unmade s t (inl p) (inl q) = one_stop w large method choice t s maps q p
  one_unmade s t (inl p) (inr q) = absurd (above_and_stopped t s q p)
  one_unmade s t (inr p) (inl q) = absurd (above_and_stopped s t p q)
  one_unmade s t (inr p) (inr q) = one_limit s t p q

  pub one_answer : (one other : Result Answer Status) → MapsCall out reported large maps method choice w one → MapsCall out reported large maps method choice w other → other ≡ one
  one_answer (Ok one) (Ok other) p q = ap (λ (a : Answer). Ok a) (one_shown one other p q)
  one_answer (Ok one) (Err s) p q = absurd (shown_and_unmade one s p q)
  one_answer (Err s) (Ok other) p q = absurd (shown_and_unmade other s q p)
  one_answer (Err s) (Err t) p q = ap (λ (x : Status). Err x) (one_unmade s t p q)

  -- an answer that is called for is the one
  pub the_answer : (r : Result Answer Status) → MapsCall out reported large maps method choice w r → IsTheAnswer ⊤ (MapsCall out reported large maps method choice w) r
  the_answer r called = record { called = called; only = λ sole other q. one_answer r other called q }

  -- what was made of the WAD is what is answered
  pub the_whole : (whole : WholeWad) (answer : Answer) → ShowsWhole w large maps method choice (spelling_in reported) whole
      → answer ≡ record { writes = all_writes out whole.bytes.items (file_in reported) (string_bytes whole.report); line = build_tally_line choice whole.maps whole.built whole.refused whole.cleared; right = true } → IsTheAnswer ⊤ (MapsCall out reported large maps method choice w) (Ok answer)
  the_whole whole answer h is = the_answer (Ok answer) (record {
    outcomes = h.outcomes;
    are = h.are;
    bytes = whole.bytes.items;
    made = h.shows.bytes;
    is = is ∙ (λ i. record { writes = all_writes out whole.bytes.items (file_in reported) (h.shows.report_is i); line = build_tally_line choice (h.shows.maps i) (h.shows.built i) (h.shows.refused i) (h.shows.cleared i); right = true });
  })

  -- ---- the status where nothing is made

  of_call : (s : Status) → IsUnmade w large maps method choice s → GivesCalled ⊤ (MapsCall out reported large maps method choice w) (Err s)
  of_call (status.Memory _) h = tt
  of_call (status.ReadFault k) h = tt
  of_call s h = the_answer (Err s) h

  pub the_unmade : (u : Unmade) → MakesWhole w large maps method choice (spelling_in reported) (Err u) → GivesCalled ⊤ (MapsCall out reported large maps method choice w) (Err (of_unmade u))
  the_unmade (unmade.Stopped refusal) h = of_call refusal (inl h)
  the_unmade (unmade.Unwritten (rewrite.Memory _)) h = tt
  the_unmade (unmade.Unwritten rewrite.TooManyLumps) h = of_call (status.Limit bound.Lumps) (inr h)
  the_unmade (unmade.Unwritten rewrite.TooLong) h = of_call (status.Limit bound.OutputBytes) (inr h)

  stopped_so : (s : Status) → IsOfMap s → Stops choice → IsOfStop choice s
  stopped_so (status.BadLump fault) h stops = (stops, h)
  stopped_so (status.BadText fault) h stops = (stops, h)
  stopped_so (status.BadMap flaw) h stops = stops
  stopped_so (status.Limit bound.Sectors) h stops = stops
  stopped_so (status.Limit bound.Lines) h stops = stops
  stopped_so (status.Limit bound.Points) h stops = stops
  stopped_so (status.Limit bound.Vertices) h stops = stops
  stopped_so (status.Limit bound.Sides) h stops = stops
  stopped_so (status.Memory _) h stops = tt
  stopped_so s h stops = absurd h

  pub unmade_so : (u : Unmade) → HasInOrder (maps_in_names (names_of_lumps w)) maps → MakesWhole w large maps method choice (spelling_in reported) (Err u) → IsOfStop choice (of_unmade u)
  unmade_so (unmade.Stopped refusal) among h = let k = stop_of_map w large method choice refusal maps among h in stopped_so refusal k.1 k.0
  unmade_so (unmade.Unwritten (rewrite.Memory _)) among h = tt
  unmade_so (unmade.Unwritten rewrite.TooManyLumps) among h = tt
  unmade_so (unmade.Unwritten rewrite.TooLong) among h = tt
