-- A build that is asked for neither a certificate nor a report has one answer.
use Rattle.std.proofs.Common.{◌≡◌, ℕ, true, List, [], Option, Some, None, Result, Ok, Err, sym, ap, ◌∙◌}
use Rattle.std.specs.Prelude.{⊤}
use Rattle.sight_names.specs.declared.faults.LineFault.{LineFault}
use Rattle.sight_names.specs.declared.names.Method.{Method}
use Rattle.sight_names.specs.declared.names.Side.{Side}
use Rattle.map_audit.proofs.AuditLemmas.{not_sound, one_fault}
use Rattle.reject_bits.specs.Parts.{TableParts}
use Rattle.shelf_io.specs.Shelf.{Files}
use Rattle.order_words.specs.declared.order.Order.TheVariants as order
use Rattle.order_words.specs.declared.order.Source.{Source}
use Rattle.map_answers.specs.declared.sight_status.status.Bound.{Bound}
use Rattle.map_answers.specs.declared.sight_status.status.Flaw.TheVariants as flaw
use Rattle.map_answers.specs.declared.sight_status.status.Status.{Status}
use Rattle.map_answers.specs.declared.sight_status.status.Status.TheVariants as status
use Rattle.map_answers.specs.SightStatus.Answer.{Answer, GivesCalled}
use Rattle.map_answers.specs.Input.{LocatedMap}
use Rattle.map_answers.proofs.Flaws.{one_side}
use Rattle.whole_wad.proofs.OneTable.{one_table}
use Rattle.sight_run.specs.Build.{BuildCalls, IsUnbuildable, ShowsBuild, ShowsLimit, build_line, build_writes}
use Rattle.sight_run.specs.Heard.{ListenersHeard}
use Rattle.sight_run.specs.Obeys.{CallsOn, HasOneOn}
use Rattle.sight_run.specs.Zero.{with_table}
use Rattle.sight_run.proofs.OneLine.{one_count, one_wad}

module _ (name out : List ℕ) (method : Method) (heard : ListenersHeard) (found : LocatedMap) where
  one_shown : (one other : Answer) → ShowsBuild name out None None method found heard one → ShowsBuild name out None None method found heard other → other ≡ one
  one_shown one other p q =
      let bytes = one_wad name out None None None None method found heard heard one other p q in
      let counts = one_count found.map method p.built q.built p.is_built q.is_built in
      q.is ∙ sym (λ i. record { writes = build_writes out (bytes i) None []; line = build_line name (counts i); right = true }) ∙ sym p.is

  shown_and_limited : (one : Answer) (bound : Bound) → ShowsBuild name out None None method found heard one → ShowsLimit method found bound → ⊥
  shown_and_limited one bound p q =
      let same = one_table found.map method p.built q.built p.is_built q.is_built in
      let e : ◌≡◌ {A = Result (List ℕ) Status} (Ok p.bytes) (Err (status.Limit bound)) = sym p.made ∙ ap (λ (t : TableParts). with_table found t.bytes) same.table ∙ q.limit in absurd cc

  one_limit : (one other : Bound) → ShowsLimit method found one → ShowsLimit method found other → other ≡ one
  one_limit one other p q =
      let same = one_table found.map method p.built q.built p.is_built q.is_built in
      let e : ◌≡◌ {A = Result (List ℕ) Status} (Err (status.Limit one)) (Err (status.Limit other)) = sym p.limit ∙ ap (λ (t : TableParts). with_table found t.bytes) same.table ∙ q.limit in cc

  one_answer : (one other : Result Answer Status) → BuildCalls name out None None method heard found one → BuildCalls name out None None method heard found other → other ≡ one
  one_answer (Ok one) (Ok other) p q = ap (λ (a : Answer). Ok a) (one_shown one other p q)
  one_answer (Ok one) (Err (status.BadMap (flaw.Line f))) p q = absurd (not_sound found.map f q p.is_built.fit.ends)
  one_answer (Ok one) (Err (status.BadMap (flaw.Open side))) p q = absurd (q.1.against (p.is_built.fit.closed side))
  one_answer (Ok one) (Err (status.Limit bound)) p q = absurd (shown_and_limited one bound p q)
  one_answer (Ok one) (Err s) p q = absurd q
  one_answer (Err (status.BadMap (flaw.Line f))) (Ok other) p q = absurd (not_sound found.map f p q.is_built.fit.ends)
  one_answer (Err (status.BadMap (flaw.Line f))) (Err (status.BadMap (flaw.Line g))) p q = ap (λ (x : LineFault). Err (status.BadMap (flaw.Line x))) (one_fault found.map g f q p)
  one_answer (Err (status.BadMap (flaw.Line f))) (Err (status.BadMap (flaw.Open side))) p q = absurd (not_sound found.map f p q.0)
  one_answer (Err (status.BadMap (flaw.Line f))) (Err (status.Limit bound)) p q = absurd (not_sound found.map f p q.is_built.fit.ends)
  one_answer (Err (status.BadMap (flaw.Line f))) (Err s) p q = absurd q
  one_answer (Err (status.BadMap (flaw.Open side))) (Ok other) p q = absurd (p.1.against (q.is_built.fit.closed side))
  one_answer (Err (status.BadMap (flaw.Open side))) (Err (status.BadMap (flaw.Line f))) p q = absurd (not_sound found.map f q p.0)
  one_answer (Err (status.BadMap (flaw.Open side))) (Err (status.BadMap (flaw.Open other))) p q = ap (λ (x : Side). Err (status.BadMap (flaw.Open x))) (one_side _ side other p.1 q.1)
  one_answer (Err (status.BadMap (flaw.Open side))) (Err (status.Limit bound)) p q = absurd (p.1.against (q.is_built.fit.closed side))
  one_answer (Err (status.BadMap (flaw.Open side))) (Err s) p q = absurd q
  one_answer (Err (status.Limit bound)) (Ok other) p q = absurd (shown_and_limited other bound q p)
  one_answer (Err (status.Limit bound)) (Err (status.BadMap (flaw.Line f))) p q = absurd (not_sound found.map f q p.is_built.fit.ends)
  one_answer (Err (status.Limit bound)) (Err (status.BadMap (flaw.Open side))) p q = absurd (q.1.against (p.is_built.fit.closed side))
  one_answer (Err (status.Limit bound)) (Err (status.Limit other)) p q = ap (λ (b : Bound). Err (status.Limit b)) (one_limit bound other p q)
  one_answer (Err (status.Limit bound)) (Err s) p q = absurd q
  one_answer (Err s) other p q = absurd p

module _ (name out : List ℕ) (method : Method) (heard : ListenersHeard) (found : LocatedMap) where
  plain_gives : (r : Result Answer Status) → GivesCalled (IsUnbuildable (Ok found)) (BuildCalls name out None None method heard found) r → GivesCalled ⊤ (BuildCalls name out None None method heard found) r
  plain_gives (Err (status.Memory _)) h = tt
  plain_gives (Err (status.ReadFault k)) h = tt
  plain_gives r h = record { called = h.called; only = λ sole other q. one_answer name out method heard found r other h.called q }

-- what is given for a build of a map is given for its order
pub gives_build : (wad : Source) (name out : List ℕ) (cert report : Option (List ℕ)) (workers : ℕ) (method : Method) (files : Files) (heard : ListenersHeard) (found : LocatedMap) (r : Result Answer Status)
    → GivesCalled (IsUnbuildable (Ok found)) (BuildCalls name out cert report method heard found) r
    → GivesCalled (HasOneOn (order.Build wad name out cert report workers method) (Ok found)) (CallsOn (order.Build wad name out cert report workers method) files heard found) r
gives_build wad name out None None workers method files heard found r h = plain_gives name out method heard found r h
gives_build wad name out None (Some report) workers method files heard found r h = h
gives_build wad name out (Some cert) report workers method files heard found r h = h
