-- All that is answered of the builds of a map by one method says one line, and writes one WAD.
use Rattle.std.proofs.Common.{◌≡◌, ℕ, List, length, slice_get, Option, Some, None, sym, ap, ◌∙◌, refl}
use Rattle.sight_names.specs.declared.names.Method.{Method}
use Rattle.sight_names.specs.Map.{Map}
use Rattle.reject_bits.specs.Parts.{TableParts}
use Rattle.whole_wad.specs.declared.building.Built.{Built}
use Rattle.map_answers.specs.declared.counts.Counts.{Counts}
use Rattle.map_answers.specs.Counts.{counts_with}
use Rattle.map_answers.specs.SightStatus.Answer.{Answer, only_line}
use Rattle.whole_wad.specs.Built.{HaveOneTable, IsBuiltOf}
use Rattle.whole_wad.proofs.OneTable.{one_table}
use Rattle.map_answers.specs.Input.{LocatedMap}
use Rattle.sight_run.specs.Build.{BuildsSayOneThing, ShowsBuild, build_line, build_writes, report_behind, wad_output}
use Rattle.sight_run.specs.Grid.{ShowsGrid, grid_line}
use Rattle.sight_run.specs.Heard.{ListenersHeard}
use Rattle.sight_run.specs.Zero.{with_table}
use Rattle.sight_run.proofs.Round.{same_ok}

same_counts : (one other : Built) → HaveOneTable one other → counts_with one.table (length one.listed) ≡ counts_with other.table (length other.listed)
same_counts one other same = λ i. counts_with (same.table i) (length (same.listed i))

module _ (m : Map) (method : Method) (one other : Built) (is_one : IsBuiltOf m method one) (is_other : IsBuiltOf m method other) where
  pub one_count : counts_with one.table (length one.listed) ≡ counts_with other.table (length other.listed)
  one_count = same_counts one other (one_table m method one other is_one is_other)

-- what two builds of a map show is one WAD, and one line
module _ (name out : List ℕ) (cert report other_cert other_report : Option (List ℕ)) (method : Method) (found : LocatedMap) (heard others : ListenersHeard) (one other : Answer) (p : ShowsBuild name out cert report method found heard one) (q : ShowsBuild name out other_cert other_report method found others other) where
  pub one_wad : p.bytes ≡ q.bytes
  one_wad =
      let same = one_table found.map method p.built q.built p.is_built q.is_built in
      same_ok p.bytes q.bytes (sym p.made ∙ ap (λ (t : TableParts). with_table found t.bytes) same.table ∙ q.made)

  pub one_line : one.line ≡ other.line
  one_line = ap (λ (a : Answer). a.line) p.is ∙ ap (build_line name) (one_count found.map method p.built q.built p.is_built q.is_built) ∙ sym (ap (λ (a : Answer). a.line) q.is)

-- the WAD is the first output
first_output : (out bytes : List ℕ) (asked reported : Option (List ℕ)) (spelled report : List ℕ) → slice_get (report_behind reported report (build_writes out bytes asked spelled)) 0 ≡ Some (wad_output out bytes)
first_output out bytes None None spelled report = refl
first_output out bytes None (Some r) spelled report = refl
first_output out bytes (Some c) None spelled report = refl
first_output out bytes (Some c) (Some r) spelled report = refl

pub one_thing : BuildsSayOneThing
one_thing name out asked reported method found heard others one other p q = record {
  line = one_line name out asked reported asked reported method found heard others one other p q;
  wad = ap (λ (a : Answer). slice_get a.writes 0) p.is ∙ first_output out p.bytes asked reported p.spelled p.report
      ∙ ap (λ (b : List ℕ). Some (wad_output out b)) (one_wad name out asked reported asked reported method found heard others one other p q)
      ∙ sym (first_output out q.bytes asked reported q.spelled q.report) ∙ sym (ap (λ (a : Answer). slice_get a.writes 0) q.is);
}

pub one_grid : (n : ℕ) (method : Method) (m : Map) (one other : Answer) → ShowsGrid n method m one → ShowsGrid n method m other → other ≡ one
one_grid n method m one other p q = q.is ∙ ap (λ (c : Counts). only_line (grid_line n c)) (one_count m method q.built p.built q.is_built p.is_built) ∙ sym p.is
