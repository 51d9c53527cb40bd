-- What a build tells its listeners are the findings of its map, and its line counts them.
use Rattle.std.proofs.Common.{◌≡◌, ◌∙◌, ℕ, ◌+◌, ◌-◌, ◌<◌, ◌≤◌, inl, inr, List, [], ◌++◌, length, Option, Some, Result, Ok, Err, refl, sym, ap, subst, arith, Contains}
use Rattle.std.specs.List.{AllByRecursion}
use Rattle.std.proofs.lemmas.List.Elements.{All-weaker}
use Rattle.std.proofs.lemmas.Option.{slice_get-get_or}
use Rattle.math_base.proofs.Lists.{all_at, all_so}
use Rattle.math_base.proofs.Numbers.{same_or_below}
use Rattle.sight_names.specs.declared.names.Method.{Method}
use Rattle.sight_names.specs.declared.names.Method.TheVariants as how
use Rattle.sight_names.specs.declared.names.Pair.{Pair}
use Rattle.sight_names.specs.Groups.{HasClosedFaces, IsListedByGroups}
use Rattle.sight_names.specs.Map.{Map}
use Rattle.sight_names.specs.Order.{Ascends, PairBefore}
use Rattle.listeners.specs.declared.finding.Finding.{Finding}
use Rattle.listeners.specs.declared.finding.Kind.{Kind}
use Rattle.listeners.specs.declared.finding.Kind.TheVariants as kind
use Rattle.listeners.specs.Findings.{AreFindingsOfMap, IsKindOf, all_pairs_of}
use Rattle.listeners.specs.Listening.{ListenerState, clears_in, lists_in, sets_in}
use Rattle.listeners.specs.Told.{AreFindingsTold, AreToldInTurn, TellsAllFindings, texts}
use Rattle.listeners.specs.PairFindings.Counted.{AreKindsCounted}
use Rattle.listeners.specs.PairFindings.Found.{IsFindingBy, IsKindBy, IsPairBelow, findings_of, pair}
use Rattle.listeners.proofs.PairFindings.Counted.{findings_are_counted, sets_by_rows}
use Rattle.listeners.proofs.PairFindings.Telling.{findings_tell_pairs}
use Rattle.reject_bits.specs.Parts.{Rejects, TableParts}
use Rattle.cert_format.specs.declared.cert.Sizes.{Sizes}
use Rattle.cert_format.specs.Grammar.{IsPairInRange}
use Rattle.cert_format.specs.declared.cert_groups.cert.AnyCert.TheVariants.{One, Two}
use Rattle.certificates.specs.declared.certificate.Certificate.{Certificate}
use Rattle.certificates.specs.declared.certificate.Certificate.TheVariants.{Listing, Exact}
use Rattle.certificates.specs.Grammar.{IsInOrder, Spells, sizes_of_certificate, spelling}
use Rattle.map_answers.specs.declared.sight_status.status.Status.{Status}
use Rattle.map_answers.specs.declared.sight_status.status.Status.TheVariants as status
use Rattle.map_answers.specs.SightStatus.Answer.{Answer, GivesCalled}
use Rattle.map_answers.specs.Counts.{counts_with, pair_count, set_from, set_pairs}
use Rattle.map_answers.specs.Input.{LocatedMap}
use Rattle.sight_run.specs.Build.{BuildCalls, BuildMakes, ShowsBuild, ShowsMade, finding_counts, report_behind, with_report}
use Rattle.sight_run.specs.Heard.{AreFindingsOf, ListenersHeard}
use Rattle.whole_wad.specs.declared.building.Built.{Built}
use Rattle.whole_wad.specs.Built.{DecidedBy, IsBuiltOf}
use Rattle.whole_wad.specs.Sizes.{sizes_of_map}
use Rattle.whole_wad.proofs.OneTable.{list_ascends}

-- ---- the findings of a build

-- the list has pairs of so many sectors
fits_in : (m : Map) (method : Method) (built : Built) → IsBuiltOf m method built → AllByRecursion (IsPairBelow built.table.n) built.listed
fits_in m (how.Within ask) built is = within built.cert is.sizes is.in_order is.by_method
  where
    within : (cert : Certificate) → sizes_of_certificate cert ≡ sizes_of_map m → IsInOrder cert → DecidedBy m (how.Within ask) (record { table = built.table; listed = built.listed; cert = cert }) → AllByRecursion (IsPairBelow built.table.n) built.listed
    within (Listing (One c)) sizes order d = absurd d
    within (Listing (Two c own)) sizes order d =
        let same : own.sectors ≡ built.table.n = ap (λ (s : Sizes). s.sectors) sizes ∙ sym is.sectors in
        subst (λ (ps : List Pair). AllByRecursion (IsPairBelow built.table.n) ps) d.same_list
        (all_so (IsPairInRange own) (IsPairBelow built.table.n) c.listed (λ p k. (k.0, subst (λ (x : ℕ). p.b < x) same k.1)) order.listed)
    within (Exact c) sizes order d = absurd d
fits_in m how.Exact built is = subst (λ (ps : List Pair). AllByRecursion (IsPairBelow built.table.n) ps) (sym is.by_method.none_listed) tt

module _ (m : Map) (method : Method) (built : Built) (is : IsBuiltOf m method built) where
  not_listed : (a b : ℕ) → a ≤ b → ¬ Contains built.listed (pair a b) → ¬ IsListedByGroups m is.decided.budget a b
  not_listed a b le none l = elim (same_or_below a b le) [
    | inl same ↦ l.differ same
    | inr lt ↦ none ((is.decided.listed_are (pair a b)).1 (lt, l))
  ]

  kind_is : (a b : ℕ) (k : Kind) → a ≤ b → b < m.sectors → IsKindBy built.table built.listed a b k → IsKindOf m is.decided.budget a b k
  kind_is a b kind.Listed le lt h = ((is.decided.listed_are (pair a b)).0 h).1
  kind_is a b kind.Set le lt h = (not_listed a b le h.0, is.sight.blind a b (omega (arith, le, lt)) lt h.1)
  kind_is a b kind.Clear le lt h = (
    not_listed a b le h.0,
    is.sight.seen a b (omega (arith, le, lt)) lt h.1 h.0 (λ c. let back = ((is.decided.listed_are (pair b a)).0 c).0 in omega (arith, le, back)),
  )

  are_findings : AreFindingsOfMap m is.decided.budget (findings_of built.table built.listed)
  are_findings =
      let tell = findings_tell_pairs built.table built.listed in
      record {
        pairs = tell.pairs ∙ ap all_pairs_of is.sectors;
        kinds = All-weaker (IsFindingBy built.table built.listed) (λ (f : Finding). IsKindOf m is.decided.budget f.a f.b f.kind)
            (λ f h. kind_is f.a f.b f.kind h.order (subst (λ (n : ℕ). f.b < n) is.sectors h.within) h.kind) (findings_of built.table built.listed) tell.each;
      }

  pub found_in : AreFindingsOf m method (findings_of built.table built.listed)
  found_in = record { allowed = is.decided.budget; is_allowed = is.decided.is_budget; are = are_findings }

  -- ---- what telling asks of the list

  pub list_rises : Ascends PairBefore built.listed
  list_rises = list_ascends m method built is

  pub list_fits : AllByRecursion (IsPairBelow built.table.n) built.listed
  list_fits = fits_in m method built is

  -- a listed pair is clear
  pub list_clear : (p : Pair) → Contains built.listed p → ¬ Rejects built.table p.a p.b
  list_clear p c bit =
      let h = (is.decided.listed_are p).0 c in
      let within : p.b < m.sectors = subst (λ (n : ℕ). p.b < n) is.sectors (all_at (IsPairBelow built.table.n) built.listed list_fits c.0 p (slice_get-get_or built.listed c.0 p c.1 ∙ ap (λ (x : Pair). Some x) c.2)).1 in
      ((is.decided.bits p.a p.b (let l = h.0 in omega (arith, l, within)) within).0 bit).1 h.1

-- ---- the counts

cleared : (all set clear listed : ℕ) → set + clear + listed ≡ all → all - set - listed ≡ clear
cleared all set clear listed e = omega (arith, e)

counts_are : (t : TableParts) (listed : List Pair) (n : ℕ) → t.n ≡ n → AreKindsCounted t listed → counts_with t (length listed) ≡ finding_counts n (findings_of t listed)
unfolding set_pairs set_from
counts_are t listed n sectors h =
    let fs = findings_of t listed in
    let set : set_pairs t ≡ sets_in fs = sym (h.sets ∙ sets_by_rows t) in
    let lists : length listed ≡ lists_in fs = sym h.lists in
    let clear : pair_count t.n - set_pairs t - length listed ≡ clears_in fs = (λ i. pair_count t.n - set i - lists i) ∙ cleared (pair_count t.n) (sets_in fs) (clears_in fs) (lists_in fs) h.all in
    λ i. record { sectors = sectors i; set = set i; clear = clear i; listed = lists i }

-- ---- what is called for

-- those that ended are all that stand apart
pub told_in_turn : (fs : List Finding) (old new ended_old ended_new : List ListenerState) → TellsAllFindings fs old new ended_old ended_new → ended_old ≡ [] → AreToldInTurn fs old new ended_new
told_in_turn fs old new ended_old ended_new h none = subst (λ (es : List ListenerState). AreToldInTurn fs old new es) (sym (h.ended_is ∙ ap (λ (es : List ListenerState). es ++ h.ended) none)) h.told

-- what is made is made of the list and the certificate of the build
pub made_of : (name out : List ℕ) (asked : Option (List ℕ)) (found : LocatedMap) (built : Built) (n : ℕ) (cert : Certificate) (r : Result Answer Status) → n ≡ length built.listed → cert ≡ built.cert
    → BuildMakes name out asked found built.table n cert r → BuildMakes name out asked found built.table (length built.listed) built.cert r
made_of name out asked found built n cert r len same h =
    subst (λ (k : ℕ). BuildMakes name out asked found built.table k built.cert r) len (subst (λ (c : Certificate). BuildMakes name out asked found built.table n c r) same h)

pub shows_of : (name out : List ℕ) (asked : Option (List ℕ)) (found : LocatedMap) (built : Built) (n : ℕ) (cert : Certificate) (answer : Answer) → n ≡ length built.listed → cert ≡ built.cert
    → ShowsMade name out asked found built.table n cert answer → ShowsMade name out asked found built.table (length built.listed) built.cert answer
shows_of name out asked found built n cert answer len same h = made_of name out asked found built n cert (Ok answer) len same h

pub spells_of : (built : Built) (method : Method) (found : LocatedMap) → IsBuiltOf found.map method built → Spells (sizes_of_certificate built.cert) (spelling built.cert) built.cert → Spells (sizes_of_map found.map) (spelling built.cert) built.cert
spells_of built method found is h = subst (λ (s : Sizes). Spells s (spelling built.cert) built.cert) is.sizes h

module _ (name out : List ℕ) (asked reported : Option (List ℕ)) (method : Method) (heard : ListenersHeard) (found : LocatedMap) (built : Built) (is : IsBuiltOf found.map method built) where
  -- a build that told its listeners is what the order calls for
  pub gives_told : (ended : List ListenerState) (answer : Answer) → Spells (sizes_of_map found.map) (spelling built.cert) built.cert → ShowsMade name out asked found built.table (length built.listed) built.cert answer
      → AreFindingsTold (findings_of built.table built.listed) heard.before heard.after (texts ended ++ texts heard.after) → AreToldInTurn (findings_of built.table built.listed) heard.before heard.after ended
      → GivesCalled (¬ HasClosedFaces found.map) (BuildCalls name out asked reported method heard found) (with_report reported (texts ended ++ texts heard.after) (Ok answer))
  gives_told ended answer spells made told in_turn =
      let report = texts ended ++ texts heard.after in
      let whole : Answer = record { writes = report_behind reported report answer.writes; line = answer.line; right = answer.right } in
      let are_counted : AreKindsCounted built.table built.listed =
      findings_are_counted built.table built.listed (list_rises found.map method built is) (list_fits found.map method built is) (list_clear found.map method built is) in
      let shows : ShowsBuild name out asked reported method found heard whole = record {
        built = built;
        is_built = is;
        bytes = made.bytes;
        made = made.made;
        spelled = spelling built.cert;
        spells = spells;
        findings = findings_of built.table built.listed;
        are_findings = are_findings found.map method built is;
        ended = ended;
        in_turn = in_turn;
        counted = counts_are built.table built.listed found.map.sectors is.sectors are_counted;
        report = report;
        report_is = refl;
        told = told;
        is = ap (λ (a : Answer). record { writes = report_behind reported report a.writes; line = a.line; right = a.right }) made.is;
      } in
      record { called = shows; only = λ flawed other q. absurd (flawed is.fit) }

  -- .. and one whose WAD is above a limit too
  pub gives_unmade : (s : Status) → BuildMakes name out asked found built.table (length built.listed) built.cert (Err s) → GivesCalled (¬ HasClosedFaces found.map) (BuildCalls name out asked reported method heard found) (Err s)
  gives_unmade (status.Limit k) h = record { called = record { built = built; is_built = is; limit = h }; only = λ flawed other q. absurd (flawed is.fit) }
  gives_unmade (status.Memory _) h = tt
  gives_unmade s h = absurd h
