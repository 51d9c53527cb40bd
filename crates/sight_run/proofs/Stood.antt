-- The names of an order's files, what stands under them once its outputs are stored, and the bytes in which a map was found.
use Rattle.std.proofs.Common.{◌≡◌, ℕ, List, ◌∷◌, ◌++◌, Bool, true, false, not, ◌||◌, if◌then◌else◌, Option, Some, None, Ok, Err, refl, sym, ap, ◌∙◌, subst}
use Rattle.std.specs.Prelude.{bytes_eq, ⊤}
use Rattle.std.specs.List.{list_any}
use Rattle.std.proofs.lemmas.Slice.Eq.{bytes_eq-Decides}
use Rattle.shelf_io.specs.Shelf.{Files, content_of, put}
use Rattle.order_words.specs.declared.order.Order.{Order}
use Rattle.order_words.specs.declared.order.Source.{Source}
use Rattle.order_words.specs.Words.{order_of}
use Rattle.map_answers.specs.declared.sight_status.status.Status.TheVariants as status
use Rattle.map_answers.specs.SightStatus.Answer.{Written}
use Rattle.map_answers.specs.Input.{LocatedMap, found_in}
use Rattle.sight_run.specs.Reading.{found_of, of_fetch}
use Rattle.sight_run.specs.Build.{report_behind, report_output}
use Rattle.sight_run.specs.Run.{put_outputs}
use Rattle.sight_run.specs.Words.{asked_of, file_names, given, has_twice, is_built, of_order}
use Rattle.sight_run.proofs.Round.{passes, same_ok}
use Rattle.sight_run.proofs.Stores.{put_all_pushed}
use Rattle.shelf_io.proofs.FilesLemmas.{bytes_eq-refl}
use Rattle.math_base.proofs.Bools.{first_false, second_false}
use Rattle.sight_names.specs.declared.limits.TheConstants.{MOST_BYTES}

-- ---- the words

pub of_words : (words : List (List ℕ)) (o : Order) → asked_of words ≡ Ok o → has_twice (file_names o) ≡ false
unfolding asked_of
of_words words o h = by (order_of words) h
  where
    on : (a b : Bool) (x : Order) → has_twice (file_names x) ≡ b → (if not a then Err status.Usage else (if b then Err status.SameName else Ok x)) ≡ Ok o → has_twice (file_names o) ≡ false
    on false b x e q = absurd cc
    on true true x e q = absurd cc
    on true false x e q = subst (λ (y : Order). has_twice (file_names y) ≡ false) (same_ok x o q) e

    by : (r : Option Order) → of_order r ≡ Ok o → has_twice (file_names o) ≡ false
    by None q = absurd cc
    by (Some x) q = on (is_built x) (has_twice (file_names x)) x refl q

-- an order that words ask is the one that they are
pub asked_is : (words : List (List ℕ)) (o : Order) → asked_of words ≡ Ok o → order_of words ≡ Some o
unfolding asked_of
asked_is words o h = by (order_of words) h
  where
    on : (a b : Bool) (x : Order) → (if not a then Err status.Usage else (if b then Err status.SameName else Ok x)) ≡ Ok o → x ≡ o
    on false b x q = absurd cc
    on true true x q = absurd cc
    on true false x q = same_ok x o q

    by : (r : Option Order) → of_order r ≡ Ok o → r ≡ Some o
    by None q = absurd cc
    by (Some x) q = ap (λ (y : Order). Some y) (on (is_built x) (has_twice (file_names x)) x q)

not_back : (a b : List ℕ) → bytes_eq a b ≡ false → bytes_eq b a ≡ false
not_back a b h = by (bytes_eq b a) refl
  where
    by : (c : Bool) → bytes_eq b a ≡ c → c ≡ false
    by true e = let same : bytes_eq a b ≡ true = (bytes_eq-Decides a b).1 (sym ((bytes_eq-Decides b a).0 e)) in absurd cc
    by false e = refl

-- no such file is asked for, or it has another name
abbrev pub IsOther : List ℕ → Option (List ℕ) → Type 0
IsOther name None = ⊤
IsOther name (Some asked) = bytes_eq asked name ≡ false

others : (name : List ℕ) (cert report : Option (List ℕ)) → list_any (bytes_eq name) (given cert ++ given report) ≡ false → IsOther name cert × IsOther name report
others name None None h = (tt, tt)
others name (Some c) None h = (not_back name c (first_false (bytes_eq name c) false h), tt)
others name None (Some r) h = (tt, not_back name r (first_false (bytes_eq name r) false h))
others name (Some c) (Some r) h = (
  not_back name c (first_false (bytes_eq name c) (bytes_eq name r || false) h),
  not_back name r (first_false (bytes_eq name r) false (second_false (bytes_eq name c) (bytes_eq name r || false) h)),
)

-- the certificate and the report of a build have other names than its output
pub out_apart : (wad out : List ℕ) (cert report : Option (List ℕ)) → has_twice (wad ∷ out ∷ (given cert ++ given report)) ≡ false → IsOther out cert × IsOther out report
out_apart wad out cert report h =
    others out cert report (first_false (list_any (bytes_eq out) (given cert ++ given report)) (has_twice (given cert ++ given report))
    (second_false (list_any (bytes_eq wad) (out ∷ (given cert ++ given report))) (has_twice (out ∷ (given cert ++ given report))) h))

-- .. and the report has another name than the certificate
pub cert_apart : (wad out cert : List ℕ) (report : Option (List ℕ)) → has_twice (wad ∷ out ∷ (given (Some cert) ++ given report)) ≡ false → IsOther cert report
cert_apart wad out cert report h =
    (others cert None report (first_false (list_any (bytes_eq cert) (given report)) (has_twice (given report))
    (second_false (list_any (bytes_eq out) (cert ∷ given report)) (has_twice (cert ∷ given report))
    (second_false (list_any (bytes_eq wad) (out ∷ cert ∷ given report)) (has_twice (out ∷ cert ∷ given report)) h)))).1

-- ---- the files

pub under_out : (files : Files) (out cert bytes spelled : List ℕ) → bytes_eq cert out ≡ false → put (put files out bytes) cert spelled out ≡ Some bytes
under_out files out cert bytes spelled h =
    ap (λ (b : Bool). if b then Some spelled else put files out bytes out) h ∙ ap (λ (b : Bool). if b then Some bytes else files out) (bytes_eq-refl out)

pub under_cert : (files : Files) (out cert bytes spelled : List ℕ) → put (put files out bytes) cert spelled cert ≡ Some spelled
under_cert files out cert bytes spelled = ap (λ (b : Bool). if b then Some spelled else put files out bytes cert) (bytes_eq-refl cert)

-- the report stands under its name, behind what else is written
pub under_report : (files : Files) (ws : List Written) (report bytes : List ℕ) → put_outputs files (report_behind (Some report) bytes ws) report ≡ Some bytes
under_report files ws report bytes =
    ap (λ (f : Files). f report) (put_all_pushed files ws (report_output report bytes)) ∙ ap (λ (b : Bool). if b then Some bytes else put_outputs files ws report) (bytes_eq-refl report)

-- what stands under another name than that of the report
pub before_report : (files : Files) (ws : List Written) (asked : Option (List ℕ)) (report name : List ℕ) → IsOther name asked → put_outputs files (report_behind asked report ws) name ≡ put_outputs files ws name
before_report files ws None report name h = refl
before_report files ws (Some r) report name h =
    ap (λ (f : Files). f name) (put_all_pushed files ws (report_output r report)) ∙ ap (λ (b : Bool). if b then Some report else put_outputs files ws name) h

-- ---- the bytes of a map

-- the bytes in which a map was found
pub record HasBytes (large : Bool) (name : List ℕ) (found : LocatedMap) : Type 0 where
  pub bytes : List ℕ
  pub are : found_in large name bytes ≡ Ok found

pub bytes_of : (wad : Source) (name : List ℕ) (files : Files) (found : LocatedMap) → found_of wad name files ≡ Ok found → HasBytes wad.large name found
unfolding found_of
bytes_of wad name files found h = let p = passes (of_fetch (content_of (files wad.file) MOST_BYTES)) (λ bs. found_in wad.large name bs) found h in record { bytes = p.x; are = p.rest }
