-- Words that give no budget: what they ask of two sectors has no bound.
use Rattle.std.proofs.Common.{◌≡◌, ℕ, refl, sym, subst, List, [], ◌∷◌, Bool, true, false, not, ◌&&◌, ◌||◌, if◌then◌else◌, Option, Some, None, is_none, is_some, codes}
use Rattle.std.specs.Prelude.{IfSome, option_map}
use Rattle.std.specs.Str.{bytes_eq}
use Rattle.clap.specs.Words.{Kinds, Row, Text, first_of, all_of}
use Rattle.sight_names.specs.declared.names.Ask.{Ask}
use Rattle.sight_names.specs.declared.names.Pair.{Pair}
use Rattle.sight_names.specs.declared.names.Ask.TheVariants.{Full}
use Rattle.row_spelling.specs.declared.Spelling.{Spelling}
use Rattle.order_words.specs.declared.order.Order.{Order}
use Rattle.order_words.specs.declared.order.Order.TheVariants as order
use Rattle.order_words.specs.declared.order.View.{View}
use Rattle.order_words.specs.declared.order.View.TheVariants as view
use Rattle.order_words.specs.declared.words.BuildChoices.{BuildChoices}
use Rattle.order_words.specs.Values.{◌>>=◌, is_file, is_map, upper, ray_of, pair_in_words, sector_in_word, rooms_of}
use Rattle.order_words.specs.Command.{refusals_of, rows_in}
use Rattle.order_words.specs.Laws.{AsksWithoutBound, GivesNoBudget, bound_of}
use Rattle.order_words.specs.Words.{is_drawing, order_of_verb, spelled_as, takes_json, whole_view, WordsSaid, said_with, is_given, is_plain, has_bound_alone, given_bound, given_method, given_workers, wad_source, zero_of, ray_order_of, audit_of, trace_of, check_of, need_of, sound_with, sound_of, why_within, why_order, view_of, draw_with, choices_of, build_of, all_order_of, may_be_one, verify_with, given_file, given_names, has_names_alone, maps_with, maps_order, grid_of, plain_order_of, order_said, order_in_rows, unless_refused, order_of, has_report_alone, audit_with}

-- what comes of a choice, of a value that is taken on, and of one that is turned into another
if_some : {A : Type 0} (P : A → Type 0) (b : Bool) (x y : Option A) → IfSome x P → IfSome y P → IfSome (if b then x else y) P
if_some P true x y p q = p
if_some P false x y p q = q

then_some : {A B : Type 0} (P : B → Type 0) (x : Option A) (f : A → Option B) → ((a : A) → IfSome (f a) P) → IfSome (x >>= f) P
then_some P None f p = tt
then_some P (Some a) f p = p a

map_some : {A B : Type 0} (P : B → Type 0) (x : Option A) (f : A → B) → IfSome x (λ a. P (f a)) → IfSome (option_map f x) P
map_some P None f p = tt
map_some P (Some a) f p = p

any_some : {A : Type 0} (P : A → Type 0) (x : Option A) → ((a : A) → P a) → IfSome x P
any_some P None p = tt
any_some P (Some a) p = p a

-- an order that has no bound where it asks of two sectors
abbrev Unbounded : Order → Type 0
Unbounded o = IfSome (bound_of o) (λ ask. ask ≡ Full)

-- orders that don't ask of two sectors
zero_asks : (large : Bool) (rest : List Text) → IfSome (zero_of large rest) Unbounded
zero_asks large (wad ∷ name ∷ out ∷ []) = if_some Unbounded (is_file wad && is_map name && is_file out) _ _ tt tt
zero_asks large rest = tt

ray_asks : (large : Bool) (rest : List Text) → IfSome (ray_order_of large rest) Unbounded
ray_asks large (wad ∷ name ∷ word ∷ []) = if_some Unbounded (is_file wad && is_map name) _ _ (map_some Unbounded (ray_of word) _ (any_some _ (ray_of word) (λ ray. tt))) tt
ray_asks large rest = tt

audit_asks : (large : Bool) (spelled : Spelling) (rest : List Text) (report : Option Text) → IfSome (audit_with large spelled rest report) Unbounded
audit_asks large spelled (wad ∷ name ∷ []) report = if_some Unbounded (is_file wad && is_map name) _ _ tt tt
audit_asks large spelled rest report = tt

trace_asks : (large : Bool) (rest : List Text) → IfSome (trace_of large rest) Unbounded
trace_asks large (wad ∷ name ∷ word ∷ []) = if_some Unbounded (is_file wad && is_map name) _ _ (map_some Unbounded (ray_of word) _ (any_some _ (ray_of word) (λ ray. tt))) tt
trace_asks large rest = tt

check_asks : (large : Bool) (spelled : Spelling) (rest : List Text) → IfSome (check_of large spelled rest) Unbounded
check_asks large spelled (wad ∷ name ∷ cert ∷ []) = if_some Unbounded (is_file wad && is_map name && is_file cert) _ _ tt tt
check_asks large spelled rest = tt

need_asks : (large : Bool) (rest : List Text) → IfSome (need_of large rest) Unbounded
need_asks large (wad ∷ name ∷ []) = if_some Unbounded (is_file wad && is_map name) _ _ tt tt
need_asks large rest = tt

sound_with_asks : (large : Bool) (wad name : Text) (sectors : List Text) → IfSome (sound_with large wad name sectors) Unbounded
sound_with_asks large wad name [] = tt
sound_with_asks large wad name (first ∷ second ∷ []) = map_some Unbounded (pair_in_words first second) _ (any_some _ (pair_in_words first second) (λ pair. tt))
sound_with_asks large wad name sectors = tt

sound_asks : (large : Bool) (rest : List Text) → IfSome (sound_of large rest) Unbounded
sound_asks large (wad ∷ name ∷ sectors) = if_some Unbounded (is_file wad && is_map name) _ _ (sound_with_asks large wad name sectors) tt
sound_asks large rest = tt

plain_asks : (s : WordsSaid) → IfSome (plain_order_of s) Unbounded
plain_asks s =
    if_some Unbounded (bytes_eq s.verb (codes "zero")) _ _ (zero_asks (is_given s.large) s.rest)
    (if_some Unbounded (bytes_eq s.verb (codes "ray")) _ _ (ray_asks (is_given s.large) s.rest)
    (if_some Unbounded (bytes_eq s.verb (codes "trace")) _ _ (trace_asks (is_given s.large) s.rest)
    (if_some Unbounded (bytes_eq s.verb (codes "check")) _ _ (check_asks (is_given s.large) (spelled_as (is_given s.json)) s.rest)
    (if_some Unbounded (bytes_eq s.verb (codes "need")) _ _ (need_asks (is_given s.large) s.rest)
    (if_some Unbounded (bytes_eq s.verb (codes "sound")) _ _ (sound_asks (is_given s.large) s.rest) tt)))))

build_asks : (large : Bool) (rest : List Text) (c : BuildChoices) → IfSome (build_of large rest c) Unbounded
build_asks large (wad ∷ name ∷ out ∷ []) c = if_some Unbounded (may_be_one c && is_file wad && is_map name && is_file out) _ _ tt tt
build_asks large rest c = tt

all_asks : (large : Bool) (spelled : Spelling) (rest : List Text) (c : BuildChoices) → IfSome (all_order_of large spelled rest c) Unbounded
all_asks large spelled (wad ∷ out ∷ []) c = if_some Unbounded (is_none c.cert && is_file wad && is_file out) _ _ tt tt
all_asks large spelled rest c = tt

verify_asks : (large : Bool) (spelled : Spelling) (rest : List Text) (c : BuildChoices) → IfSome (verify_with large spelled rest c) Unbounded
verify_asks large spelled (wad ∷ []) c = if_some Unbounded (is_none c.cert && is_none c.refused && is_file wad) _ _ tt tt
verify_asks large spelled rest c = tt

maps_ask : (large : Bool) (spelled : Spelling) (rest : List Text) (only : Option (List Text)) (report : Option Text) → IfSome (maps_with large spelled rest only report) Unbounded
maps_ask large spelled (wad ∷ []) only report = if_some Unbounded (is_file wad) _ _ tt tt
maps_ask large spelled rest only report = tt

grid_asks : (s : WordsSaid) (rest : List Text) → IfSome (grid_of s rest) Unbounded
grid_asks s (word ∷ []) =
    if_some Unbounded (is_some s.cert || is_some s.report || is_some s.only || is_some s.refused || is_given s.large || is_drawing s) _ _ tt
    (then_some Unbounded (rooms_of word) _ (λ n. then_some Unbounded (given_workers 4 s.workers) _ (λ workers. then_some Unbounded (given_method (is_given s.exact) s.budget) _ (λ method. tt))))
grid_asks s rest = tt

-- orders that do
why_asks : (large : Bool) (rest : List Text) → IfSome (why_within large rest Full) Unbounded
why_asks large (wad ∷ name ∷ first ∷ second ∷ []) = if_some Unbounded (is_file wad && is_map name) _ _ (map_some Unbounded (pair_in_words first second) _ (any_some _ (pair_in_words first second) (λ pair. refl))) tt
why_asks large rest = tt

plan_asks : (P : View → Type 0) → P view.Plan → P view.Faults → P view.Heat → (faults heat : Bool) → IfSome (whole_view faults heat) P
plan_asks P plan faulty hot true true = tt
plan_asks P plan faulty hot true false = faulty
plan_asks P plan faulty hot false true = hot
plan_asks P plan faulty hot false false = plan

view_asks : (P : View → Type 0) → P view.Plan → P view.Faults → P view.Heat → ((k : ℕ) → P (view.Row k)) → ((pair : Pair) → P (view.Pair pair Full)) → (faults heat exact : Bool) (sectors : List Text) → IfSome (view_of faults heat exact None sectors) P
view_asks P plan faulty hot row two faults heat exact [] = if_some P (not exact && true) _ _ (plan_asks P plan faulty hot faults heat) tt
view_asks P plan faulty hot row two faults heat exact (first ∷ []) = if_some P (not faults && not heat && not exact && true) _ _ (map_some P (sector_in_word first) _ (any_some _ (sector_in_word first) row)) tt
view_asks P plan faulty hot row two faults heat exact (first ∷ second ∷ []) = if_some P (not faults && not heat) _ _ (then_some P (pair_in_words first second) _ two) tt
view_asks P plan faulty hot row two faults heat exact sectors = tt

two_ask : (s : WordsSaid) → s.budget ≡ None → IfSome (why_order s) Unbounded
two_ask s none =
    if_some Unbounded (has_bound_alone s) _ _
    (subst (λ (budget : Option Text). IfSome (given_bound (is_given s.exact) budget >>= why_within (is_given s.large) s.rest) Unbounded) (sym none) (why_asks (is_given s.large) s.rest)) tt

draw_asks : (s : WordsSaid) → s.budget ≡ None → (rest : List Text) → IfSome (draw_with s rest) Unbounded
draw_asks s none (wad ∷ name ∷ out ∷ sectors) =
    let P : View → Type 0 = λ view. Unbounded (order.Draw (wad_source (is_given s.large) wad) (upper name) out view) in
    if_some Unbounded (is_file wad && is_map name && is_file out) _ _
    (map_some Unbounded (view_of (is_given s.faults) (is_given s.heat) (is_given s.exact) s.budget sectors) _
    (subst (λ (budget : Option Text). IfSome (view_of (is_given s.faults) (is_given s.heat) (is_given s.exact) budget sectors) P) (sym none)
    (view_asks P tt tt tt (λ k. tt) (λ pair. refl) (is_given s.faults) (is_given s.heat) (is_given s.exact) sectors))) tt
draw_asks s none rest = tt

verb_asks : (s : WordsSaid) → s.budget ≡ None → IfSome (order_of_verb s) Unbounded
unfolding order_of_verb
verb_asks s none =
    if_some Unbounded (bytes_eq s.verb (codes "grid")) _ _ (grid_asks s s.rest)
    (if_some Unbounded (is_given s.hexen) _ _ tt
    (if_some Unbounded (bytes_eq s.verb (codes "draw")) _ _ (if_some Unbounded (has_bound_alone s) _ _ (draw_asks s none s.rest) tt)
    (if_some Unbounded (is_drawing s) _ _ tt
    (if_some Unbounded (bytes_eq s.verb (codes "build")) _ _ (then_some Unbounded (choices_of s) _ (build_asks (is_given s.large) s.rest))
    (if_some Unbounded (bytes_eq s.verb (codes "all")) _ _ (then_some Unbounded (choices_of s) _ (all_asks (is_given s.large) (spelled_as (is_given s.json)) s.rest))
    (if_some Unbounded (bytes_eq s.verb (codes "why")) _ _ (two_ask s none)
    (if_some Unbounded (bytes_eq s.verb (codes "verify")) _ _ (if_some Unbounded (is_none s.budget && not (is_given s.exact)) _ _ (then_some Unbounded (choices_of s) _ (verify_asks (is_given s.large) (spelled_as (is_given s.json)) s.rest)) tt)
    (if_some Unbounded (bytes_eq s.verb (codes "maps")) _ _
    (if_some Unbounded (not (has_names_alone s)) _ _ tt (then_some Unbounded (given_file s.report) _ (λ report. then_some Unbounded (given_names s.only) _ (λ only. maps_ask (is_given s.large) (spelled_as (is_given s.json)) s.rest only report))))
    (if_some Unbounded (bytes_eq s.verb (codes "audit")) _ _ (if_some Unbounded (has_report_alone s) _ _ (then_some Unbounded (given_file s.report) _ (audit_asks (is_given s.large) (spelled_as (is_given s.json)) s.rest)) tt)
    (if_some Unbounded (is_plain s) _ _ (plain_asks s) tt))))))))))

said_asks : (s : WordsSaid) → s.budget ≡ None → IfSome (order_said s) Unbounded
unfolding order_said
said_asks s none = if_some Unbounded (is_given s.json && not (takes_json s)) _ _ tt (verb_asks s none)

rows_ask : (rows : List Row) → first_of (codes "budget") rows ≡ None → IfSome (order_in_rows rows) Unbounded
unfolding order_in_rows
rows_ask rows none = then_some Unbounded (all_of (codes "rest") rows) _ (λ rest. said_asks (said_with rows rest) none)

accepted_asks : (refused : Kinds) (said : Option Order) → IfSome said Unbounded → IfSome (unless_refused refused said) Unbounded
accepted_asks [] said asks = asks
accepted_asks (k ∷ ks) said asks = tt

words_ask : (words : List Text) → GivesNoBudget words → IfSome (order_of words) Unbounded
unfolding order_of
words_ask words none = accepted_asks (refusals_of words) (order_in_rows (rows_in words)) (rows_ask (rows_in words) none)

-- the law
pub asks_without_bound : AsksWithoutBound
asks_without_bound words o ask is two none =
    subst (λ (given : Option Ask). IfSome given (λ a. a ≡ Full)) two (subst (λ (said : Option Order). IfSome said Unbounded) is (words_ask words none))
