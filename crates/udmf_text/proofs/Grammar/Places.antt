-- What may come at each place in a text, token by token.
use Rattle.std.proofs.Common.{◌≡◌, ◌⊎◌, inl, inr, ℕ, List, [], ◌∷◌, ◌++◌, map, refl, sym, ap, ◌∙◌}
use Rattle.std.specs.List.{flat_map, AllByRecursion}
use Rattle.std.proofs.lemmas.List.{append_assoc}
use Rattle.udmf_text.specs.declared.text_tokens.token.Kind.TheVariants.{Open, Close, Is, End, Quoted}
use Rattle.udmf_text.specs.TextTokens.Text.{PlacedParts}
use Rattle.udmf_text.specs.Parts.{is_kind, Opens, Gives, Closes, StageBytes, Outside, Behind, Valued, Inside, ValuedInside}
use Rattle.udmf_text.specs.Told.{PlacedPart}
use Rattle.udmf_text.specs.Grammar.{IsMark, IsName, IsValue, Assignment, IsAssignment, Block, TextItem, Assigned, Blocked, IsItem, assignment_tokens, item_tokens, AreItems, at_token, gives, item_named, item_parts}
use Rattle.udmf_text.proofs.Grammar.Explained.{ToCome}

-- a token that passes a test, and behind it what may come behind this token; the parts that it makes stand in front
pub record Then (test : PlacedParts → Type 0) (made : PlacedParts → List PlacedPart) (X : PlacedParts → ToCome) (ts : List PlacedParts) (ps : List PlacedPart) : Type 0 where
  pub first : PlacedParts
  pub passes : test first
  pub more : List PlacedParts
  pub others : List PlacedPart
  pub spelled : ts ≡ first ∷ more
  pub parts : ps ≡ made first ++ others
  pub behind : X first more others

abbrev pub silent : PlacedParts → List PlacedPart
silent t = []

-- ---- the places

-- items up to the end
pub record Items (total : ℕ) (ts : List PlacedParts) (ps : List PlacedPart) : Type 0 where
  pub items : List TextItem
  pub are : AreItems ts items
  pub parts : ps ≡ flat_map (item_parts total) items

-- assignments and the brace that closes their block, and then items
pub record Pairs (total : ℕ) (ts : List PlacedParts) (ps : List PlacedPart) : Type 0 where
  pub pairs : List Assignment
  pub each : AllByRecursion IsAssignment pairs
  pub close_brace : PlacedParts
  pub mark : IsMark Close close_brace
  pub more : List PlacedParts
  pub others : List PlacedPart
  pub spelled : ts ≡ flat_map assignment_tokens pairs ++ close_brace ∷ more
  pub parts : ps ≡ map (gives total) pairs ++ at_token total close_brace Closes ∷ others
  pub behind : Items total more others

abbrev pub Ended : ToCome → ToCome
Ended X = Then (IsMark End) silent (λ _. X)

abbrev pub given_at : ℕ → List ℕ → PlacedParts → List PlacedPart
given_at total key v = at_token total v (Gives (record { key = key; quoted = is_kind v.token.kind Quoted; value = v.token.bytes })) ∷ []

abbrev pub Value : ℕ → List ℕ → ToCome → ToCome
Value total key X = Then IsValue (given_at total key) (λ _. Ended X)

abbrev pub Equals : ℕ → List ℕ → ToCome → ToCome
Equals total key X = Then (IsMark Is) silent (λ _. Value total key X)

abbrev pub opened_at : ℕ → List ℕ → PlacedParts → List PlacedPart
opened_at total name t = at_token total t (Opens name) ∷ []

abbrev pub OpensBlock : ℕ → List ℕ → ToCome
OpensBlock total name = Then (IsMark Open) (opened_at total name) (λ _. Pairs total)

abbrev pub Named : ℕ → List ℕ → List PlacedParts → List PlacedPart → Type 0
Named total name ts ps = OpensBlock total name ts ps ⊎ Equals total name (Items total) ts ps

abbrev pub closed_at : ℕ → PlacedParts → List PlacedPart
closed_at total t = at_token total t Closes ∷ []

abbrev pub ClosesBlock : ℕ → ToCome
ClosesBlock total = Then (IsMark Close) (closed_at total) (λ _. Items total)

abbrev pub Keyed : ℕ → ToCome
Keyed total = Then IsName silent (λ t. Equals total t.token.bytes (Pairs total))

abbrev pub InBlock : ℕ → List PlacedParts → List PlacedPart → Type 0
InBlock total ts ps = ClosesBlock total ts ps ⊎ Keyed total ts ps

abbrev pub name_at : ℕ → PlacedParts → List PlacedPart
name_at total t = item_named total t ∷ []

abbrev pub NamesItem : ℕ → ToCome
NamesItem total = Then IsName (name_at total) (λ t. Named total t.token.bytes)

abbrev pub Nothing : List PlacedParts → List PlacedPart → Type 0
Nothing ts ps = (ts ≡ []) × (ps ≡ [])

abbrev pub OutOfBlock : ℕ → List PlacedParts → List PlacedPart → Type 0
OutOfBlock total ts ps = Nothing ts ps ⊎ NamesItem total ts ps

-- what may come at each stage
abbrev pub place_of : ℕ → StageBytes → ToCome
place_of total Outside = Items total
place_of total (Behind name) = Named total name
place_of total Valued = Ended (Items total)
place_of total Inside = Pairs total
place_of total ValuedInside = Ended (Pairs total)

-- ---- items by their first token

pub items_out : (total : ℕ) (ts : List PlacedParts) (ps : List PlacedPart) → Items total ts ps → OutOfBlock total ts ps
items_out total ts ps i = by_items i.items i.are.each i.are.spelled i.parts
  where
    by_items : (items : List TextItem) → AllByRecursion IsItem items → ts ≡ flat_map item_tokens items → ps ≡ flat_map (item_parts total) items → OutOfBlock total ts ps
    by_items [] each spelled parts = inl (spelled, parts)
    by_items (Assigned a ∷ items) each spelled parts =
        let more : Items total (flat_map item_tokens items) (flat_map (item_parts total) items) = record { items = items; are = record { each = each.1; spelled = refl }; parts = refl } in
        let end : Ended (Items total) (a.end ∷ flat_map item_tokens items) (flat_map (item_parts total) items) = record { first = a.end; passes = each.0.end; more = flat_map item_tokens items; others = flat_map (item_parts total) items; spelled = refl; parts = refl; behind = more } in
        let value : Value total a.name.token.bytes (Items total) (a.value ∷ a.end ∷ flat_map item_tokens items) (gives total a ∷ flat_map (item_parts total) items) = record { first = a.value; passes = each.0.value; more = a.end ∷ flat_map item_tokens items; others = flat_map (item_parts total) items; spelled = refl; parts = refl; behind = end } in
        let equals : Equals total a.name.token.bytes (Items total) (a.equals ∷ a.value ∷ a.end ∷ flat_map item_tokens items) (gives total a ∷ flat_map (item_parts total) items) = record { first = a.equals; passes = each.0.equals; more = a.value ∷ a.end ∷ flat_map item_tokens items; others = gives total a ∷ flat_map (item_parts total) items; spelled = refl; parts = refl; behind = value } in
        inr (record { first = a.name; passes = each.0.name; more = a.equals ∷ a.value ∷ a.end ∷ flat_map item_tokens items; others = gives total a ∷ flat_map (item_parts total) items; spelled = spelled; parts = parts; behind = inr equals })
    by_items (Blocked b ∷ items) each spelled parts =
        let more : Items total (flat_map item_tokens items) (flat_map (item_parts total) items) = record { items = items; are = record { each = each.1; spelled = refl }; parts = refl } in
        let inner : List PlacedParts = flat_map assignment_tokens b.pairs ++ b.close_brace ∷ flat_map item_tokens items in
        let inner_parts : List PlacedPart = map (gives total) b.pairs ++ at_token total b.close_brace Closes ∷ flat_map (item_parts total) items in
        let pairs : Pairs total inner inner_parts = record { pairs = b.pairs; each = each.0.pairs; close_brace = b.close_brace; mark = each.0.close_brace; more = flat_map item_tokens items; others = flat_map (item_parts total) items; spelled = refl; parts = refl; behind = more } in
        let opens : OpensBlock total b.name.token.bytes (b.open_brace ∷ inner) (at_token total b.open_brace (Opens b.name.token.bytes) ∷ inner_parts) = record { first = b.open_brace; passes = each.0.open_brace; more = inner; others = inner_parts; spelled = refl; parts = refl; behind = pairs } in
        let cut = append_assoc (flat_map assignment_tokens b.pairs) (b.close_brace ∷ []) (flat_map item_tokens items) in
        let cut_parts = append_assoc (map (gives total) b.pairs) (at_token total b.close_brace Closes ∷ []) (flat_map (item_parts total) items) in
        inr (record { first = b.name; passes = each.0.name; more = b.open_brace ∷ inner; others = at_token total b.open_brace (Opens b.name.token.bytes) ∷ inner_parts; spelled = spelled ∙ ap (λ xs. b.name ∷ b.open_brace ∷ xs) cut; parts = parts ∙ ap (λ xs. item_named total b.name ∷ at_token total b.open_brace (Opens b.name.token.bytes) ∷ xs) cut_parts; behind = inl opens })

-- an item in front of items
put_item : (total : ℕ) (item : TextItem) (ts more : List PlacedParts) (ps others : List PlacedPart) → IsItem item → ts ≡ item_tokens item ++ more → ps ≡ item_parts total item ++ others → Items total more others → Items total ts ps
put_item total item ts more ps others is spelled parts i = record {
  items = item ∷ i.items;
  are = record { each = (is, i.are.each); spelled = spelled ∙ ap (λ xs. item_tokens item ++ xs) i.are.spelled };
  parts = parts ∙ ap (λ xs. item_parts total item ++ xs) i.parts;
}

pub items_in : (total : ℕ) (ts : List PlacedParts) (ps : List PlacedPart) → OutOfBlock total ts ps → Items total ts ps
items_in total ts ps (inl n) = record { items = []; are = record { each = tt; spelled = n.0 }; parts = n.1 }
items_in total ts ps (inr n) = by_behind n.behind
  where
    by_behind : Named total n.first.token.bytes n.more n.others → Items total ts ps
    by_behind (inl o) =
        let p = o.behind in
        let b : Block = record { name = n.first; open_brace = o.first; pairs = p.pairs; close_brace = p.close_brace } in
        let cut = append_assoc (flat_map assignment_tokens p.pairs) (p.close_brace ∷ []) p.more in
        let cut_parts = append_assoc (map (gives total) p.pairs) (at_token total p.close_brace Closes ∷ []) p.others in
        let spelled : ts ≡ item_tokens (Blocked b) ++ p.more = n.spelled ∙ ap (λ xs. n.first ∷ xs) (o.spelled ∙ ap (λ xs. o.first ∷ xs) (p.spelled ∙ sym cut)) in
        let parts : ps ≡ item_parts total (Blocked b) ++ p.others = n.parts ∙ ap (λ xs. item_named total n.first ∷ xs) (o.parts ∙ ap (λ xs. at_token total o.first (Opens n.first.token.bytes) ∷ xs) (p.parts ∙ sym cut_parts)) in
        put_item total (Blocked b) ts p.more ps p.others (record { name = n.passes; open_brace = o.passes; pairs = p.each; close_brace = p.mark }) spelled parts p.behind
    by_behind (inr e) =
        let v = e.behind in
        let s = v.behind in
        let a : Assignment = record { name = n.first; equals = e.first; value = v.first; end = s.first } in
        let spelled : ts ≡ item_tokens (Assigned a) ++ s.more = n.spelled ∙ ap (λ xs. n.first ∷ xs) (e.spelled ∙ ap (λ xs. e.first ∷ xs) (v.spelled ∙ ap (λ xs. v.first ∷ xs) s.spelled)) in
        let parts : ps ≡ item_parts total (Assigned a) ++ s.others = n.parts ∙ ap (λ xs. item_named total n.first ∷ xs) (e.parts ∙ (v.parts ∙ ap (λ xs. gives total a ∷ xs) s.parts)) in
        put_item total (Assigned a) ts s.more ps s.others (record { name = n.passes; equals = e.passes; value = v.passes; end = s.passes }) spelled parts s.behind

-- ---- the inside of a block by its first token

pub pairs_out : (total : ℕ) (ts : List PlacedParts) (ps : List PlacedPart) → Pairs total ts ps → InBlock total ts ps
pairs_out total ts ps p = by_pairs p.pairs p.each p.spelled p.parts
  where
    by_pairs : (pairs : List Assignment) → AllByRecursion IsAssignment pairs → ts ≡ flat_map assignment_tokens pairs ++ p.close_brace ∷ p.more → ps ≡ map (gives total) pairs ++ at_token total p.close_brace Closes ∷ p.others → InBlock total ts ps
    by_pairs [] each spelled parts = inl (record { first = p.close_brace; passes = p.mark; more = p.more; others = p.others; spelled = spelled; parts = parts; behind = p.behind })
    by_pairs (a ∷ pairs) each spelled parts =
        let left : List PlacedParts = flat_map assignment_tokens pairs ++ p.close_brace ∷ p.more in
        let left_parts : List PlacedPart = map (gives total) pairs ++ at_token total p.close_brace Closes ∷ p.others in
        let more : Pairs total left left_parts = record { pairs = pairs; each = each.1; close_brace = p.close_brace; mark = p.mark; more = p.more; others = p.others; spelled = refl; parts = refl; behind = p.behind } in
        let end : Ended (Pairs total) (a.end ∷ left) left_parts = record { first = a.end; passes = each.0.end; more = left; others = left_parts; spelled = refl; parts = refl; behind = more } in
        let value : Value total a.name.token.bytes (Pairs total) (a.value ∷ a.end ∷ left) (gives total a ∷ left_parts) = record { first = a.value; passes = each.0.value; more = a.end ∷ left; others = left_parts; spelled = refl; parts = refl; behind = end } in
        let equals : Equals total a.name.token.bytes (Pairs total) (a.equals ∷ a.value ∷ a.end ∷ left) (gives total a ∷ left_parts) = record { first = a.equals; passes = each.0.equals; more = a.value ∷ a.end ∷ left; others = gives total a ∷ left_parts; spelled = refl; parts = refl; behind = value } in
        inr (record { first = a.name; passes = each.0.name; more = a.equals ∷ a.value ∷ a.end ∷ left; others = gives total a ∷ left_parts; spelled = spelled; parts = parts; behind = equals })

pub pairs_in : (total : ℕ) (ts : List PlacedParts) (ps : List PlacedPart) → InBlock total ts ps → Pairs total ts ps
pairs_in total ts ps (inl c) = record { pairs = []; each = tt; close_brace = c.first; mark = c.passes; more = c.more; others = c.others; spelled = c.spelled; parts = c.parts; behind = c.behind }
pairs_in total ts ps (inr n) =
    let e = n.behind in
    let v = e.behind in
    let s = v.behind in
    let p = s.behind in
    let a : Assignment = record { name = n.first; equals = e.first; value = v.first; end = s.first } in
    record {
      pairs = a ∷ p.pairs;
      each = (record { name = n.passes; equals = e.passes; value = v.passes; end = s.passes }, p.each);
      close_brace = p.close_brace;
      mark = p.mark;
      more = p.more;
      others = p.others;
      spelled = n.spelled ∙ ap (λ xs. n.first ∷ xs) (e.spelled ∙ ap (λ xs. e.first ∷ xs) (v.spelled ∙ ap (λ xs. v.first ∷ xs) (s.spelled ∙ ap (λ xs. s.first ∷ xs) p.spelled)));
      parts = n.parts ∙ (e.parts ∙ (v.parts ∙ ap (λ xs. gives total a ∷ xs) (s.parts ∙ p.parts)));
      behind = p.behind;
    }
