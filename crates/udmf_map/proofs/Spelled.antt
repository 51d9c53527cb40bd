-- That the records that are read of a text are those of its blocks.
use Rattle.std.proofs.Common.{◌≡◌, ℕ, Bool, true, false, cond, List, [], ◌∷◌, ◌++◌, map, length, Option, Some, None, Result, Ok, Err, refl, sym, ap, ◌∙◌, subst}
use Rattle.std.specs.List.{flat_map}
use Rattle.std.specs.Prelude.{codes}
use Rattle.std.proofs.lemmas.List.{append_assoc, append-nil}
use Rattle.udmf_text.specs.Parts.{GivenBytes, Opens, Closes}
use Rattle.udmf_text.specs.Told.{PlacedPart, told_of_text}
use Rattle.udmf_text.specs.Grammar.{Assignment, Block as TextBlock, TextItem, Assigned, Blocked, at_token, gives, item_named, item_parts, IsText, IsTextTold}
use Rattle.udmf_text.proofs.Grammar.Reads.{tells_items}
use Rattle.udmf_map.specs.declared.blocks.Block.{Block}
use Rattle.udmf_map.specs.declared.blocks.Block.TheVariants as blocks
use Rattle.udmf_map.specs.declared.reading.Namespace.{Namespace}
use Rattle.udmf_map.specs.declared.faults.TextFault.{TextFault}
use Rattle.udmf_map.specs.declared.faults.TextFault.TheVariants as faults
use Rattle.udmf_map.specs.Values.{is_word}
use Rattle.udmf_map.specs.Blocks.{block_named, block_with}
use Rattle.udmf_map.specs.Reading.{Read, nothing_read, namespace_of, item_read, opens_read, outside_read, inside_read, gives_read, kept, closes_read, part_read, parts_read}
use Rattle.udmf_map.proofs.OnWay.{parts_go, parts_stop}
use Rattle.udmf_map.specs.Spelled.{given_of, block_after, block_of, vertices_in, lines_in, sides_in, sectors_behind, sectors_of, AreRecords, ReadsBlocks}

-- ---- one part

record Goes (total : ℕ) (r : Read) (p : PlacedPart) (ps : List PlacedPart) (fault : Option ℕ) (last : Read) : Type 0 where
  more : Read
  read : part_read r p.at p.part ≡ Ok more
  left : parts_read total more ps fault ≡ Ok last

goes : (total : ℕ) (r last : Read) (p : PlacedPart) (ps : List PlacedPart) (fault : Option ℕ) → parts_read total r (p ∷ ps) fault ≡ Ok last → Goes total r p ps fault last
goes total r last p ps fault e = by_part (part_read r p.at p.part) refl
  where
    by_part : (x : Result Read TextFault) → part_read r p.at p.part ≡ x → Goes total r p ps fault last
    by_part (Ok more) h = record { more = more; read = h; left = sym (parts_go total r more p ps fault h) ∙ e }
    by_part (Err f) h = let stop = parts_stop total r f p ps fault h in absurd cc

-- a text that is read has no fault
no_fault : (total : ℕ) (r last : Read) (ps : List PlacedPart) (at : ℕ) → parts_read total r ps (Some at) ≡ Ok last → ⊥
no_fault total r last [] at e = absurd cc
no_fault total r last (p ∷ ps) at e = let g = goes total r last p ps (Some at) e in no_fault total g.more last ps at g.left

-- ---- what parts change

-- the same records, and this block open
record Same (r : Read) (b : Option Block) (more : Read) : Type 0 where
  vertices : more.vertices ≡ r.vertices
  lines : more.lines ≡ r.lines
  sides : more.sides ≡ r.sides
  sectors : more.sectors ≡ r.sectors
  block : more.block ≡ b

item_same : (w b : Bool) (r more : Read) (f g : TextFault) → cond w (cond b (Err f) (Ok (record r { begun = true }))) (cond b (Ok (record r { begun = true })) (Err g)) ≡ Ok more → Same r r.block more
item_same true true r more f g e = absurd cc
item_same true false r more f g e = let s : record r { begun = true } ≡ more = cc in subst (Same r r.block) s (record { vertices = refl; lines = refl; sides = refl; sectors = refl; block = refl })
item_same false true r more f g e = let s : record r { begun = true } ≡ more = cc in subst (Same r r.block) s (record { vertices = refl; lines = refl; sides = refl; sectors = refl; block = refl })
item_same false false r more f g e = absurd cc

opens_same : (w : Bool) (r more : Read) (f : TextFault) (b : Block) → cond w (Err f) (Ok (record r { block = Some b })) ≡ Ok more → Same r (Some b) more
opens_same true r more f b e = absurd cc
opens_same false r more f b e = let s : record r { block = Some b } ≡ more = cc in subst (Same r (Some b)) s (record { vertices = refl; lines = refl; sides = refl; sectors = refl; block = refl })

name_read : (r more : Read) (at : ℕ) (name : List ℕ) → item_read r at name ≡ Ok more → Same r r.block more
name_read r more at name e = item_same (is_word name (codes "namespace")) r.begun r more (faults.Namespace at) (faults.Namespace at) e

brace_read : (r more : Read) (at : ℕ) (name : List ℕ) → opens_read r at name ≡ Ok more → Same r (Some (block_named name)) more
brace_read r more at name e = opens_same (is_word name (codes "namespace")) r more (faults.Text at) (block_named name) e

-- a value outside of blocks changes no record
outside_other : (r : Read) (at : ℕ) (g : GivenBytes) → is_word g.key (codes "namespace") ≡ false → outside_read r at g ≡ Ok r
outside_other r at g w = rw (w, outside_read) refl

outside_word : (r : Read) (at : ℕ) (g : GivenBytes) → is_word g.key (codes "namespace") ≡ true → g.quoted ≡ false → outside_read r at g ≡ Err (faults.Value at)
outside_word r at g w q = rw (w, q, outside_read) refl

outside_known : (r : Read) (at : ℕ) (g : GivenBytes) (n : Namespace) → is_word g.key (codes "namespace") ≡ true → g.quoted ≡ true → namespace_of g.value ≡ Some n → outside_read r at g ≡ Ok (record r { namespace = Some n })
outside_known r at g n w q h = rw (w, q, h, outside_read) refl

outside_unknown : (r : Read) (at : ℕ) (g : GivenBytes) → is_word g.key (codes "namespace") ≡ true → g.quoted ≡ true → namespace_of g.value ≡ None → outside_read r at g ≡ Err (faults.Namespace at)
outside_unknown r at g w q h = rw (w, q, h, outside_read) refl

value_read : (r more : Read) (at : ℕ) (g : GivenBytes) → outside_read r at g ≡ Ok more → Same r r.block more
value_read r more at g e = by_word (is_word g.key (codes "namespace")) refl g.quoted refl (namespace_of g.value) refl
  where
    by_word : (w : Bool) → is_word g.key (codes "namespace") ≡ w → (q : Bool) → g.quoted ≡ q → (n : Option Namespace) → namespace_of g.value ≡ n → Same r r.block more
    by_word false w q i n h =
        let told = outside_other r at g w in
        let s : r ≡ more = cc in
        subst (Same r r.block) s (record { vertices = refl; lines = refl; sides = refl; sectors = refl; block = refl })
    by_word true w false i n h = let told = outside_word r at g w i in absurd cc
    by_word true w true i None h = let told = outside_unknown r at g w i h in absurd cc
    by_word true w true i (Some n) h =
        let told = outside_known r at g n w i h in
        let s : record r { namespace = Some n } ≡ more = cc in
        subst (Same r r.block) s (record { vertices = refl; lines = refl; sides = refl; sectors = refl; block = refl })

gives_in : (r : Read) (b : Block) (at : ℕ) (g : GivenBytes) → r.block ≡ Some b → gives_read r at g ≡ inside_read r b at g
gives_in r b at g h = rw (h, gives_read) refl

gives_out : (r : Read) (at : ℕ) (g : GivenBytes) → r.block ≡ None → gives_read r at g ≡ outside_read r at g
gives_out r at g h = ap (λ (x : Option Block). elim x as (λ _. Result Read TextFault) [ Some b ↦ inside_read r b at g | None ↦ outside_read r at g ]) h

inside_some : (r : Read) (b next : Block) (at : ℕ) (g : GivenBytes) → block_with b g ≡ Some next → inside_read r b at g ≡ Ok (record r { block = Some next })
inside_some r b next at g h = rw (h, inside_read) refl

inside_none : (r : Read) (b : Block) (at : ℕ) (g : GivenBytes) → block_with b g ≡ None → inside_read r b at g ≡ Err (faults.Value at)
inside_none r b at g h = rw (h, inside_read) refl

record Told (r : Read) (b : Block) (g : GivenBytes) (more : Read) : Type 0 where
  next : Block
  told : block_with b g ≡ Some next
  same : Same r (Some next) more

pair_read : (r more : Read) (b : Block) (at : ℕ) (g : GivenBytes) → inside_read r b at g ≡ Ok more → Told r b g more
pair_read r more b at g e = by_with (block_with b g) refl
  where
    by_with : (x : Option Block) → block_with b g ≡ x → Told r b g more
    by_with None h = let told = inside_none r b at g h in absurd cc
    by_with (Some next) h =
        let some = inside_some r b next at g h in
        let s : record r { block = Some next } ≡ more = cc in
        record { next = next; told = h; same = subst (Same r (Some next)) s (record { vertices = refl; lines = refl; sides = refl; sectors = refl; block = refl }) }

then_same : (r mid more : Read) (a b : Option Block) → Same r a mid → Same mid b more → Same r b more
then_same r mid more a b s t = record { vertices = t.vertices ∙ s.vertices; lines = t.lines ∙ s.lines; sides = t.sides ∙ s.sides; sectors = t.sectors ∙ s.sectors; block = t.block }

-- ---- a block

after_is : (b next : Block) (a : Assignment) (pairs : List Assignment) → block_with b (given_of a) ≡ Some next → block_after b (a ∷ pairs) ≡ block_after next pairs
after_is b next a pairs h = rw h refl

record PairsGo (total : ℕ) (r : Read) (b : Block) (pairs : List Assignment) (more : List PlacedPart) (fault : Option ℕ) (last : Read) : Type 0 where
  next : Block
  told : block_after b pairs ≡ Some next
  mid : Read
  same : Same r (Some next) mid
  left : parts_read total mid more fault ≡ Ok last

pairs_go : (total : ℕ) (r last : Read) (b : Block) (more : List PlacedPart) (fault : Option ℕ) (pairs : List Assignment) → r.block ≡ Some b → parts_read total r (map (gives total) pairs ++ more) fault ≡ Ok last → PairsGo total r b pairs more fault last
pairs_go total r last b more fault [] h e = record { next = b; told = refl; mid = r; same = record { vertices = refl; lines = refl; sides = refl; sectors = refl; block = h }; left = e }
pairs_go total r last b more fault (a ∷ pairs) h e =
    let g = goes total r last (gives total a) (map (gives total) pairs ++ more) fault e in
    let i = pair_read r g.more b (gives total a).at (given_of a) (sym (gives_in r b (gives total a).at (given_of a) h) ∙ g.read) in
    let o = pairs_go total g.more last i.next more fault pairs i.same.block g.left in
    record { next = o.next; told = after_is b i.next a pairs i.told ∙ o.told; mid = o.mid; same = then_same r g.more o.mid (Some i.next) (Some o.next) i.same o.same; left = o.left }

-- a record more of what an item tells
record Adds (r : Read) (block : Option Block) (more : Read) : Type 0 where
  vertices : more.vertices ≡ r.vertices ++ vertices_in block
  lines : more.lines ≡ r.lines ++ lines_in block
  sides : more.sides ≡ r.sides ++ sides_in block
  sectors : more.sectors ≡ sectors_behind r.sectors block
  closed : more.block ≡ None

closes_is : (r : Read) (b : Option Block) → r.block ≡ b → closes_read r ≡ record (kept r b) { block = None }
closes_is r b h = rw h refl

none_added : {X : Type 0} (xs : List X) → xs ≡ xs ++ []
none_added xs = sym (append-nil xs)

closes_adds : (r : Read) (b : Block) → Adds r (Some b) (record (kept r (Some b)) { block = None })
closes_adds r (blocks.Vertex v) = record { vertices = refl; lines = none_added r.lines; sides = none_added r.sides; sectors = refl; closed = refl }
closes_adds r (blocks.Linedef l) = record { vertices = none_added r.vertices; lines = refl; sides = none_added r.sides; sectors = refl; closed = refl }
closes_adds r (blocks.Sidedef s) = record { vertices = none_added r.vertices; lines = none_added r.lines; sides = refl; sectors = refl; closed = refl }
closes_adds r blocks.Sector = record { vertices = none_added r.vertices; lines = none_added r.lines; sides = none_added r.sides; sectors = refl; closed = refl }
closes_adds r blocks.Other = record { vertices = none_added r.vertices; lines = none_added r.lines; sides = none_added r.sides; sectors = refl; closed = refl }

adds_same : (r mid more : Read) (a b : Option Block) → Same r a mid → Adds mid b more → Adds r b more
adds_same r mid more a b s t = record {
  vertices = t.vertices ∙ ap (λ xs. xs ++ vertices_in b) s.vertices;
  lines = t.lines ∙ ap (λ xs. xs ++ lines_in b) s.lines;
  sides = t.sides ∙ ap (λ xs. xs ++ sides_in b) s.sides;
  sectors = t.sectors ∙ ap (λ n. sectors_behind n b) s.sectors;
  closed = t.closed;
}

record ItemGo (total : ℕ) (r : Read) (item : TextItem) (ps : List PlacedPart) (fault : Option ℕ) (last : Read) : Type 0 where
  mid : Read
  adds : Adds r (block_of item) mid
  left : parts_read total mid ps fault ≡ Ok last

ok_is : (r : Result Read TextFault) (x y : Read) → r ≡ Ok x → r ≡ Ok y → x ≡ y
ok_is r x y d e = cc

block_go : (total : ℕ) (r last : Read) (b : TextBlock) (ps : List PlacedPart) (fault : Option ℕ) → parts_read total r (item_parts total (Blocked b) ++ ps) fault ≡ Ok last → ItemGo total r (Blocked b) ps fault last
block_go total r last b ps fault e =
    let opens = at_token total b.open_brace (Opens b.name.token.bytes) in
    let closes = at_token total b.close_brace Closes in
    let tail : List PlacedPart = (map (gives total) b.pairs ++ closes ∷ []) ++ ps in
    let n = goes total r last (item_named total b.name) (opens ∷ tail) fault e in
    let s = name_read r n.more (item_named total b.name).at b.name.token.bytes n.read in
    let o = goes total n.more last opens tail fault n.left in
    let t = brace_read n.more o.more opens.at b.name.token.bytes o.read in
    let cut = append_assoc (map (gives total) b.pairs) (closes ∷ []) ps in
    let p = pairs_go total o.more last (block_named b.name.token.bytes) (closes ∷ ps) fault b.pairs t.block (ap (λ xs. parts_read total o.more xs fault) (sym cut) ∙ o.left) in
    let c = goes total p.mid last closes ps fault p.left in
    let end : record (kept p.mid (Some p.next)) { block = None } ≡ c.more = sym (closes_is p.mid (Some p.next) p.same.block) ∙ ok_is (part_read p.mid closes.at Closes) (closes_read p.mid) c.more refl c.read in
    let adds : Adds p.mid (Some p.next) c.more = subst (Adds p.mid (Some p.next)) end (closes_adds p.mid p.next) in
    let all : Adds r (Some p.next) c.more = adds_same r p.mid c.more (Some p.next) (Some p.next) (then_same r o.more p.mid (Some (block_named b.name.token.bytes)) (Some p.next) (then_same r n.more o.more r.block (Some (block_named b.name.token.bytes)) s t) p.same) adds in
    record { mid = c.more; adds = subst (λ x. Adds r x c.more) (sym p.told) all; left = c.left }

assigned_go : (total : ℕ) (r last : Read) (a : Assignment) (ps : List PlacedPart) (fault : Option ℕ) → r.block ≡ None → parts_read total r (item_parts total (Assigned a) ++ ps) fault ≡ Ok last → ItemGo total r (Assigned a) ps fault last
assigned_go total r last a ps fault h e =
    let n = goes total r last (item_named total a.name) (gives total a ∷ ps) fault e in
    let s = name_read r n.more (item_named total a.name).at a.name.token.bytes n.read in
    let v = goes total n.more last (gives total a) ps fault n.left in
    let t = value_read n.more v.more (gives total a).at (given_of a) (sym (gives_out n.more (gives total a).at (given_of a) (s.block ∙ h)) ∙ v.read) in
    let u = then_same r n.more v.more r.block n.more.block s t in
    record {
      mid = v.more;
      adds = record { vertices = u.vertices ∙ none_added r.vertices; lines = u.lines ∙ none_added r.lines; sides = u.sides ∙ none_added r.sides; sectors = u.sectors; closed = t.block ∙ (s.block ∙ h) };
      left = v.left;
    }

item_go : (total : ℕ) (r last : Read) (item : TextItem) (ps : List PlacedPart) (fault : Option ℕ) → r.block ≡ None → parts_read total r (item_parts total item ++ ps) fault ≡ Ok last → ItemGo total r item ps fault last
item_go total r last (Assigned a) ps fault h e = assigned_go total r last a ps fault h e
item_go total r last (Blocked b) ps fault h e = block_go total r last b ps fault e

-- ---- all items

record AddsAll (r : Read) (items : List TextItem) (last : Read) : Type 0 where
  vertices : last.vertices ≡ r.vertices ++ flat_map (λ i. vertices_in (block_of i)) items
  lines : last.lines ≡ r.lines ++ flat_map (λ i. lines_in (block_of i)) items
  sides : last.sides ≡ r.sides ++ flat_map (λ i. sides_in (block_of i)) items
  sectors : last.sectors ≡ sectors_of r.sectors items

end_is : (total : ℕ) (b : Bool) (r last : Read) → cond b (Ok r) (Err (faults.Namespace total)) ≡ Ok last → r ≡ last
end_is total true r last e = cc
end_is total false r last e = absurd cc

all_go : (total : ℕ) (items : List TextItem) (r last : Read) → r.block ≡ None → parts_read total r (flat_map (item_parts total) items) None ≡ Ok last → AddsAll r items last
all_go total [] r last h e =
    let s = end_is total r.begun r last e in
    subst (AddsAll r []) s (record { vertices = none_added r.vertices; lines = none_added r.lines; sides = none_added r.sides; sectors = refl })
all_go total (item ∷ items) r last h e =
    let i = item_go total r last item (flat_map (item_parts total) items) None h e in
    let a = i.adds in
    let o = all_go total items i.mid last a.closed i.left in
    record {
      vertices = o.vertices ∙ (ap (λ xs. xs ++ flat_map (λ j. vertices_in (block_of j)) items) a.vertices ∙ append_assoc r.vertices (vertices_in (block_of item)) (flat_map (λ j. vertices_in (block_of j)) items));
      lines = o.lines ∙ (ap (λ xs. xs ++ flat_map (λ j. lines_in (block_of j)) items) a.lines ∙ append_assoc r.lines (lines_in (block_of item)) (flat_map (λ j. lines_in (block_of j)) items));
      sides = o.sides ∙ (ap (λ xs. xs ++ flat_map (λ j. sides_in (block_of j)) items) a.sides ∙ append_assoc r.sides (sides_in (block_of item)) (flat_map (λ j. sides_in (block_of j)) items));
      sectors = o.sectors ∙ ap (λ n. sectors_of n items) a.sectors;
    }

pub reads_blocks : ReadsBlocks
reads_blocks text r e = by_fault (told_of_text text).fault refl (tells_items text)
  where
    by_fault : (fault : Option ℕ) → (told_of_text text).fault ≡ fault → IsTextTold text (told_of_text text).parts (told_of_text text).fault → (t : IsText text (told_of_text text).parts) × AreRecords t.items r
    by_fault (Some at) h told = absurd (no_fault (length text) nothing_read r (told_of_text text).parts at (ap (λ f. parts_read (length text) nothing_read (told_of_text text).parts f) (sym h) ∙ e))
    by_fault None h told =
        let t : IsText text (told_of_text text).parts = subst (IsTextTold text (told_of_text text).parts) h told in
        let read : parts_read (length text) nothing_read (flat_map (item_parts (length text)) t.items) None ≡ Ok r = sym (ap (λ ps. parts_read (length text) nothing_read ps None) t.made) ∙ (ap (λ f. parts_read (length text) nothing_read (told_of_text text).parts f) (sym h) ∙ e) in
        let a = all_go (length text) t.items nothing_read r refl read in
        (t, record { vertices = a.vertices; lines = a.lines; sides = a.sides; sectors = a.sectors })
