-- What stands under each name after a change of one file of the list.
use Rattle.std.proofs.Common.{◌≡◌, ℕ, suc, Bool, true, false, cond, List, [], ◌∷◌, ◌++◌, get_or, Option, Some, None, refl, sym, ap, subst, ◌∙◌, Vec, string_bytes}
use Rattle.std.proofs.Math.ListN.{set}
use Rattle.std.proofs.Math.Path.{fun_ext}
use Rattle.std.proofs.lemmas.Option.{same_Some}
use Rattle.std.proofs.lemmas.Slice.Eq.{bytes_eq-Decides}
use Rattle.std.specs.declared.alloc.Global.{Global}
use Rattle.std.specs.Option.{option_map, unwrap_or}
use Rattle.std.specs.Str.{bytes_eq}
use Rattle.shelf_io.specs.declared.memory.File.{File}
use Rattle.shelf_io.specs.Shelf.{Files, put, append_to, bytes_under}
use Rattle.shelf_io.specs.Fakes.{files_of, place_in_files}

same_eq : (a b r : List ℕ) → a ≡ b → bytes_eq a r ≡ bytes_eq b r
same_eq a b r e = ap (λ (n : List ℕ). bytes_eq n r) e

name_is : (a b : List ℕ) → bytes_eq a b ≡ true → a ≡ b
name_is a b e = (bytes_eq-Decides a b).0 e

first : {X : Type 0} (a b d : Bool) (x y z : X) → a ≡ b → d ≡ b → cond a x z ≡ cond b x (cond d y z)
first a true d x y z p q = rw p refl
first a false d x y z p q = rw (p, q) refl

later : {X : Type 0} (a b : Bool) (x y z : X) → (a ≡ true → b ≡ true → ⊥) → cond b y (cond a x z) ≡ cond a x (cond b y z)
later true true x y z never = absurd (never refl refl)
later true false x y z never = refl
later false true x y z never = refl
later false false x y z never = refl

-- the rest of the list, at a place behind the first
behind : (o : Option ℕ) (i : ℕ) → option_map suc o ≡ Some i → (j : ℕ) × (i ≡ suc j) × (o ≡ Some j)
behind None i e = absurd cc
behind (Some j) i e = (j, sym (same_Some (suc j) i e), refl)

abbrev with_bytes : File → Vec ℕ Global → File
with_bytes file bytes = record { name = file.name; bytes = bytes }

place_step : (f : File) (fs : List File) (q : List ℕ) (i : ℕ) (t : Bool) → bytes_eq (string_bytes f.name) q ≡ t → place_in_files (f ∷ fs) q ≡ Some i → cond t (Some 0) (option_map suc (place_in_files fs q)) ≡ Some i
place_step f fs q i t e p = rw (← e) p

pub found_at : (fs : List File) (q : List ℕ) (i : ℕ) (d : File) → place_in_files fs q ≡ Some i → files_of fs q ≡ Some (get_or fs i d).bytes.items
found_at [] q i d p = absurd cc
found_at (f ∷ fs) q i d p =
    elim (bytes_eq (string_bytes f.name) q) as (λ t. bytes_eq (string_bytes f.name) q ≡ t → cond t (Some f.bytes.items) (files_of fs q) ≡ Some (get_or (f ∷ fs) i d).bytes.items) [
      | true ↦ λ e. let z : 0 ≡ i = same_Some 0 i (place_step f fs q i true e p) in subst (λ (k : ℕ). Some f.bytes.items ≡ Some (get_or (f ∷ fs) k d).bytes.items) z refl
      | false ↦ λ e. let b = behind (place_in_files fs q) i (place_step f fs q i false e p) in rw b.1 (found_at fs q b.0 d b.2)
    ] refl

pub missing_at : (fs : List File) (q : List ℕ) → place_in_files fs q ≡ None → files_of fs q ≡ None
missing_at [] q p = refl
missing_at (f ∷ fs) q p =
    elim (bytes_eq (string_bytes f.name) q) as (λ t. cond t (Some 0) (option_map suc (place_in_files fs q)) ≡ None → cond t (Some f.bytes.items) (files_of fs q) ≡ None) [
      | true ↦ λ e. absurd cc
      | false ↦ λ e. missing_at fs q (elim (place_in_files fs q) as (λ o. option_map suc o ≡ None → o ≡ None) [ None ↦ λ _. refl | Some j ↦ λ h. absurd cc ] e)
    ] p

replaced_at : (fs : List File) (q : List ℕ) (i : ℕ) (d : File) (bytes : Vec ℕ Global) → place_in_files fs q ≡ Some i → (r : List ℕ) → files_of (set fs i (with_bytes (get_or fs i d) bytes)) r ≡ put (files_of fs) q bytes.items r
replaced_at [] q i d bytes p r = absurd cc
replaced_at (f ∷ fs) q i d bytes p r =
    elim (bytes_eq (string_bytes f.name) q) as (λ t. bytes_eq (string_bytes f.name) q ≡ t → files_of (set (f ∷ fs) i (with_bytes (get_or (f ∷ fs) i d) bytes)) r ≡ put (files_of (f ∷ fs)) q bytes.items r) [
      | true ↦ λ e.
          let z : 0 ≡ i = same_Some 0 i (place_step f fs q i true e p) in
          let same = same_eq (string_bytes f.name) q r (name_is (string_bytes f.name) q e) in
          subst (λ (k : ℕ). files_of (set (f ∷ fs) k (with_bytes (get_or (f ∷ fs) k d) bytes)) r ≡ put (files_of (f ∷ fs)) q bytes.items r) z
          (first (bytes_eq (string_bytes f.name) r) (bytes_eq q r) (bytes_eq (string_bytes f.name) r) (Some bytes.items) (Some f.bytes.items) (files_of fs r) same same)
      | false ↦ λ e.
          let b = behind (place_in_files fs q) i (place_step f fs q i false e p) in
          rw (b.1, replaced_at fs q b.0 d bytes b.2 r)
          (later (bytes_eq q r) (bytes_eq (string_bytes f.name) r) (Some bytes.items) (Some f.bytes.items) (files_of fs r)
          (λ x y. let n : string_bytes f.name ≡ q = name_is (string_bytes f.name) r y ∙ sym (name_is q r x) in let t : bytes_eq (string_bytes f.name) q ≡ true = (bytes_eq-Decides (string_bytes f.name) q).1 n in absurd cc))
    ] refl

pub replaced : (fs : List File) (q : List ℕ) (i : ℕ) (d : File) (bytes : Vec ℕ Global) → place_in_files fs q ≡ Some i → files_of (set fs i (with_bytes (get_or fs i d) bytes)) ≡ put (files_of fs) q bytes.items
replaced fs q i d bytes p = fun_ext (replaced_at fs q i d bytes p)

added_at : (fs : List File) (q : List ℕ) (g : File) → place_in_files fs q ≡ None → string_bytes g.name ≡ q → (r : List ℕ) → files_of (fs ++ g ∷ []) r ≡ put (files_of fs) q g.bytes.items r
added_at [] q g p n r = ap (λ (b : Bool). cond b (Some g.bytes.items) None) (same_eq (string_bytes g.name) q r n)
added_at (f ∷ fs) q g p n r =
    elim (bytes_eq (string_bytes f.name) q) as (λ t. bytes_eq (string_bytes f.name) q ≡ t → cond t (Some 0) (option_map suc (place_in_files fs q)) ≡ None → files_of ((f ∷ fs) ++ g ∷ []) r ≡ put (files_of (f ∷ fs)) q g.bytes.items r) [
      | true ↦ λ e h. absurd cc
      | false ↦ λ e h.
          let m : place_in_files fs q ≡ None = elim (place_in_files fs q) as (λ o. option_map suc o ≡ None → o ≡ None) [ None ↦ λ _. refl | Some j ↦ λ k. absurd cc ] h in
          rw (added_at fs q g m n r)
          (later (bytes_eq q r) (bytes_eq (string_bytes f.name) r) (Some g.bytes.items) (Some f.bytes.items) (files_of fs r)
          (λ x y. let k : string_bytes f.name ≡ q = name_is (string_bytes f.name) r y ∙ sym (name_is q r x) in let t : bytes_eq (string_bytes f.name) q ≡ true = (bytes_eq-Decides (string_bytes f.name) q).1 k in absurd cc))
    ] refl p

pub added : (fs : List File) (q : List ℕ) (g : File) → place_in_files fs q ≡ None → string_bytes g.name ≡ q → files_of (fs ++ g ∷ []) ≡ put (files_of fs) q g.bytes.items
added fs q g p n = fun_ext (added_at fs q g p n)

-- the file at the place of a name gets other bytes
pub put_at : (fs : List File) (q : List ℕ) (i : ℕ) (f : File) (bytes : Vec ℕ Global) (bs : List ℕ) → place_in_files fs q ≡ Some i → f ≡ get_or fs i f → bytes.items ≡ bs → files_of (set fs i (with_bytes f bytes)) ≡ put (files_of fs) q bs
put_at fs q i f bytes bs p e b = ap (λ (h : File). files_of (set fs i (with_bytes h bytes))) e ∙ replaced fs q i f bytes p ∙ ap (λ (w : List ℕ). put (files_of fs) q w) b

-- .. or more bytes
pub more_at : (fs : List File) (q : List ℕ) (i : ℕ) (f : File) (bytes : Vec ℕ Global) (more : List ℕ) → place_in_files fs q ≡ Some i → f ≡ get_or fs i f → bytes.items ≡ f.bytes.items ++ more → files_of (set fs i (with_bytes f bytes)) ≡ append_to (files_of fs) q more
more_at fs q i f bytes more p e b =
    let under : bytes_under (files_of fs) q ≡ f.bytes.items = ap (λ (o : Option (List ℕ)). unwrap_or o []) (found_at fs q i f p) ∙ ap (λ (h : File). h.bytes.items) (sym e) in
    put_at fs q i f bytes (f.bytes.items ++ more) p e b ∙ ap (λ (w : List ℕ). put (files_of fs) q (w ++ more)) (sym under)

put_same_at : (files : Files) (q b : List ℕ) → files q ≡ Some b → (r : List ℕ) → put files q b r ≡ files r
put_same_at files q b e r =
    elim (bytes_eq q r) as (λ t. bytes_eq q r ≡ t → cond t (Some b) (files r) ≡ files r) [
      | true ↦ λ h. sym e ∙ ap files (name_is q r h)
      | false ↦ λ h. refl
    ] refl

put_same : (files : Files) (q b : List ℕ) → files q ≡ Some b → put files q b ≡ files
put_same files q b e = fun_ext (put_same_at files q b e)

-- the file at the place of a name gets its own bytes again
pub same_at : (fs : List File) (q : List ℕ) (i : ℕ) (f : File) (bytes : Vec ℕ Global) → place_in_files fs q ≡ Some i → f ≡ get_or fs i f → bytes.items ≡ f.bytes.items → files_of (set fs i (with_bytes f bytes)) ≡ files_of fs
same_at fs q i f bytes p e b =
    put_at fs q i f bytes f.bytes.items p e b ∙ put_same (files_of fs) q f.bytes.items (found_at fs q i f p ∙ ap (λ (h : File). Some h.bytes.items) (sym e))

-- a new file with these bytes
pub put_new : (fs : List File) (q : List ℕ) (g : File) (bs : List ℕ) → place_in_files fs q ≡ None → string_bytes g.name ≡ q → g.bytes.items ≡ bs → files_of (fs ++ g ∷ []) ≡ put (files_of fs) q bs
put_new fs q g bs p n b = added fs q g p n ∙ ap (λ (w : List ℕ). put (files_of fs) q w) b

pub more_new : (fs : List File) (q : List ℕ) (g : File) (more : List ℕ) → place_in_files fs q ≡ None → string_bytes g.name ≡ q → g.bytes.items ≡ more → files_of (fs ++ g ∷ []) ≡ append_to (files_of fs) q more
more_new fs q g more p n b =
    let under : bytes_under (files_of fs) q ≡ [] = ap (λ (o : Option (List ℕ)). unwrap_or o []) (missing_at fs q p) in
    put_new fs q g more p n b ∙ ap (λ (w : List ℕ). put (files_of fs) q (w ++ more)) (sym under)
