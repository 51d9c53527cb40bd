-- A file that is stored piece by piece.
use Rattle.std.specs.Prelude.{◌≡◌, ℕ, List, ◌++◌, Option}
use Rattle.std.specs.Option.{option_map}
use Rattle.shelf_io.specs.Shelf.{Files, put}

-- A front of all the bytes stands under the name, and what is left of them is still to come. The other files are as before.
pub record IsStoring (before now : Option Files) (name all left : List ℕ) : Type 0 where
  pub front : List ℕ
  pub is : all ≡ front ++ left
  pub stands : now ≡ option_map (λ files. put files name front) before
