-- Document 01, "The shelf file": saving. From any store, the held lengths and the bytes that stand in their berths. Order of
-- refusal: 17, 18, 14, 15.
use Rattle.std.specs.Prelude.{ℕ, List, [], ◌∷◌, ◌++◌, ltb, length, get_or, drop, Result, Ok, Err}
use Rattle.refusal.specs.declared.Refusal.{Refusal}
use Rattle.refusal.specs.declared.Refusal.TheVariants.{OutputTooSmall}
use Rattle.base.specs.Choice.{Row, ◌if◌, first}
use Rattle.berth.specs.Berth.{sections, standing}
use Rattle.shelf.specs.Record.{place_of}
use Rattle.key.specs.declared.Key.{Key}
use Rattle.shelf.specs.Record.{Shelf}
use Rattle.shelf_ask.specs.Ask.{unasked, asked}
use Rattle.file.specs.Layout.{file_of, chosen}
use Rattle.file.specs.Scan.{found_at}

-- the held sections of place p among the first k numbers, by rising number: the bytes that stand in their berths
unfoldable pub held_below : ℕ → List ℕ → List ℕ → ℕ → List (List ℕ)
held_below k lengths store p = chosen k (found_at lengths) (λ n. standing store p n (get_or lengths n 0))

-- the file of the table in place p, by its held lengths
unfoldable pub place_file : List ℕ → List ℕ → ℕ → List ℕ
place_file lengths store p = file_of (held_below sections lengths store p)

-- what a call leaves: the answer, which is how many bytes now stand at the output's front, and the output
pub record Save : Type 0 where
  pub said : Result ℕ Refusal
  pub out : List ℕ

abbrev pub save : Result ℕ Refusal → List ℕ → Save
save said out = record { said = said; out = out }

-- 15: output too small
abbrev pub unsaved : List ℕ → List ℕ → List Row
unsaved file out = OutputTooSmall if ltb (length out) (length file) ∷ []

-- a file at the front of the output; bytes past it stay as they were
abbrev pub written : List ℕ → List ℕ → Save
written file out = save (Ok (length file)) (file ++ drop (length file) out)

-- a refused call leaves the output as it was
abbrev pub refuse : List ℕ → Refusal → Save
refuse out r = save (Err r) out

-- the table in place p
unfoldable pub place_saved : List ℕ → List ℕ → ℕ → List ℕ → Save
place_saved lengths store p out =
    first (refuse out) (unsaved (place_file lengths store p) out) (written (place_file lengths store p) out)

module _ (shelf : Shelf) (store : List ℕ) (key : Key) where
  -- the file of the table with that key
  unfoldable pub saved_file : List ℕ
  saved_file = place_file (asked shelf store key).lengths store (place_of shelf key)

  unfoldable pub save_of : List ℕ → Save
  save_of out = first (refuse out) (unasked shelf store key ++ unsaved saved_file out) (written saved_file out)
