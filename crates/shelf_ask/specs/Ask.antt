-- Document 01, "The shelf": what one may ask. Order of refusal: 17, 18, 14, 16, 15.
use Rattle.std.specs.Prelude.{ℕ, ◌+◌, List, [], ◌∷◌, ◌++◌, Bool, not, ltb, eqb, length, drop, if◌then◌else◌, Option, Some, None, Result, Ok, Err}
use Rattle.refusal.specs.declared.Refusal.{Refusal}
use Rattle.refusal.specs.declared.Refusal.TheVariants.{TableNotHeld, OutputTooSmall, SectionNotHeld, StoreSize, ShelfSpoiled}
use Rattle.base.specs.Choice.{Row, ◌if◌, first}
use Rattle.base.specs.Below.{every, lowest}
use Rattle.berth.specs.Berth.{places, store_size, standing}
use Rattle.shelf.specs.Record.{place_at, length_at, holds, spoiled_of, place_of}
use Rattle.key.specs.declared.Key.{Key}
use Rattle.shelf.specs.Record.{Place}
use Rattle.shelf.specs.Record.{Shelf}

-- every number from 0 to the last is held
unfoldable pub complete : Place → Bool
complete place = every (place.last + 1) (holds place)

-- the lowest number from 0 to the last that is not held, or one more than the last where none lacks
unfoldable pub lowest_missing : Place → ℕ
lowest_missing place = lowest (place.last + 1) (λ n. not (holds place n))

-- what a copy leaves: the answer, which is how many bytes now stand at the output's front, and the output
pub record Copy : Type 0 where
  pub said : Result ℕ Refusal
  pub out : List ℕ

abbrev pub copy : Result ℕ Refusal → List ℕ → Copy
copy said out = record { said = said; out = out }

-- 17, 18: the refusals of a record and a store of that size, before what a question looks for
abbrev pub unlent_by : Shelf → ℕ → List Row
unlent_by shelf size = StoreSize if not (eqb size store_size) ∷ ShelfSpoiled if spoiled_of shelf ∷ []

-- the first of them, where one is so
unfoldable pub unlent_of : Shelf → ℕ → Result (Unit {0}) Refusal
unlent_of shelf size = first Err (unlent_by shelf size) (Ok tt)

-- 17, 18, 14: the refusals of every question about a table
abbrev pub unasked_by : Shelf → ℕ → Key → List Row
unasked_by shelf size key = unlent_by shelf size ++ (TableNotHeld if eqb (place_of shelf key) places ∷ [])

-- the place of the table that is asked for
unfoldable pub holding_of : Shelf → ℕ → Key → Result ℕ Refusal
holding_of shelf size key = first Err (unasked_by shelf size key) (Ok (place_of shelf key))

-- its bytes of section n, copied out; output past them stays as it was
abbrev pub copy_from : Place → List ℕ → ℕ → ℕ → List ℕ → Copy
copy_from place store p n out =
    copy (Ok (length_at place n)) (standing store p n (length_at place n) ++ drop (length_at place n) out)

-- 16, 15: the refusals that are its own
abbrev pub uncopied : Place → ℕ → List ℕ → List Row
uncopied place n out =
    SectionNotHeld if not (holds place n)
    ∷ OutputTooSmall if ltb (length out) (length_at place n)
    ∷ []

module _ (shelf : Shelf) (store : List ℕ) (key : Key) where
  -- the table that is asked for
  abbrev pub asked : Place
  asked = place_at shelf (place_of shelf key)

  abbrev pub unasked : List Row
  unasked = unasked_by shelf (length store) key

  unfoldable pub copy_of : ℕ → List ℕ → Copy
  copy_of n out =
      first (λ r. copy (Err r) out) (unasked ++ uncopied asked n out) (copy_from asked store (place_of shelf key) n out)

  -- whether it is complete
  unfoldable pub whole_of : Result Bool Refusal
  whole_of = first Err unasked (Ok (complete asked))

  -- its lowest missing number; a complete table has none
  unfoldable pub missing_of : Result (Option ℕ) Refusal
  missing_of = first Err unasked (Ok (if complete asked then None else Some (lowest_missing asked)))
