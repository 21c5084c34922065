-- "Given exactly when": document 01's numbers for saving, in their order 17, 18, 14, 15, and what is left where none of them is so.
--   save-table          the table in words
--   save-exactly        a number is given exactly when its words are so and those of none before it
--   save-none           none is given exactly when none is so
--   save-answered       and then the file stands at the front of the output, and what lies past it is as it was
--   save-untouched      a refused save leaves the output as it was
--   saved-largest       the file of a held table has at most 16,418 bytes
use mathlib.Core.Path.{◌≡◌, refl}
use mathlib.Core.List.{List, [], ◌∷◌, ◌++◌}
use mathlib.Core.Logic.Iff
use mathlib.Core.Logic.{◌↔◌}
use Prim.Native.Nat.{ℕ, ◌<◌, ◌≤◌}
use native.Mathlib.Omega.{arith}
use lib.ListN.{length}
use Rattle.base.specs.Choice.{Row}
use Rattle.base.specs.Tables.{Rule, ◌says◌, None, above, said, Agree}
use Rattle.base.proofs.Tables.{words, given, passed, silent, among}
use Rattle.shelf.specs.Record.{place_of}
use Rattle.key.specs.declared.Key.{Key}
use Rattle.shelf.specs.Record.{Shelf}
use Rattle.shelf_ask.specs.Ask.{unasked, holding_of}
use Rattle.std.specs.Prelude.{Ok, Err}
use Rattle.refusal.specs.Refusal.{number_of}
use Rattle.refusal.specs.declared.Refusal.{Refusal}
use Rattle.shelf.proofs.Words.{spoiled-exactly, not-held}
use Rattle.shelf_ask.proofs.ExactlyWhen.{asked-table, asked-decided}
use Rattle.file.specs.Layout.{largest_file}
use Rattle.shelf_save.specs.Save.{Save, refuse, unsaved, written, saved_file, save_of}
use Rattle.shelf_save.proofs.Saving.{held-stands, file-in, file-most}

-- the number of what a call leaves
abbrev num : Save → ℕ
num s = number_of s.said

module _ (shelf : Shelf) (store : List ℕ) (key : Key) where
  -- none of 17, 18 and 14: the table is held
  abbrev pub Asked : Type 0
  Asked = None (asked-table shelf store key)

  held_in_lem : Asked → holding_of shelf (length store) key ≡ Ok (place_of shelf key)
  unfolding holding_of
  held_in_lem none =
      silent Err (unasked shelf store key) (Ok (place_of shelf key)) (asked-table shelf store key) (asked-decided shelf store key) none

  pub saved-largest : Asked → length (saved_file shelf store key) ≤ largest_file
  saved-largest none =
      let e = held_in_lem none in
      rw (file-in shelf store key (place_of shelf key) e) (file-most (held-stands shelf store key (place_of shelf key) e))

  module _ (out : List ℕ) where
    -- 15: output too small
    abbrev pub TooSmall : Type 0
    TooSmall = length out < length (saved_file shelf store key)

    abbrev pub save-table : List Rule
    save-table = asked-table shelf store key ++ (15 says TooSmall ∷ [])

    abbrev rows : List Row
    rows = unasked shelf store key ++ unsaved (saved_file shelf store key) out

    decided : Agree rows save-table
    decided = search (words, spoiled-exactly, not-held)

    pub save-exactly : (n : ℕ) → 0 < n → (num (save_of shelf store key out) ≡ n) ↔ (None (above n save-table) × said n save-table)
    unfolding save_of
    save-exactly n p = given (refuse out) num (λ n. refl) rows (written (saved_file shelf store key) out) save-table decided refl n (omega arith)

    pub save-none : (num (save_of shelf store key out) ≡ 0) ↔ None save-table
    unfolding save_of
    save-none =
        Iff.trans (passed (refuse out) num (λ n. refl) rows (written (saved_file shelf store key) out) save-table decided 0 refl)
        (λ w. w.0, λ w. (w, refl))

    pub save-answered : None save-table → save_of shelf store key out ≡ written (saved_file shelf store key) out
    unfolding save_of
    save-answered w = silent (refuse out) rows (written (saved_file shelf store key) out) save-table decided w

    pub save-untouched : (r : Refusal) → (save_of shelf store key out).said ≡ Err r → (save_of shelf store key out).out ≡ out
    unfolding save_of
    save-untouched r e =
        among (refuse out) (λ s. s.said ≡ Err r → s.out ≡ out) rows (written (saved_file shelf store key) out)
        (λ _. refl, (λ _. refl, (λ _. refl, (λ _. refl, tt))))
        (λ q. absurd (let z : ◌≡◌ {A = ℕ} 0 1 = cc in omega arith)) e
