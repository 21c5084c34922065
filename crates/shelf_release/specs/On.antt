-- A release on lent numbers: the answer and the store are those of the release from the record that the numbers are.
use Rattle.std.specs.Prelude.{ℕ, List, Result, Ok, Err}
use Rattle.refusal.specs.declared.Refusal.{Refusal}
use Rattle.shelf.specs.Record.{place_of}
use Rattle.key.specs.declared.Key.{Key}
use Rattle.shelf.specs.Layout.{shelf_at}
use Rattle.shelf_write.specs.Writes.{freed_in}
use Rattle.shelf_release.specs.Release.{release_of}

-- what a call leaves: the answer, the numbers, the store
pub record Leaving : Type 0 where
  pub said : Result (Unit {0}) Refusal
  pub words : List ℕ
  pub store : List ℕ

abbrev pub leaving : Result (Unit {0}) Refusal → List ℕ → List ℕ → Leaving
leaving said words store = record { said = said; words = words; store = store }

-- the numbers after a release of place p
abbrev pub words_by : List ℕ → ℕ → Result (Unit {0}) Refusal → List ℕ
words_by words p (Ok done) = freed_in words p
words_by words p (Err r) = words

unfoldable pub release_on : List ℕ → List ℕ → Key → Leaving
release_on words store key =
    leaving
    (release_of (shelf_at words) store key).said
    (words_by words (place_of (shelf_at words) key) (release_of (shelf_at words) store key).said)
    (release_of (shelf_at words) store key).store
