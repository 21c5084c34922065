-- The answer of `release_of`, by where the table is held.
--   release-refused, release-done    what it is
use mathlib.Core.Path.{◌≡◌, ap, ◌∙◌}
use mathlib.Core.Bool.{true}
use mathlib.Core.List.{List, []}
use Prim.Native.Nat.{ℕ}
use lib.ListN.{length}
use Rattle.berth.specs.Berth.{sections, wiped_where}
use Rattle.shelf.specs.Record.{free_place, with_place, place_of}
use Rattle.key.specs.declared.Key.{Key}
use Rattle.shelf.specs.Record.{Shelf}
use Rattle.shelf_ask.specs.Ask.{holding_of}
use Rattle.std.specs.Prelude.{Ok, Err}
use Rattle.refusal.specs.declared.Refusal.{Refusal}
use Rattle.shelf_ask.proofs.Held.{held, asked-refused, asked-held}
use Rattle.shelf_release.specs.Release.{After, release_of}

module _ (shelf : Shelf) (store : List ℕ) (key : Key) where
  abbrev pub refuse : Refusal → After
  refuse r = record { said = Err r; shelf = shelf; store = store }

  abbrev pub done : ℕ → After
  done p =
      record {
        said = Ok tt;
        shelf = with_place shelf p free_place;
        store = wiped_where (λ _. true) sections store p;
      }

  pub release-refused : (r : Refusal) → holding_of shelf (length store) key ≡ Err r → release_of shelf store key ≡ refuse r
  unfolding release_of
  release-refused r e = asked-refused refuse [] (done (place_of shelf key)) shelf (length store) key r e

  module _ (p : ℕ) (e : holding_of shelf (length store) key ≡ Ok p) where
    pub release-done : release_of shelf store key ≡ done p
    unfolding release_of
    release-done =
        asked-held refuse [] (done (place_of shelf key)) shelf (length store) key p e
        ∙ ap done (held shelf (length store) key p e).at
