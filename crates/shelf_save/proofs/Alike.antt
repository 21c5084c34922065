-- What a free place happens to hold never matters: records that are equal (`Same` of the shelf) are saved alike.
--   save-same     the same answer and the same output
use mathlib.Core.Path.{◌≡◌, sym, ap, ◌∙◌}
use mathlib.Core.List.{List}
use Prim.Native.Nat.{ℕ}
use lib.ListN.{length}
use Rattle.shelf.specs.Record.{Same}
use Rattle.key.specs.declared.Key.{Key}
use Rattle.shelf.specs.Record.{Shelf}
use Rattle.shelf_ask.specs.Ask.{holding_of}
use Rattle.shelf_ask.proofs.Alike.{by-holding, holding-same, asked-same}
use Rattle.shelf_save.specs.Save.{place_saved, save_of}
use Rattle.shelf_save.proofs.Saving.{save-refused, save-held}

module _ (a b : Shelf) (s : Same a b) (store : List ℕ) (key : Key) (out : List ℕ) where
  pub save-same : save_of a store key out ≡ save_of b store key out
  save-same =
      by-holding (holding_of a (length store) key)
      (λ p e.
      sym (save-held a store key out p e)
      ∙ ap (λ place. place_saved place.lengths store p out) (asked-same a b s key (length store) p e)
      ∙ save-held b store key out p (sym (holding-same a b s key (length store)) ∙ e))
      (λ k e.
      sym (save-refused a store key out k e)
      ∙ save-refused b store key out k (sym (holding-same a b s key (length store)) ∙ e))
