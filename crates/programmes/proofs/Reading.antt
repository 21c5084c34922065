-- What was listed lies within the text's room.
use mathlib.Core.Path.{◌≡◌, sym, ap, ◌∙◌}
use mathlib.Core.List.{List}
use Prim.Native.Nat.{ℕ, ◌≤◌}
use lib.ListN.{length}
use Rattle.programme_listing.specs.Listing.{listing, list_of}
use Rattle.std.specs.Prelude.{Result, Ok}
use Rattle.refusal.specs.declared.Refusal.{Refusal}
use Rattle.programme_listing.proofs.Short.{listed-within}

pub shown-within : (file out : List ℕ) (r : Result ℕ Refusal) (n : ℕ) (after : List ℕ) → listing r after ≡ list_of file out → r ≡ Ok n → n ≤ length after
shown-within file out r n after e q = (listed-within file out n after (ap (λ a. listing a after) (sym q) ∙ e)).0
