-- A host loses nothing by the answer in one number (`specs/Answer.antt` has the words).
--   list_comes_back, list_fills
--   list-told        what listing promised, told in this number
use mathlib.Core.Path.{◌≡◌, refl, ap, ◌∙◌}
use mathlib.Core.List.{List, [], ◌∷◌, ◌++◌}
use Prim.Native.Nat.{ℕ, ◌^◌, ◌<◌}
use native.Mathlib.Omega.{arith}
use lib.Dec.{ltb}
use lib.ListN.{length, drop}
use Rattle.base.specs.Choice.{◌if◌}
use Rattle.base.specs.Octets.{Octets}
use Rattle.base.proofs.Tables.{among}
use Rattle.answers.specs.Answers.{out, sized}
use Rattle.answers.proofs.Fills.{size_back, through, fills}
use Rattle.file_listing.specs.Listing.{text_of, Listing, listing, list_of}
use Rattle.file_listing.specs.Answer.{listed_in, list_out, list_lent, ListComesBack, ListFills}
use Rattle.std.specs.Prelude.{Result, Ok, Err}
use Rattle.refusal.specs.declared.Refusal.{Refusal}
use Rattle.refusal.specs.declared.Refusal.TheVariants.{OutputTooSmall}
use Rattle.refusal.specs.Refusal.{refusal_of}
use Rattle.file_listing.proofs.Short.{text_short}

module _ (file : List ℕ) (b : Octets file) (old : List ℕ) where
  small : length (text_of file) < 2 ^ 16
  small = let l = text_short file b in omega arith

  pub list_comes_back : ListComesBack file old
  unfolding list_lent list_of
  list_comes_back =
      among (λ r. listing (Err r) old) (λ (l : Listing). listed_in (sized l.said) ≡ l.said)
      (OutputTooSmall if ltb (length old) (length (text_of file)) ∷ [])
      (listing (Ok (length (text_of file))) (text_of file ++ drop (length (text_of file)) old))
      (refl, tt)
      (size_back Ok (λ n. Err (refusal_of n)) (length (text_of file)) small)

  pub list_fills : ListFills file old
  unfolding list_lent list_of
  list_fills =
      rw (through list_out (λ r. listing (Err r) old) (OutputTooSmall if ltb (length old) (length (text_of file)) ∷ [])
      (listing (Ok (length (text_of file))) (text_of file ++ drop (length (text_of file)) old)))
      (fills (text_of file) old (OutputTooSmall if ltb (length old) (length (text_of file)) ∷ []) small)

pub list-told : (file o o' : List ℕ) (r : Result ℕ Refusal) (code : ℕ)
    → listing r o' ≡ list_of file o → code ≡ sized r → out code o' ≡ list_lent file o
unfolding list_lent
list-told file o o' r code e q = ap (λ n. out n o') q ∙ ap list_out e
