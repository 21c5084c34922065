-- How a word and a name are written byte by byte.
--   word-step, word_end, name-step, name-end     what is left of them after one byte more, and after the last
--   as-it-is, in-digits                          a byte of a name
use mathlib.Core.Path.{◌≡◌}
use mathlib.Core.Bool.{true, false}
use mathlib.Core.List.{List, [], ◌∷◌}
use Prim.Native.Nat.{ℕ, ◌+◌, ◌/◌, ◌%◌, ◌<◌, ◌≤◌}
use native.Mathlib.Numerals.{add-one}
use lib.ListN.{length, get_or, drop, drop_of_length-le}
use lib.Seq.{drop-cons}
use Rattle.text.specs.Words.{hex_digit, plain, shown, escaped}
use Rattle.text.specs.Over.{Wrote}
use Rattle.text.proofs.Writing.{Left, step, none_left}

module _ {whole out now : List ℕ} {at here : ℕ} (w : List ℕ) (i : ℕ) where
  pub word-step : {now' : List ℕ} {here' : ℕ} → i < length w → Left whole out at (drop i w) now here → Wrote (get_or w i 0 ∷ []) now here now' here'
      → Left whole out at (drop (i + 1) w) now' here'
  word-step h l v = rw add-one (step (rw (drop-cons w i 0 h) at l) v)

  pub word_end : length w ≤ i → Left whole out at (drop i w) now here → Wrote whole out at now here
  word_end h l = none_left (rw (drop_of_length-le w h) at l)

  pub name-step : {now' : List ℕ} {here' : ℕ} → i < length w → Left whole out at (escaped (drop i w)) now here
      → Wrote (shown (get_or w i 0)) now here now' here' → Left whole out at (escaped (drop (i + 1) w)) now' here'
  unfolding escaped
  name-step h l v = rw add-one (step (rw (drop-cons w i 0 h) at l) v)

  pub name-end : length w ≤ i → Left whole out at (escaped (drop i w)) now here → Wrote whole out at now here
  unfolding escaped
  name-end h l = none_left (rw (drop_of_length-le w h) at l)

module _ {out after : List ℕ} {at end : ℕ} (b : ℕ) where
  pub as-it-is : plain b ≡ true → Wrote (b ∷ []) out at after end → Wrote (shown b) out at after end
  unfolding shown
  as-it-is e w = rw e w

  pub in-digits : plain b ≡ false → Wrote (92 ∷ 120 ∷ hex_digit (b / 16) ∷ hex_digit (b % 16) ∷ []) out at after end → Wrote (shown b) out at after end
  unfolding shown
  in-digits e w = rw e w
