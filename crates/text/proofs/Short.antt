-- How long a number and a name are.
--   same-decimal, same-long   up to 99,999, or 9,999,999,999, a number is written as the lister writes it
--   decimal-most              no number is written in more than thirteen digits
--   decimal-one               a number below 10 is written in one
--   escaped-short             a name has at most four bytes for each of its own
use mathlib.Core.Path.{◌≡◌}
use mathlib.Core.List.{List, [], ◌∷◌}
use Prim.Native.Nat.{ℕ, zero, suc, ◌+◌, ◌*◌, ◌^◌, ◌<◌, ◌≤◌}
use native.Mathlib.Nat.{pow-le-pow_right, suc-add, zero-add, lt_of_lt_of_le}
use native.Mathlib.Omega.{arith}
use lib.ListN.{length, length-append}
use borrow.Author.Tests.{lt-leb}
use Rattle.base.proofs.Cases.{by}
use Rattle.file_listing.specs.Words as words
use Rattle.file_listing.specs.Words.{place, places}
use Rattle.file_listing.proofs.Short.{places-short}
use Rattle.text.specs.Words.{decimal, plain, shown, escaped}

module _ (n : ℕ) where
  place_none : (power : ℕ) → n < power → place power n ≡ []
  unfolding place
  place_none power h = rw (lt-leb power n h)

  -- above the highest power that the number reaches there is no digit
  none_above : (j k : ℕ) → n < 10 ^ suc k → places (j + k) n ≡ places k n
  unfolding places
  none_above zero k h = rw zero-add
  none_above (suc j) k h =
      let up : 10 ^ suc k ≤ 10 ^ suc (j + k) = pow-le-pow_right (omega arith) (omega arith) in
      rw (suc-add, place_none (10 ^ suc (j + k)) (lt_of_lt_of_le h up)) (none_above j k h)

  pub decimal-most : length (decimal n) ≤ 13
  unfolding decimal
  decimal-most = simp length-append (omega (arith, places-short 12 n))

  pub decimal-one : n < 10 → length (decimal n) ≤ 1
  unfolding decimal places
  decimal-one h = rw (none_above 12 0 h) (omega arith)

  pub same-decimal : n < 100000 → decimal n ≡ words.decimal n
  unfolding decimal words.decimal
  same-decimal h = rw (none_above 8 4 h)

  pub same-long : n < 10000000000 → decimal n ≡ words.long_decimal n
  unfolding decimal words.long_decimal
  same-long h = rw (none_above 3 9 h)

shown-short : (b : ℕ) → length (shown b) ≤ 4
unfolding shown
shown-short b = by (plain b) (λ t. rw t (omega arith)) (λ f. rw f (omega arith))

pub escaped-short : (name : List ℕ) → length (escaped name) ≤ 4 * length name
unfolding escaped
escaped-short [] = omega arith
escaped-short (b ∷ name) = simp length-append (omega (arith, shown-short b, escaped-short name))
