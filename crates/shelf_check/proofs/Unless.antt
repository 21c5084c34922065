-- The number that is answered unless the record is spoiled.
--   spoiled, unspoiled     which of the two it is
--   record-so              what is so of an array of 96 is so of the numbers that it is
--   told-by-0              where 0 is handed in, what is answered tells whether it is spoiled
use mathlib.Core.Path.{◌≡◌, sym, ap, ◌∙◌}
use mathlib.Core.List.{List}
use mathlib.Core.Bool.{Bool, true, false, not}
use Prim.Native.Nat.{ℕ}
use lib.Dec.{eqb}
use Rattle.std.specs.Array.{IsWholeChunk}
use Rattle.shelf.specs.Record.{spoiled_of}
use Rattle.shelf.specs.Layout.{shelf_in, shelf_at}
use Rattle.shelf.proofs.Numbers.{at_count}
use Rattle.shelf_check.specs.Unless.{unless_spoiled}

pub record-so : {words array : List ℕ} {b : Bool} → IsWholeChunk words array 96 → b ≡ spoiled_of (shelf_in array) → b ≡ spoiled_of (shelf_at words)
record-so {words} w e = e ∙ ap (λ l. spoiled_of (shelf_in l)) w.same ∙ ap spoiled_of (sym (at_count words w.long))

pub spoiled : {b : Bool} (number : ℕ) → b ≡ true → 18 ≡ unless_spoiled b number
unfolding unless_spoiled
spoiled number s = rw s

pub unspoiled : {b : Bool} (number : ℕ) → b ≡ false → number ≡ unless_spoiled b number
unfolding unless_spoiled
unspoiled number s = rw s

pub told-by-0 : {r : ℕ} (b : Bool) → r ≡ unless_spoiled b 0 → not (eqb r 0) ≡ b
unfolding unless_spoiled
told-by-0 true e = rw e
told-by-0 false e = rw e
