-- At most 32 are held at any time of a history.
--   few   after any history from fresh, at most 32 are held
use mathlib.Core.Bool.{not}
use mathlib.Core.List.{List, [], ◌∷◌, map}
use Prim.Native.Nat.{ℕ, ◌≤◌}
use native.Mathlib.Omega.{arith}
use lib.ListN.{length, length-append, length-map}
use Rattle.clock_activation.specs.declared.Held.{Held}
use Rattle.clock_activation.specs.Limits.{most_held}
use Rattle.clock_record.proofs.Lists.{only-fewer}
use Rattle.clock_keep.specs.Keep.{kept_of, moved, forgotten}
use Rattle.clock_laws.specs.History.{Call, Moment, step, steps, after, nothing_yet}
use Rattle.clock_record.specs.Book.{fresh}
use Rattle.clock_laws.proofs.Cases.{offer-cases, move-cases}

pub kept-few : (to : ℕ) (l : List Held) → length (kept_of to l) ≤ length l
unfolding kept_of
kept-few to l =
    let n = only-fewer (λ (h : Held). not (forgotten to h)) (map (moved to) l) in
    let m = length-map l (moved to) in
    omega arith

step-few : (t : Moment) (x : Call) → length t.book.held ≤ most_held → length (step t x).book.held ≤ most_held
step-few t (Call.offer a) k =
    offer-cases t.book a (λ r. length r.book.held ≤ most_held) (λ n. k)
    (λ y h. let room = y.room in rw length-append (omega arith))
    (λ y h. let room = y.room in rw length-append (omega arith))
step-few t (Call.move to) k =
    move-cases t.book to (λ r. length r.book.held ≤ most_held) (λ n. k)
    (λ s h. let n = kept-few to t.book.held in omega arith)

steps-few : (t : Moment) (h : List Call) → length t.book.held ≤ most_held → length (steps t h).book.held ≤ most_held
steps-few t [] k = k
steps-few t (x ∷ h) k = steps-few (step t x) h (step-few t x k)

pub few : (h : List Call) → length (after h).book.held ≤ 32
few h = steps-few (record { book = fresh; account = nothing_yet }) h (omega arith)
