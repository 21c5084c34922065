-- How pieces of text follow each other over an output.
--   nothing, one       no bytes, and one
--   then, then-two     one piece after another is their join; so is one after a piece of two
--   Left               what is still to be written of a whole, as a loop keeps it; `all_left`, `step`, `finish`
--   behind-front       the place behind bytes at an output's front, where it can be told
--   at_front           a text that fits stands at the output's front, which past it stays as it was
--   over_nothing       over no bytes nothing is left
use mathlib.Core.Path.{◌≡◌, refl, sym, ◌∙◌}
use mathlib.Core.List.{List, [], ◌∷◌, ◌++◌, append_assoc}
use Prim.Native.Nat.{ℕ, suc, ◌+◌, ◌-◌, ◌<◌, ◌≤◌, ◌^◌}
use native.Mathlib.Nat.{add-zero, zero-add}
use native.Mathlib.Numerals.{add-one}
use native.Mathlib.Omega.{arith}
use borrow.Author.Tests.{lt-ltb}
use lib.ListN.{length, drop, set}
use lib.Seq.{sets, set_out, sets-eq}
use Rattle.text.specs.Over.{next_place, over, behind, Wrote}

pub nothing : (out : List ℕ) (at : ℕ) → Wrote [] out at out at
unfolding over behind
nothing out at = record { place = refl; leaves = refl }

module _ (out : List ℕ) (at b r : ℕ) (e : r ≡ next_place at) where
  pub one : Wrote (b ∷ []) out at (set out at b) r
  unfolding over behind
  one = record { place = e; leaves = refl }

  pub no_room : length out ≤ at → Wrote (b ∷ []) out at out r
  unfolding over behind
  no_room l = record { place = e; leaves = sym (set_out out at b l) }

behind-append : (a b : List ℕ) (at : ℕ) → behind at (a ++ b) ≡ behind (behind at a) b
unfolding behind
behind-append [] b at = refl
behind-append (x ∷ a) b at = behind-append a b (next_place at)

over-append : (a b out : List ℕ) (at : ℕ) → over out at (a ++ b) ≡ over (over out at a) (behind at a) b
unfolding over behind
over-append [] b out at = refl
over-append (x ∷ a) b out at = over-append a b (set out at x) (next_place at)

pub then : {a b out mid after : List ℕ} {at between end : ℕ} → Wrote a out at mid between → Wrote b mid between after end → Wrote (a ++ b) out at after end
then {a} {b} {out} {mid} {after} {at} {between} {end} v w =
    record {
      place = w.place ∙ rw v.place (sym (behind-append a b at));
      leaves = w.leaves ∙ rw (v.leaves, v.place) (sym (over-append a b out at));
    }

pub then-two : (a b : List ℕ) {c out mid after : List ℕ} {at between end : ℕ} → Wrote (a ++ b) out at mid between → Wrote c mid between after end
    → Wrote (a ++ (b ++ c)) out at after end
then-two a b {c} v w = rw (← append_assoc a b c) (then v w)

-- once the rest is written from here on, the whole was written
pub record Left (whole out : List ℕ) (at : ℕ) (rest now : List ℕ) (here : ℕ) : Type 0 where
  pub ends : (after : List ℕ) (end : ℕ) → Wrote rest now here after end → Wrote whole out at after end

pub all_left : (whole out : List ℕ) (at : ℕ) → Left whole out at whole out at
all_left whole out at = record { ends = λ after end w. w }

module _ {whole out now : List ℕ} {at here : ℕ} where
  pub step : {a rest now' : List ℕ} {here' : ℕ} → Left whole out at (a ++ rest) now here → Wrote a now here now' here' → Left whole out at rest now' here'
  step l v = record { ends = λ after end w. l.ends after end (then v w) }

  pub finish : {rest after : List ℕ} {end : ℕ} → Left whole out at rest now here → Wrote rest now here after end → Wrote whole out at after end
  finish {rest} {after} {end} l w = l.ends after end w

  pub none_left : Left whole out at [] now here → Wrote whole out at now here
  none_left l = l.ends now here (nothing now here)

-- a place that is not the highest
counted : (at : ℕ) → at + 1 < 2 ^ 64 → next_place at ≡ at + 1
unfolding next_place
counted at l = rw (lt-ltb at (2 ^ 64 - 1) (omega arith))

over-sets : (bytes out : List ℕ) (at : ℕ) → at + length bytes < 2 ^ 64 → over out at bytes ≡ sets out at bytes
unfolding over
over-sets [] out at l = refl
over-sets (b ∷ bytes) out at l = rw (counted at (omega arith), add-one) (over-sets bytes (set out at b) (suc at) (omega arith))

behind_sum : (bytes : List ℕ) (at : ℕ) → at + length bytes < 2 ^ 64 → behind at bytes ≡ at + length bytes
unfolding behind
behind_sum [] at l = sym (add-zero at)
behind_sum (b ∷ bytes) at l = rw (counted at (omega arith)) (behind_sum bytes (at + 1) (omega arith) ∙ omega arith)

pub behind-front : (bytes : List ℕ) → length bytes < 2 ^ 64 → behind 0 bytes ≡ length bytes
behind-front bytes s = behind_sum bytes 0 (omega arith) ∙ zero-add (length bytes)

pub at_front : (bytes out : List ℕ) → length bytes < 2 ^ 64 → length bytes ≤ length out → over out 0 bytes ≡ bytes ++ drop (length bytes) out
at_front bytes out s l = over-sets bytes out 0 (omega arith) ∙ sets-eq bytes out 0 (omega arith) ∙ rw zero-add

pub over_nothing : (bytes : List ℕ) (at : ℕ) → over [] at bytes ≡ []
unfolding over
over_nothing [] at = refl
over_nothing (b ∷ bytes) at = over_nothing bytes (next_place at)
