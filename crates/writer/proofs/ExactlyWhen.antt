-- "Given exactly when": the numbers 59, 40, 41, 42 and 15, in their order, and what is left where none of them is so
-- (`specs/Theorems.antt` has the words).
--   count_exactly, count_answered                  the count of sections
--   write_exactly, write_none, write_answered      a section
use mathlib.Core.Path.{refl}
use mathlib.Core.List.{List}
use Prim.Native.Nat.{ℕ, ◌+◌}
use native.Mathlib.Omega.{arith}
use Rattle.base.specs.Tables.{Agree}
use Rattle.base.proofs.Tables.{words, given, number-first, silent}
use Rattle.answers.proofs.Fills.{zero-exactly}
use Rattle.writer.specs.Writer.{last_of, written, uncounted, count_of, Write, unwritten, refuse, placed, write_of}
use Rattle.writer.specs.Answer.{counted_code}
use Rattle.writer.specs.Theorems.{count_table, CountExactly, CountAnswered, write_table, WriteExactly, WriteNone, WriteAnswered}
use Rattle.std.specs.Prelude.{Ok, Err}
use Rattle.answers.specs.Answers.{sized}
use Rattle.writer.specs.declared.Label.{Label}

module _ (table size : ℕ) where
  counted : Agree (uncounted table size) (count_table table size)
  counted = search words

  pub count_exactly : CountExactly table size
  unfolding count_of
  count_exactly n p q =
      given Err counted_code (λ r. refl) (uncounted table size) (Ok (last_of size + 1)) (count_table table size) counted refl n (λ e. omega arith)

  pub count_answered : CountAnswered table size
  unfolding count_of
  count_answered w = silent Err (uncounted table size) (Ok (last_of size + 1)) (count_table table size) counted w

-- the number of what a call leaves
abbrev code : Write → ℕ
code w = sized w.said

module _ (label : Label) (body : List ℕ) (k : ℕ) (out : List ℕ) where
  decided : Agree (unwritten label body k out) (write_table label body k out)
  decided = search words

  pub write_exactly : WriteExactly label body k out
  unfolding write_of
  write_exactly n p q =
      given (refuse out) code (λ r. refl) (unwritten label body k out) (placed (written label body k) out) (write_table label body k out) decided refl n (λ e. omega arith)

  pub write_none : WriteNone label body k out
  unfolding write_of
  write_none =
      rw (number-first (refuse out) code (λ r. refl) (unwritten label body k out) (placed (written label body k) out))
      (zero-exactly (unwritten label body k out) (write_table label body k out) decided (code (placed (written label body k) out)) (omega arith))

  pub write_answered : WriteAnswered label body k out
  unfolding write_of
  write_answered w = silent (refuse out) (unwritten label body k out) (placed (written label body k) out) (write_table label body k out) decided w
