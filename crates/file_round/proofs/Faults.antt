-- A load is refused by a number of the file exactly when neither 17 nor 18 is so and the file's first fault from the left has it.
--   load-fault     in the words of `Fault`
use mathlib.Core.Path.{◌≡◌}
use mathlib.Core.List.{List}
use mathlib.Core.Logic.Iff
use mathlib.Core.Logic.{◌↔◌}
use Prim.Native.Nat.{ℕ}
use Rattle.refusal.specs.Refusal as refusal
use Rattle.refusal.specs.declared.Refusal.{Refusal}
use Rattle.base.specs.Tables.{None}
use Rattle.shelf.specs.Record.{Shelf}
use Rattle.file_number.specs.Number.{Bytes}
use Rattle.file_laws.specs.Fault.{Fault}
use Rattle.file_laws.proofs.Faults.{refused-exactly}
use Rattle.shelf_load.proofs.Faults.{FileFault}
use Rattle.shelf_load.proofs.ExactlyWhen.{early, number, refused-file}

module _ (shelf : Shelf) (store file : List ℕ) (b : Bytes file) where
  pub load-fault : (r : Refusal) → FileFault (refusal.number r) → (number shelf store file ≡ refusal.number r) ↔ (None (early shelf store file) × Fault file r)
  load-fault r f =
      Iff.trans (refused-file shelf store file r f)
      (λ w. (w.0, (refused-exactly file b r).0 w.1), λ w. (w.0, (refused-exactly file b r).1 w.1))
