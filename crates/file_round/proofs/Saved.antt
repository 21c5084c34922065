-- What is saved of a kept table.
--   saved-answer     there is room: the file stands at the front of the output
--   saved-bytes      what a save that was not refused wrote
use mathlib.Core.Path.{◌≡◌}
use mathlib.Core.List.{List}
use Prim.Native.Nat.{ℕ, ◌<◌, ◌≤◌}
use native.Mathlib.Omega.{arith}
use lib.Dec.{eqb, ltb}
use lib.ListN.{length, take}
use lib.Seq.{take-append_seam}
use borrow.Author.Tests.{eq-eqb, ne_eqb, eqb-false, le-ltb}
use Rattle.std.specs.Prelude.{Result, Ok, Err}
use Rattle.refusal.specs.declared.Refusal.{Refusal}
use Rattle.base.proofs.Cases.{by}
use Rattle.berth.specs.Berth.{places, store_size}
use Rattle.shelf.specs.Record.{place_of}
use Rattle.key.specs.declared.Key.{Key}
use Rattle.shelf.proofs.Find.{place-le}
use Rattle.shelf_save.specs.Save.{written, saved_file, save_of}
use Rattle.shelf_laws.specs.State.{State, save_out}
use Rattle.shelf_laws.proofs.Kept.{Good}

module _ (s : State) (key : Key) where
  -- the file of the table with that key
  abbrev pub file_from : List ℕ
  file_from = saved_file s.shelf s.store key

  module _ (g : Good s) (out : List ℕ) where
    pub saved-answer : place_of s.shelf key < places → length file_from ≤ length out → save_out s key out ≡ written file_from out
    unfolding save_of
    saved-answer i l =
        rw (
          eq-eqb (length s.store) store_size g.lent,
          g.unspoiled,
          ne_eqb (place_of s.shelf key) places (λ e. omega arith),
          le-ltb (length out) (length file_from) l,
        )

    -- a save that wrote n bytes
    pub record Wrote (n : ℕ) : Type 0 where
      pub held : place_of s.shelf key < places
      pub file : take n (save_out s key out).out ≡ file_from

    apart : {r : Refusal} {n : ℕ} {A : Type 0} → ◌≡◌ {A = Result ℕ Refusal} (Err r) (Ok n) → A
    apart e = absurd cc

    pub saved-bytes : (n : ℕ) → (save_out s key out).said ≡ Ok n → Wrote n
    unfolding save_of
    saved-bytes n =
        rw (eq-eqb (length s.store) store_size g.lent, g.unspoiled)
        (by (eqb (place_of s.shelf key) places)
        (λ t. rw t (λ e. apart e))
        (λ f.
        by (ltb (length out) (length file_from))
        (λ t. rw (f, t) (λ e. apart e))
        (λ u.
        rw (f, u)
        (λ e.
        let m : length file_from ≡ n = cc in
        let ne : place_of s.shelf key ≡ places → ⊥ = eqb-false _ _ f in
        record {
          held = omega (arith, place-le s.shelf key);
          file = rw (← m, f, u, eq-eqb (length s.store) store_size g.lent, g.unspoiled) (take-append_seam file_from _);
        }))))
