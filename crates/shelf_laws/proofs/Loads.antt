-- What a load is answered after a history, by the file's scan and the log alone.
--   loaded-exactly
use mathlib.Core.Path.{◌≡◌, refl, sym, ap, subst, ◌∙◌}
use mathlib.Core.Bool.{true, false}
use mathlib.Core.List.{List}
use Prim.Native.Nat.{ℕ, ◌<◌, ◌≤◌}
use native.Mathlib.Omega.{arith}
use lib.Dec.{eqb}
use lib.ListN.{length}
use borrow.Author.Tests.{eq-eqb, ne_eqb, eqb-true}
use Rattle.std.specs.Prelude.{Result, Ok, Err}
use Rattle.refusal.specs.Refusal.{number}
use Rattle.refusal.specs.declared.Refusal.{Refusal}
use Rattle.refusal.specs.declared.Refusal.TheVariants.{NoFreePlace, KeyHeld}
use Rattle.refusal.proofs.Numbers.{once}
use Rattle.base.proofs.Cases.{by, unlike}
use Rattle.berth.specs.Berth.{places, store_size}
use Rattle.shelf.specs.Record.{key_of, place_of, free_of}
use Rattle.file.specs.Scan.{scan_of}
use Rattle.file.specs.declared.Table.{Table}
use Rattle.shelf_load.specs.Load.{After, answered, table_of, load_of}
use Rattle.shelf_laws.specs.State.{State, load_on}
use Rattle.shelf_laws.specs.History.{Call, Entry, after_all, log_of}
use Rattle.shelf_laws.specs.Log.{held_by, Full}
use Rattle.shelf_laws.specs.Loads.{TableSays, FileSays}
use Rattle.shelf_laws.specs.Laws.{LoadedExactly}
use Rattle.shelf_laws.proofs.Places.{placed}
use Rattle.shelf_laws.proofs.Kept.{Good}
use Rattle.shelf_laws.proofs.Loaded.{Reason, Goes, goes}
use Rattle.shelf_laws.proofs.Histories.{holds-all}
use Rattle.shelf_laws.proofs.Held.{held_place, unheld-place, place-held, place-unheld}
use Rattle.shelf_laws.proofs.Full.{none-full, full-none}

module _ (h : List Call) (file : List ℕ) where
  abbrev s : State
  s = after_all h

  abbrev log : List Entry
  log = log_of h

  good : Good s
  good = (holds-all h).good

  -- the log says what was answered
  says-refused : {scan : Result Table Refusal} {r : Refusal} → Reason s file scan r → FileSays scan log (Err r)
  says-refused (Reason.17-store _ l) = absurd (l good.lent)
  says-refused (Reason.18-spoiled _ e) = absurd (unlike (sym e ∙ good.unspoiled))
  says-refused (Reason.faulty r _) = refl
  says-refused (Reason.13-held t held) =
      let le : place_of s.shelf (key_of t.header) ≤ places = placed s.shelf (key_of t.header) in place-held h (key_of t.header) (omega arith)
  says-refused (Reason.9-full t e f) = (place-unheld h (key_of t.header) e, none-full h f)

  says : {scan : Result Table Refusal} {r : After} → Goes s file scan r → FileSays scan log r.said
  says (Goes.refuses _ _ y) = says-refused y
  says (Goes.done t _ _ _ e f) = (place-unheld h (key_of t.header) e, λ full. let z : free_of s.shelf ≡ places = full-none h full in omega arith)

  -- and is answered what the log says
  said-file : load_on s file ≡ answered s.shelf s.store file (scan_of file)
  unfolding load_of
  said-file = rw (eq-eqb (length s.store) store_size good.lent, good.unspoiled)

  said-table : (t : Table) (a : Result (Unit {0}) Refusal) → TableSays t.header log a → (table_of s.shelf s.store file t).said ≡ a
  unfolding table_of
  said-table t (Ok done) w =
      rw (eq-eqb _ _ (unheld-place h (key_of t.header) w.0), ne_eqb (free_of s.shelf) places (λ e. w.1 (none-full h e)))
  said-table t (Err r) w =
      by (eqb (number r) 13)
      (λ e.
      let held : held_by (key_of t.header) log ≡ true = rw e at w in
      let i : place_of s.shelf (key_of t.header) < places = held_place h (key_of t.header) held in
      rw (ne_eqb (place_of s.shelf (key_of t.header)) places (λ z. omega arith)) (ap Err (once KeyHeld r (sym (eqb-true _ _ e)))))
      (λ e.
      by (eqb (number r) 9)
      (λ f.
      let full : (held_by (key_of t.header) log ≡ false) × Full log = rw (e, f) at w in
      rw (eq-eqb _ _ (unheld-place h (key_of t.header) full.0), eq-eqb _ _ (full-none h full.1)) (ap Err (once NoFreePlace r (sym (eqb-true _ _ f)))))
      (λ f. absurd (rw (e, f) at w)))

  said-by : (scan : Result Table Refusal) (a : Result (Unit {0}) Refusal) → FileSays scan log a → (answered s.shelf s.store file scan).said ≡ a
  said-by (Ok t) a w = said-table t a w
  said-by (Err r) a w = sym w

pub loaded-exactly : LoadedExactly
loaded-exactly h file a = (
  λ e. subst (FileSays (scan_of file) (log_of h)) e (says h file (goes (after_all h) file)),
  λ w. ap (λ r. r.said) (said-file h file) ∙ said-by h file (scan_of file) a w,
)
