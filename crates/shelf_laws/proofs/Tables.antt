-- Which tables are held after a history, and which table a load holds.
--   held-told, told-held      a held table is told by a place as the log tells it, and a place tells no other
--   told-once                 no table is told twice
--   load_told                 a load gives a place the table that the file's own question tells
use Rattle.std.specs.Prelude.{Result}
use mathlib.Core.Path.{◌≡◌, refl, sym, ap, ◌∙◌}
use mathlib.Core.Bool.{true, false, not}
use mathlib.Core.List.{List, []}
use mathlib.Core.Logic.{inl, inr}
use Prim.Native.Nat.{ℕ, ◌<◌, ◌≤◌}
use native.Mathlib.Omega.{arith}
use lib.Dec.{eqb, ltb}
use lib.ListN.{length, get_or-eq_default}
use borrow.Author.Tests.{eqb-true, ltb-true, ltb-false}
use Rattle.refusal.specs.declared.Refusal.{Refusal}
use Rattle.refusal.specs.declared.Refusal.TheVariants.{TableNotHeld}
use Rattle.base.proofs.Cases.{by, unlike}
use Rattle.answers.specs.Answers.{told}
use Rattle.tables.specs.Numbers.{table_numbers}
use Rattle.berth.specs.Berth.{sections, places}
use Rattle.shelf.specs.Record.{Place, place_at, length_at, place_of, free_of}
use Rattle.key.specs.declared.Key.{Key}
use Rattle.shelf.proofs.Lists.{filled-all}
use Rattle.shelf_ask.specs.Tables.{place_table}
use Rattle.shelf_ask.proofs.Tables.{taken-14, taken-place, told-refused, told-table, place-by}
use Rattle.shelf_load.specs.Load.{After, loaded_place}
use Rattle.file.specs.declared.Table.{Table}
use Rattle.file.specs.Scan.{scan_of}
use Rattle.file_table.specs.Answer.{file_told, told_by}
use Rattle.shelf_laws.specs.File.{lengths_in}
use Rattle.shelf_laws.specs.State.{State, load_on, after_load}
use Rattle.shelf_laws.specs.Answers.{is_done}
use Rattle.shelf_laws.specs.History.{Call, Entry, after_all, log_of}
use Rattle.shelf_laws.specs.Log.{held_by, since}
use Rattle.shelf_laws.specs.Tables.{length_since, numbers_by, tells_of, HeldTold, ToldHeld, ToldOnce, LoadTold}
use Rattle.shelf_laws.proofs.Places.{has-key, its_key, is-taken, at_same, place-of}
use Rattle.shelf_laws.proofs.Kept.{Good, Kept, kept-key}
use Rattle.shelf_laws.proofs.Loaded.{Goes, goes, load-good}
use Rattle.shelf_laws.proofs.Histories.{logged_table, holds-all}
use Rattle.shelf_laws.proofs.Held.{held_place, place-held}

-- what a place of a good shelf tells
module _ (s : State) (g : Good s) (p : ℕ) where
  tells-taken : p < places → (place_at s.shelf p).taken ≡ true → tells_of s p ≡ told 0 (table_numbers (place_table (place_at s.shelf p)))
  tells-taken l t = told-table s.shelf (length s.store) p p (taken-place s.shelf (length s.store) p g.lent g.unspoiled l t)

  tells-free : (place_at s.shelf p).taken ≡ false → tells_of s p ≡ told 14 []
  tells-free f = told-refused s.shelf (length s.store) p TableNotHeld (taken-14 s.shelf (length s.store) p g.lent g.unspoiled f)

  -- there are four places
  taken-below : (place_at s.shelf p).taken ≡ true → p < places
  taken-below t =
      by (ltb p places)
      (λ l. ltb-true _ _ l)
      (λ f.
      let four : length (s.shelf).places ≡ places = g.formed.four in
      let past : places ≤ p = ltb-false _ _ f in
      absurd (unlike (sym t ∙ ap (λ (x : Place). x.taken) (get_or-eq_default (s.shelf).places _ {n = p} (omega arith)))))

module _ (h : List Call) (key : Key) (t : held_by key (log_of h) ≡ true) where
  abbrev s : State
  s = after_all h

  abbrev log : List Entry
  log = log_of h

  abbrev at : ℕ
  at = place_of s.shelf key

  good : Good s
  good = (holds-all h).good

  kept : Kept s key at (logged_table key log)
  kept = ((holds-all h).table key).kept (held_place h key t)

  zero_held : (n : ℕ) → not (eqb n 0) ≡ false → n ≡ 0
  zero_held n e = by (eqb n 0) (λ z. eqb-true _ _ z) (λ z. absurd (unlike (rw z at e)))

  length-kept : (n : ℕ) → n < sections → length_at (place_at s.shelf at) n ≡ length_since key log n
  length-kept n i =
      by (since key log n)
      (λ y. rw y (kept.lengths n i y))
      (λ f. rw f (zero_held (length_at (place_at s.shelf at) n) (kept.numbers n i ∙ f)))

  numbers-kept : table_numbers (place_table (place_at s.shelf at)) ≡ numbers_by key log
  numbers-kept =
      let k : (place_at s.shelf at).key ≡ key = its_key (place_at s.shelf at) key (kept-key s kept) in
      let l = filled-all (place_at s.shelf at).lengths sections sections (length_since key log) refl (good.formed.sixteen at kept.taken) length-kept in
      rw (k, kept.version, kept.last, l)

  pub told_at : tells_of s at ≡ told 0 (numbers_by key log)
  told_at =
      tells-taken s good at kept.taken (is-taken (place_at s.shelf at) key (kept-key s kept)) ∙ ap (told 0) numbers-kept

pub held-told : HeldTold
held-told h key t = (place_of (after_all h).shelf key, held_place h key t, told_at h key t)

pub told-held : ToldHeld
told-held h p =
    let s = after_all h in
    let g = (holds-all h).good in
    by (place_at s.shelf p).taken
    (λ t.
    let key = (place_at s.shelf p).key in
    let low = taken-below s g p t in
    let here : place_of s.shelf key ≡ p = place-of s.shelf key g.unspoiled p low (has-key (place_at s.shelf p) key t refl) in
    let held = place-held h key (rw here low) in
    inr (low, (key, held, ap (tells_of s) (sym here) ∙ told_at h key held)))
    (λ f. inl (tells-free s g p f))

-- two places that tell the same table have its key
pub told-once : ToldOnce
told-once h p q e =
    let s = after_all h in
    let g = (holds-all h).good in
    by (place_at s.shelf p).taken
    (λ t.
    let i = taken-below s g p t in
    by (place_at s.shelf q).taken
    (λ u.
    let j = taken-below s g q u in
    let same : told 0 (table_numbers (place_table (place_at s.shelf p))) ≡ told 0 (table_numbers (place_table (place_at s.shelf q))) =
    sym (tells-taken s g p i t) ∙ e ∙ tells-taken s g q j u in
    let values : table_numbers (place_table (place_at s.shelf p)) ≡ table_numbers (place_table (place_at s.shelf q)) = ap (λ x. x.values) same in
    let key : (place_at s.shelf p).key ≡ (place_at s.shelf q).key = ap (λ (x : Place). x.key) (place-by (place_at s.shelf p) (place_at s.shelf q) (t ∙ sym u) values) in
    let here = place-of s.shelf (place_at s.shelf q).key g.unspoiled p i (has-key (place_at s.shelf p) (place_at s.shelf q).key t key) in
    let there = place-of s.shelf (place_at s.shelf q).key g.unspoiled q j (has-key (place_at s.shelf q) (place_at s.shelf q).key u refl) in
    inr (sym here ∙ there))
    (λ u.
    let z : 0 ≡ 14 = ap (λ x. x.number) (sym (tells-taken s g p i t) ∙ e ∙ tells-free s g q u) in
    absurd (omega arith)))
    (λ f. inl (tells-free s g p f))

-- a load that is done gives the lowest free place the file's table
module _ (s : State) (g : Good s) (file : List ℕ) where
  placed-goes : {scan : Result Table Refusal} {r : After} → scan_of file ≡ scan → Goes s file scan r → is_done r.said ≡ true
      → ((place_at r.shelf (free_of s.shelf)).taken ≡ true)
      × (told 0 (table_numbers (place_table (place_at r.shelf (free_of s.shelf)))) ≡ told_by scan)
      × (free_of s.shelf < places)
  placed-goes q (Goes.refuses _ _ _) e = absurd (unlike (sym e))
  placed-goes q (Goes.done table c l u _ f) e =
      let w = at_same s.shelf g.formed (free_of s.shelf) f (loaded_place table.header (lengths_in (scan_of file))) in (
        ap (λ (x : Place). x.taken) w,
        ap (λ (x : Place). told 0 (table_numbers (place_table x))) w
            ∙ ap (λ scan. told 0 (table_numbers (place_table (loaded_place table.header (lengths_in scan))))) q,
        f,
      )

pub load_told : LoadTold
unfolding file_told
load_told h file e =
    let s = after_all h in
    let g = (holds-all h).good in
    let k = placed-goes s g file refl (goes s file) (ap is_done e) in (
      ap (λ t. t.number) (sym k.1),
      k.2,
      tells-taken (after_load (load_on s file)) (load-good s file g) (free_of s.shelf) k.2 k.0 ∙ k.1,
    )
